use Rattle.std.proofs.Common.{ℕ, List, Ok, codes, ap, refl, sym, ◌∙◌}
use Rattle.std.proofs.lemmas.Result.{err_from_is_err_and}
use Rattle.ctf_library.specs.SlotView.{slot_of}
use Rattle.ctf_protocol.specs.sessions.Opened.{open_of}
use Rattle.ctf_library.proofs.Creating.{either}
use Rattle.ctf_library.proofs.DraftSteps.{done_step, refused_step, under}
use Rattle.ctf_protocol.specs.answers.Answers.{Answer}
use Rattle.ctf_model.specs.opened.Steps.{member_added}
use Rattle.ctf_library.proofs.slots.Slot.add_member.Goals as goal

pub returns-clause-step : goal.returns-clause-step
returns-clause-step c =
    let s = slot_of c.args.self.now in
    let named = ap (λ (x : List ℕ). member_added c.args.t.0 x c.args.tnum.0 c.args.offset (open_of s)) (sym c.as_slice.ensures.bytes) in
    done_step (under (codes "offset")) s _ c.add_part.new.self _ _ (named ∙ c.in_ok-offset.ensures.ok) (ap (λ (a : Answer). Ok a) c.one.ensures)

pub returns-in_err-offset-clause-step : goal.returns-in_err-offset-clause-step
returns-in_err-offset-clause-step c =
    let p = err_from_is_err_and c.from_residual.result c.from_residual.ensures.1 in
    let s = slot_of c.args.self.now in
    let named = ap (λ (x : List ℕ). member_added c.args.t.0 x c.args.tnum.0 c.args.offset (open_of s)) (sym c.as_slice.ensures.bytes) in
    rw (p.1, p.2) (refused_step (under (codes "offset")) s _ c.add_part.new.self c.in_err-offset.field-0.0 _ (either (λ e. named ∙ e) c.in_err-offset.ensures.exact_err) c.in_err-offset.ensures.as_before refl)
