use Rattle.std.proofs.Common.{ℕ, List, Ok, ap, refl, sym, ◌∙◌}
use Rattle.std.proofs.lemmas.Result.{err_from_is_err_and}
use Rattle.ctf_library.specs.SlotView.{slot_of}
use Rattle.ctf_protocol.specs.sessions.Opened.{open_of, unsaid}
use Rattle.ctf_library.proofs.Creating.{either}
use Rattle.ctf_library.proofs.DraftSteps.{done_step, refused_step}
use Rattle.ctf_protocol.specs.answers.Answers.{Answer}
use Rattle.ctf_model.specs.opened.Steps.{label_added}
use Rattle.ctf_library.proofs.slots.Slot.add_label.Goals as goal

pub returns-clause-step : goal.returns-clause-step
returns-clause-step c =
    let s = slot_of c.args.self.now in
    let named = ap (λ (x : List ℕ). label_added (record { name = x; last = c.args.last }) (open_of s)) (sym c.as_slice.ensures.bytes) in
    done_step unsaid s _ c.add_part.new.self _ _ (named ∙ c.in_ok-add_part.ensures.ok) (ap (λ (a : Answer). Ok a) c.of_success.ensures)

pub returns-in_err-add_part-clause-step : goal.returns-in_err-add_part-clause-step
returns-in_err-add_part-clause-step c =
    let p = err_from_is_err_and c.from_residual.result c.from_residual.ensures.1 in
    let s = slot_of c.args.self.now in
    let named = ap (λ (x : List ℕ). label_added (record { name = x; last = c.args.last }) (open_of s)) (sym c.as_slice.ensures.bytes) in
    rw (p.1, p.2) (refused_step unsaid s _ c.add_part.new.self c.in_err-add_part.field-0.0 _ (either (λ e. named ∙ e) c.in_err-add_part.ensures.exact_err) c.in_err-add_part.ensures.as_before refl)
