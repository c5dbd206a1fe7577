use Rattle.std.proofs.Common.{ℕ, List, Ok, codes, ap, refl, sym, ◌∙◌}
use Rattle.std.proofs.lemmas.Result.{err_from_is_err_and}
use Rattle.ctf_library.specs.SlotView.{slot_of}
use Rattle.ctf_protocol.specs.sessions.Opened.{open_of}
use Rattle.ctf_library.proofs.Creating.{either}
use Rattle.ctf_library.proofs.DraftSteps.{done_step, refused_step, under}
use Rattle.ctf_protocol.specs.answers.Answers.{Answer}
use Rattle.ctf_model.specs.opened.Steps.{type_added}
use Rattle.ctf_draft.specs.NewView.{new_body_of}
use Rattle.ctf_model.specs.drafts.NewTypes.{NewBody}
use Rattle.ctf_library.proofs.slots.Slot.add_type.Goals as goal

pub returns-clause-step : goal.returns-clause-step
returns-clause-step c =
    let s = slot_of c.args.self.now in
    let asked = ap (λ (b : NewBody). type_added (record { name = c.args.name.now; root = c.args.root; body = b }) (open_of s)) (sym c.body.ensures) ∙ ap (λ (x : List ℕ). type_added (record { name = x; root = c.args.root; body = new_body_of c.body.result }) (open_of s)) (sym c.as_slice.ensures.bytes) in
    done_step (under (codes "t")) s _ c.add.new.self _ _ (asked ∙ c.in_ok-t.ensures.ok) (ap (λ (a : Answer). Ok a) (c.one.ensures ∙ ap (under (codes "t")) c.from.ensures))

pub returns-in_err-t-clause-step : goal.returns-in_err-t-clause-step
returns-in_err-t-clause-step c =
    let p = err_from_is_err_and c.from_residual.result c.from_residual.ensures.1 in
    let s = slot_of c.args.self.now in
    let asked = ap (λ (b : NewBody). type_added (record { name = c.args.name.now; root = c.args.root; body = b }) (open_of s)) (sym c.body.ensures) ∙ ap (λ (x : List ℕ). type_added (record { name = x; root = c.args.root; body = new_body_of c.body.result }) (open_of s)) (sym c.as_slice.ensures.bytes) in
    rw (p.1, p.2) (refused_step (under (codes "t")) s _ c.add.new.self c.in_err-t.field-0.0 _ (either (λ e. asked ∙ e) c.in_err-t.ensures.exact_err) c.in_err-t.ensures.as_before refl)
