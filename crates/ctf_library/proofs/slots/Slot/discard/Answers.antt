use Rattle.std.proofs.Common.{Ok, ap, sym, ◌∙◌}
use Rattle.std.proofs.lemmas.Result.{err_from_is_err_and}
use Rattle.ctf_library.specs.SlotView.{slot_of}
use Rattle.ctf_protocol.specs.sessions.Opened.{SlotOutcome, slot_with}
use Rattle.ctf_library.proofs.DraftSteps.{discards_as}
use Rattle.ctf_protocol.specs.answers.Answers.{Answer}
use Rattle.ctf_library.proofs.slots.Slot.discard.Goals as goal

pub returns-clause-said : goal.returns-clause-said
returns-clause-said c =
    ap (λ (a : Answer). Ok a) c.one.ensures ∙ sym (ap (λ (o : SlotOutcome). o.said) (discards_as (slot_of c.args.self.now) _ c.in_ok-types.ensures.ok))

pub returns-clause-slot : goal.returns-clause-slot
returns-clause-slot c = sym (ap (λ (o : SlotOutcome). o.slot) (discards_as (slot_of c.args.self.now) _ c.in_ok-types.ensures.ok))

pub returns-in_err-types-clause-said : goal.returns-in_err-types-clause-said
returns-in_err-types-clause-said c =
    let p = err_from_is_err_and c.from_residual.result c.from_residual.ensures.1 in
    rw (p.1, p.2) (sym (ap (λ (o : SlotOutcome). o.said) (discards_as (slot_of c.args.self.now) _ c.in_err-types.ensures.err)))

pub returns-in_err-types-clause-slot : goal.returns-in_err-types-clause-slot
returns-in_err-types-clause-slot c =
    ap (slot_with c.args.self.now.number) c.in_err-types.ensures.as_before ∙ sym (ap (λ (o : SlotOutcome). o.slot) (discards_as (slot_of c.args.self.now) _ c.in_err-types.ensures.err))
