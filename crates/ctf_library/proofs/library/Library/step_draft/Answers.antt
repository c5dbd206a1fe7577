use Rattle.std.proofs.Common.{◌≡◌, ◌-◌, map, ap, subst, ◌∙◌, arith}
use Rattle.ctf_library.proofs.Counting.{counted_charge}
use Rattle.ctf_library.proofs.DraftQuota.{made}
use Rattle.ctf_library.proofs.Rising.{non_decreasing}
use Rattle.ctf_library.specs.SlotView.{slot_of}
use Rattle.ctf_protocol.specs.sessions.Charges.{charge}
use Rattle.ctf_library.specs.Stepping.{Makes}
use Rattle.ctf_protocol.specs.sessions.State.{State}
use Rattle.ctf_protocol.specs.sessions.Steps.{steps_draft}
use Rattle.ctf_library.proofs.library.Library.step_draft.Goals as goal

pub overflow_sub-others : goal.overflow_sub-others
overflow_sub-others c =
    let charged = c.charge.ensures ∙ counted_charge _ _ _ _ _ _ c.self.view_is c.self.invariant.2 in
    omega (arith, charged)

pub step_draft-requires-clause-order : goal.step_draft-requires-clause-order
step_draft-requires-clause-order c = non_decreasing _ _ _ c.self.invariant.1

pub invariant_of-self : goal.invariant_of-self
invariant_of-self c =
    let charged = c.charge.ensures ∙ counted_charge _ _ _ _ _ _ c.self.view_is c.self.invariant.2 in
    let small = c.step_draft.ensures.small in
    (c.self.invariant.0, c.step_draft.ensures.rise _ c.self.invariant.1, record { slots = c.step_draft.ensures.counted; small = omega (arith, charged, small) })

pub returns-clause-step : goal.returns-clause-step
returns-clause-step c =
    let inside : State = record { slots = map slot_of c.self.inside.slots.items; next = c.self.inside.next; stage = c.self.inside.stage; published = c.self.inside.published } in
    let charged = c.charge.ensures ∙ counted_charge _ _ _ _ _ _ c.self.view_is c.self.invariant.2 in
    let same : charge inside ≡ charge c.args.self.now = ap charge c.self.view_is in
    let known = c.charge.ensures in
    let slots = c.self.invariant.2.slots in
    let new = map slot_of c.step_draft.new.self.items in
    subst (λ (s : State). Makes s (steps_draft c.args.d c.args.step.now s) c.step_draft.result (record inside { slots = new })) c.self.view_is (made (c.charge.result - c.self.inside.slot_bytes) c.args.step.now c.args.d inside new c.step_draft.result (omega (arith, charged, same, known, slots)) c.step_draft.ensures.slots)
