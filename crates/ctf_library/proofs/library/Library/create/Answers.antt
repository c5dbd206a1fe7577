use Rattle.std.proofs.Common.{◌≡◌, ◌≤◌, ◌+◌, ◌++◌, List, [], ◌∷◌, map, rules, inl, ap, sym, ◌∙◌, arith}
use Rattle.std.specs.Prelude.{codes}
use Rattle.ctf_library.proofs.Counting.{counted_charge}
use Rattle.ctf_library.proofs.Quota.{create_done}
use Rattle.ctf_library.specs.Charged.{bytes_in}
use Rattle.ctf_library.specs.SlotView.{slot_of}
use Rattle.ctf_library.specs.declared.slots.Slot as own
use Rattle.ctf_protocol.specs.answers.Answers.{says}
use Rattle.ctf_protocol.specs.answers.Answers as answers
use Rattle.ctf_protocol.specs.sessions.Charges.{charge, slot_bytes}
use Rattle.ctf_protocol.specs.sessions.State.{State}
use Rattle.ctf_protocol.specs.sessions.Outcomes.{grants, quota}
use Rattle.ctf_protocol.specs.sessions.Steps.{creates}
use Rattle.ctf_library.proofs.library.Library.create.Goals as goal

pub overflow_add-self : goal.overflow_add-self
overflow_add-self c =
    let view : State = record { slots = map slot_of c.reserve.new.self.items; next = c.self.inside.next; stage = c.self.inside.stage; published = c.self.inside.published } in
    let same : view ≡ c.args.self.now = ap (λ (xs : List own.Slot). record view { slots = map slot_of xs }) c.reserve.ensures.items ∙ c.self.view_is in
    let le : charge view + slot_bytes (slot_of c.in_ok-slot.slot) ≤ quota = c.in_ok-slot.ensures.room in
    let charged = ap charge same ∙ counted_charge _ _ _ _ _ _ c.self.view_is c.self.invariant.2 in
    let count = c.bytes.ensures in
    omega (arith, le, charged, count)

pub invariant_of-self-3 : goal.invariant_of-self-3
invariant_of-self-3 c =
    let view : State = record { slots = map slot_of c.reserve.new.self.items; next = c.self.inside.next; stage = c.self.inside.stage; published = c.self.inside.published } in
    let same : view ≡ c.args.self.now = ap (λ (xs : List own.Slot). record view { slots = map slot_of xs }) c.reserve.ensures.items ∙ c.self.view_is in
    let le : charge view + slot_bytes (slot_of c.in_ok-slot.slot) ≤ quota = c.in_ok-slot.ensures.room in
    let charged = ap charge same ∙ counted_charge _ _ _ _ _ _ c.self.view_is c.self.invariant.2 in
    let count = c.bytes.ensures in
    let pushed = c.push.ensures.bytes in
    let items : bytes_in c.reserve.new.self.items ≡ bytes_in c.self.inside.slots.items = ap bytes_in c.reserve.ensures.items in
    let was = c.self.invariant.2.slots in
    (search rules, search rules, record { slots = omega (arith, pushed, items, was, count); small = omega (arith, le, charged, count) })

pub returns : goal.returns
returns c =
    let view : State = record { slots = map slot_of c.reserve.new.self.items; next = c.self.inside.next; stage = c.self.inside.stage; published = c.self.inside.published } in
    let same : view ≡ c.args.self.now = ap (λ (xs : List own.Slot). record view { slots = map slot_of xs }) c.reserve.ensures.items ∙ c.self.view_is in
    let le : charge view + slot_bytes (slot_of c.in_ok-slot.slot) ≤ quota = c.in_ok-slot.ensures.room in
    let done = c.in_ok-slot.ensures.ok.0 ∙ create_done (slot_of c.in_ok-slot.slot) view le in
    let to = ap (λ (s : State). creates c.args.creation.now s) (sym same) ∙ done ∙ ap (λ (s : State). grants (says (codes "d") (answers.number s.next) ∷ []) (record s { slots = s.slots ++ slot_of c.in_ok-slot.slot ∷ []; next = s.next + 1 })) same in
    rw to (inl (search rules, search rules))
