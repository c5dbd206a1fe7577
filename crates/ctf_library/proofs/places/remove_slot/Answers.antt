use Rattle.std.proofs.Common.{List, ◌+◌, map, sum_by, Some, ap, sym, ◌∙◌, arith}
use Rattle.ctf_protocol.proofs.Charged.{without_bytes}
use Rattle.ctf_protocol.specs.sessions.Charges.{slot_bytes}
use Rattle.ctf_protocol.specs.sessions.State.{Slot}
use Rattle.ctf_library.specs.SlotPlaces.{place_of}
use Rattle.ctf_library.specs.SlotView.{slot_of}
use Rattle.ctf_library.specs.declared.slots.Slot as own
use Rattle.ctf_library.proofs.Numbered.{is_place, is_nowhere}
use Rattle.ctf_library.proofs.Rising.{rise_removed}
use Rattle.ctf_library.proofs.places.remove_slot.Goals as goal

pub remove-requires : goal.remove-requires
remove-requires c =
    let placed = ap (λ (xs : List own.Slot). place_of c.args.number (map slot_of xs)) (sym c.deref.ensures.value) ∙ sym c.in-Some.ensures in
    let inside = (is_place c.args.number c.args.slots.now.items c.in-Some.place placed).inside in
    grind (arith, inside)

pub returns-in-Some-clause-slot : goal.returns-in-Some-clause-slot
returns-in-Some-clause-slot c =
    let placed = ap (λ (xs : List own.Slot). place_of c.args.number (map slot_of xs)) (sym c.deref.ensures.value) ∙ sym c.in-Some.ensures in
    ap (λ (s : own.Slot). Some (slot_of s)) c.remove.ensures.value ∙ sym ((is_place c.args.number c.args.slots.now.items c.in-Some.place placed).found c.remove.result)

pub returns-in-Some-clause-slots : goal.returns-in-Some-clause-slots
returns-in-Some-clause-slots c =
    let placed = ap (λ (xs : List own.Slot). place_of c.args.number (map slot_of xs)) (sym c.deref.ensures.value) ∙ sym c.in-Some.ensures in
    ap (map slot_of) c.remove.ensures.items ∙ sym (is_place c.args.number c.args.slots.now.items c.in-Some.place placed).without

pub returns-in-None-clause-slot : goal.returns-in-None-clause-slot
returns-in-None-clause-slot c =
    let placed = ap (λ (xs : List own.Slot). place_of c.args.number (map slot_of xs)) (sym c.deref.ensures.value) ∙ sym c.in-None.ensures in
    sym (is_nowhere c.args.number (map slot_of c.args.slots.now.items) placed).found

pub returns-in-None-clause-slots : goal.returns-in-None-clause-slots
returns-in-None-clause-slots c =
    let placed = ap (λ (xs : List own.Slot). place_of c.args.number (map slot_of xs)) (sym c.deref.ensures.value) ∙ sym c.in-None.ensures in
    sym (is_nowhere c.args.number (map slot_of c.args.slots.now.items) placed).without

pub returns-in-Some-clause-rise : goal.returns-in-Some-clause-rise
returns-in-Some-clause-rise c =
    let placed = ap (λ (xs : List own.Slot). place_of c.args.number (map slot_of xs)) (sym c.deref.ensures.value) ∙ sym c.in-Some.ensures in
    let inside = (is_place c.args.number c.args.slots.now.items c.in-Some.place placed).inside in
    λ least next h. rw c.remove.ensures.items (rise_removed least c.args.slots.now.items next c.in-Some.place inside h)

pub returns-in-Some-clause-bytes : goal.returns-in-Some-clause-bytes
returns-in-Some-clause-bytes c =
    let gone = slot_of c.remove.result in
    ap (λ (xs : List Slot). sum_by slot_bytes xs + slot_bytes gone) (returns-in-Some-clause-slots c)
    ∙ without_bytes c.args.number gone (map slot_of c.args.slots.now.items) (sym (returns-in-Some-clause-slot c))
