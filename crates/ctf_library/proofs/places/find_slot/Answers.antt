use Rattle.std.proofs.Common.{map, Some, ap, sym, ◌∙◌, arith}
use Rattle.ctf_library.specs.SlotView.{slot_of}
use Rattle.ctf_library.specs.declared.slots.Slot as own
use Rattle.ctf_library.proofs.Numbered.{is_place, is_nowhere}
use Rattle.ctf_library.proofs.places.find_slot.Goals as goal

pub bounds-slots-place : goal.bounds-slots-place
bounds-slots-place c =
    let inside = (is_place c.args.number c.args.slots.now c.in-Some.place (sym c.in-Some.ensures)).inside in
    grind (arith, inside)

pub offset_bounds-slots-place : goal.offset_bounds-slots-place
offset_bounds-slots-place c =
    let inside = (is_place c.args.number c.args.slots.now c.in-Some.place (sym c.in-Some.ensures)).inside in
    grind (arith, inside)

pub returns-in-Some : goal.returns-in-Some
returns-in-Some c =
    let same = ap (λ (s : own.Slot). Some (slot_of s)) c.index-slots-place.is in
    same ∙ sym ((is_place c.args.number c.args.slots.now c.in-Some.place (sym c.in-Some.ensures)).found c.index-slots-place.result)

pub returns-in-None : goal.returns-in-None
returns-in-None c = sym (is_nowhere c.args.number (map slot_of c.args.slots.now) (sym c.in-None.ensures)).found
