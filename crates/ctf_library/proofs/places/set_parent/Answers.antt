use Rattle.ctf_model.specs.drafts.Drafts.{Draft}
use Rattle.std.proofs.Common.{◌≡◌, ◌+◌, ℕ, List, sum_by, refl, map, Some, None, Option, IfSome, ap, sym, subst, ◌∙◌, arith}
use Rattle.ctf_protocol.specs.sessions.State.{Slot}
use Rattle.ctf_model.specs.spaces.Kept.{Kept, fault_over}
use Rattle.ctf_protocol.proofs.Charged.{parent_more}
use Rattle.ctf_protocol.specs.sessions.Charges.{slot_bytes}
use Rattle.ctf_model.specs.opened.Sizes.{kept_bytes, parent_bytes}
use Rattle.ctf_protocol.specs.sessions.Slots.{slot_at, slots_with_parent}
use Rattle.ctf_open.specs.Fitting.{AreTablesOf}
use Rattle.ctf_library.specs.SlotPlaces.{place_of}
use Rattle.ctf_library.specs.SlotView.{slot_of}
use Rattle.ctf_protocol.specs.sessions.Opened.{slot_with}
use Rattle.ctf_library.specs.declared.slots.Slot as own
use Rattle.ctf_library.proofs.Numbered.{is_place, is_nowhere, parent_counted}
use Rattle.ctf_library.proofs.Rising.{rise_set}
use Rattle.ctf_library.proofs.places.set_parent.Goals as goal

pub index_mut-slot-requires : goal.index_mut-slot-requires
index_mut-slot-requires c =
    let placed = ap (λ (xs : List own.Slot). place_of c.args.number (map slot_of xs)) (sym c.deref.ensures.value) ∙ sym c.in-Some.ensures in
    let inside = (is_place c.args.number c.args.slots.now.items c.in-Some.place placed).inside in
    grind (arith, inside)

pub adopt-requires-clause-undrafted : goal.adopt-requires-clause-undrafted
adopt-requires-clause-undrafted c =
    let placed = ap (λ (xs : List own.Slot). place_of c.args.number (map slot_of xs)) (sym c.deref.ensures.value) ∙ sym c.in-Some.ensures in
    let here = (is_place c.args.number c.args.slots.now.items c.in-Some.place placed).found c.index_mut-slot.result.now ∙ ap (λ (s : own.Slot). Some (slot_of s)) (sym c.index_mut-slot.ensures.value) in
    let D : Option Slot → Type 0 = λ o. IfSome o (λ slot. slot.draft ≡ None) in
    subst D here c.requires.undrafted

pub adopt-requires-clause-fits : goal.adopt-requires-clause-fits
adopt-requires-clause-fits c =
    let placed = ap (λ (xs : List own.Slot). place_of c.args.number (map slot_of xs)) (sym c.deref.ensures.value) ∙ sym c.in-Some.ensures in
    let here = (is_place c.args.number c.args.slots.now.items c.in-Some.place placed).found c.index_mut-slot.result.now ∙ ap (λ (s : own.Slot). Some (slot_of s)) (sym c.index_mut-slot.ensures.value) in
    let P : Option Slot → Type 0 = λ o. IfSome o (λ slot. fault_over slot.kept c.args.imported.parent ≡ None) in
    subst P here c.requires.fits

pub adopt-requires-clause-made : goal.adopt-requires-clause-made
adopt-requires-clause-made c =
    let placed = ap (λ (xs : List own.Slot). place_of c.args.number (map slot_of xs)) (sym c.deref.ensures.value) ∙ sym c.in-Some.ensures in
    let here = (is_place c.args.number c.args.slots.now.items c.in-Some.place placed).found c.index_mut-slot.result.now ∙ ap (λ (s : own.Slot). Some (slot_of s)) (sym c.index_mut-slot.ensures.value) in
    let L : Option Slot → Type 0 = λ o. IfSome o (λ slot. AreTablesOf slot.kept (Some c.args.imported.parent) c.args.imported.tables.value) in
    subst L here c.requires.made

pub returns-in-Some-clause-slots : goal.returns-in-Some-clause-slots
returns-in-Some-clause-slots c =
    let placed = ap (λ (xs : List own.Slot). place_of c.args.number (map slot_of xs)) (sym c.deref.ensures.value) ∙ sym c.in-Some.ensures in
    sym ((is_place c.args.number c.args.slots.now.items c.in-Some.place placed).with_parent c.args.imported.parent c.index_mut-slot.result.now _ (c.adopt.ensures.slot ∙ ap (λ (s : own.Slot). record (slot_of s) { parent = Some c.args.imported.parent }) c.index_mut-slot.ensures.value))

pub returns-in_default-clause-slots : goal.returns-in_default-clause-slots
returns-in_default-clause-slots c =
    let placed = ap (λ (xs : List own.Slot). place_of c.args.number (map slot_of xs)) (sym c.deref.ensures.value) ∙ sym c.in_default.ensures in
    sym ((is_nowhere c.args.number (map slot_of c.args.slots.now.items) placed).with_parent c.args.imported.parent)

pub returns-in-Some-clause-rise : goal.returns-in-Some-clause-rise
returns-in-Some-clause-rise c = λ least next h. rise_set least c.args.slots.now.items next c.in-Some.place c.index_mut-slot.result.now _ (c.adopt.ensures.number ∙ ap (λ (s : own.Slot). s.number) c.index_mut-slot.ensures.value) h

pub returns-in-Some-clause-bytes : goal.returns-in-Some-clause-bytes
returns-in-Some-clause-bytes c = parent_counted c.args.number c.args.imported.parent (map slot_of c.args.slots.now.items) _ _ refl (returns-in-Some-clause-slots c)

pub returns-in_default-clause-bytes : goal.returns-in_default-clause-bytes
returns-in_default-clause-bytes c = parent_counted c.args.number c.args.imported.parent (map slot_of c.args.slots.now.items) _ _ refl (returns-in_default-clause-slots c)
