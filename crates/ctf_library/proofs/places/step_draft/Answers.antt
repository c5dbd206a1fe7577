use Rattle.std.proofs.Common.{◌≡◌, ◌≤◌, ◌<◌, ◌+◌, ◌-◌, ◌⊎◌, ℕ, List, map, sum_by, Some, Err, refl, inl, inr, ap, sym, ◌∙◌, arith}
use Rattle.ctf_library.specs.SlotPlaces.{place_of}
use Rattle.ctf_library.specs.SlotView.{slot_of}
use Rattle.ctf_library.specs.Charged.{bytes_in}
use Rattle.ctf_library.specs.declared.slots.Slot as own
use Rattle.ctf_library.proofs.DraftPlaces.{discard_is_quiet, have_stepped}
use Rattle.ctf_library.proofs.Numbered.{is_place, is_nowhere}
use Rattle.ctf_library.proofs.Rising.{rise_set}
use Rattle.ctf_protocol.proofs.Charged.{with_bytes, without_bytes}
use Rattle.ctf_protocol.specs.sessions.Charges.{slot_bytes}
use Rattle.ctf_protocol.specs.sessions.State.{Slot}
use Rattle.ctf_protocol.specs.sessions.Outcomes.{quota}
use Rattle.ctf_library.proofs.places.step_draft.Goals as goal

pub returns-in_default-clause-slots : goal.returns-in_default-clause-slots
returns-in_default-clause-slots c =
    let placed = ap (λ (xs : List own.Slot). place_of c.args.number (map slot_of xs)) (sym c.deref.ensures.value) ∙ sym c.in_default.ensures in
    let none = (is_nowhere c.args.number (map slot_of c.args.slots.now.items) placed).found in
    rw none (ap Err c.placeless.ensures, refl)

pub index_mut-requires : goal.index_mut-requires
index_mut-requires c =
    let placed = ap (λ (xs : List own.Slot). place_of c.args.number (map slot_of xs)) (sym c.deref.ensures.value) ∙ sym c.in-Some.ensures in
    let inside = (is_place c.args.number c.args.slots.now.items c.in-Some.place placed).inside in
    grind (arith, inside)

pub step_slot-requires-clause-part : goal.step_slot-requires-clause-part
step_slot-requires-clause-part c =
    let placed = ap (λ (xs : List own.Slot). place_of c.args.number (map slot_of xs)) (sym c.deref.ensures.value) ∙ sym c.in-Some.ensures in
    let here = (is_place c.args.number c.args.slots.now.items c.in-Some.place placed).found c.index_mut.result.now ∙ ap (λ (s : own.Slot). Some (slot_of s)) (sym c.index_mut.ensures.value) in
    let less = without_bytes c.args.number (slot_of c.index_mut.result.now) (map slot_of c.args.slots.now.items) here in
    let counted = c.requires.counted in
    omega (arith, less, counted)

pub returns-clause-slots : goal.returns-clause-slots
returns-clause-slots c =
    let placed = ap (λ (xs : List own.Slot). place_of c.args.number (map slot_of xs)) (sym c.deref.ensures.value) ∙ sym c.in-Some.ensures in
    let p = is_place c.args.number c.args.slots.now.items c.in-Some.place placed in
    let here = p.found c.index_mut.result.now ∙ ap (λ (s : own.Slot). Some (slot_of s)) (sym c.index_mut.ensures.value) in
    let same = ap (λ (k : ℕ). c.args.others + (k - slot_bytes (slot_of c.index_mut.result.now))) c.requires.counted in
    have_stepped c.args.others _ c.args.step.now c.args.number c.args.slots.now.items c.in-Some.place c.index_mut.result.now _ _ p here same c.step_slot.ensures.step

pub returns-clause-counted : goal.returns-clause-counted
returns-clause-counted c =
    let placed = ap (λ (xs : List own.Slot). place_of c.args.number (map slot_of xs)) (sym c.deref.ensures.value) ∙ sym c.in-Some.ensures in
    let p = is_place c.args.number c.args.slots.now.items c.in-Some.place placed in
    let here = p.found c.index_mut.result.now ∙ ap (λ (s : own.Slot). Some (slot_of s)) (sym c.index_mut.ensures.value) in
    let old = slot_of c.index_mut.result.now in
    let new = slot_of c.step_slot.new.slot in
    let moved = with_bytes c.args.number old new (map slot_of c.args.slots.now.items) here in
    let replaced = ap (λ (xs : List Slot). sum_by slot_bytes xs) (p.replaced c.step_slot.new.slot) in
    let counted = c.requires.counted in
    let after = c.step_slot.ensures.counted in
    omega (arith, moved, replaced, counted, after)

pub returns-clause-rise : goal.returns-clause-rise
returns-clause-rise c = λ least next h. rise_set least c.args.slots.now.items next c.in-Some.place c.index_mut.result.now _ (c.step_slot.ensures.number ∙ ap (λ (s : own.Slot). s.number) c.index_mut.ensures.value) h
