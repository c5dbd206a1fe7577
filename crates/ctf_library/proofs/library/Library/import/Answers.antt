use Rattle.std.proofs.Common.{◌≡◌, ◌<◌, ◌+◌, ◌-◌, ◌⊎◌, List, map, Option, Some, None, IfSome, false, is_some, rules, refl, inl, ap, sym, subst, ◌∙◌, arith}
use Rattle.std.proofs.lemmas.Result.{err_from_is_err_and}
use Rattle.ctf_library.specs.Charged.{bytes_in}
use Rattle.ctf_library.specs.SlotView.{slot_of}
use Rattle.ctf_library.specs.declared.slots.Slot as own
use Rattle.ctf_library.proofs.Counting.{counted_charge}
use Rattle.ctf_library.proofs.Quota.{imports_done, imports_refused}
use Rattle.ctf_library.proofs.Rooms.{room_le, room_lt}
use Rattle.ctf_library.proofs.Rising.{non_decreasing}
use Rattle.ctf_protocol.proofs.Charged.{slot_counts, without_bytes}
use Rattle.ctf_protocol.specs.sessions.Charges.{charge}
use Rattle.ctf_model.specs.rules.Refusals.{out_of_memory}
use Rattle.ctf_model.specs.spaces.Kept.{Kept, fault_over}
use Rattle.ctf_open.specs.Quotas.{IsUnserved}
use Rattle.ctf_model.specs.opened.Sizes.{kept_bytes, parent_bytes}
use Rattle.ctf_protocol.specs.sessions.State.{Slot, State}
use Rattle.ctf_protocol.specs.sessions.Outcomes.{quota}
use Rattle.ctf_protocol.specs.sessions.Slots.{slot_at}
use Rattle.ctf_library.proofs.library.Library.import.Goals as goal

pub find-requires : goal.find-requires
find-requires c = non_decreasing _ _ _ c.self.invariant.1

pub find-requires-2 : goal.find-requires-2
find-requires-2 c = non_decreasing _ _ _ c.self.invariant.1

pub set_parent-requires-clause-order : goal.set_parent-requires-clause-order
set_parent-requires-clause-order c = non_decreasing _ _ _ c.self.invariant.1

-- there is no draft
undrafted : {X : Type 0} (draft : Option X) → is_some draft ≡ false → draft ≡ None
undrafted None none = refl
undrafted (Some x) none = absurd cc

pub set_parent-requires-clause-undrafted : goal.set_parent-requires-clause-undrafted
set_parent-requires-clause-undrafted c =
    let own_child = sym c.in-Some.ensures in
    let plain : is_some (slot_of c.in-Some.child.now).draft ≡ false = sym c.is_drafted.ensures ∙ c.if-is_drafted.false in
    subst (λ (o : Option Slot). IfSome o (λ slot. slot.draft ≡ None)) (sym own_child) (undrafted (slot_of c.in-Some.child.now).draft plain)

pub overflow_sub-charge : goal.overflow_sub-charge
overflow_sub-charge c =
    let own_child = sym c.in-Some.ensures in
    let child_at = ap (λ (s : State). slot_at c.args.d s.slots) (sym c.self.view_is) ∙ own_child in
    let old = c.parent_bytes-old.ensures.count in
    let new = c.bytes-new.ensures.count ∙ ap kept_bytes c.own-parent.ensures in
    let known = c.charge.ensures in
    let counts = slot_counts c.args.d (slot_of c.in-Some.child.now) c.args.self.now child_at in
    omega (arith, old, known, counts)

pub returns-in_err-imported : goal.returns-in_err-imported
returns-in_err-imported c =
    let own_child = sym c.in-Some.ensures in
    let child_at = ap (λ (s : State). slot_at c.args.d s.slots) (sym c.self.view_is) ∙ own_child in
    let parent_at = ap (λ (s : State). slot_at c.args.parent s.slots) (sym c.self.view_is) ∙ sym c.in-Some-find.ensures in
    let plain = sym c.is_drafted.ensures ∙ c.if-is_drafted.false in
    let child = slot_of c.in-Some.child.now in
    let parent = slot_of c.in-Some-find.source.now in
    let old = c.parent_bytes-old.ensures.count in
    let new = c.bytes-new.ensures.count ∙ ap kept_bytes c.own-parent.ensures in
    let known = c.charge.ensures in
    let counts = slot_counts c.args.d child c.args.self.now child_at in
    let over : c.fits-has_room.result ≡ false → quota + parent_bytes child.parent < charge c.args.self.now + kept_bytes parent.kept = λ e. let lt = room_lt ((c.charge.result - c.parent_bytes-old.result) + c.bytes-new.result) (sym c.fits-has_room.ensures ∙ e) in omega (arith, lt, old, new, known, counts) in
    let refused = subst (λ (k : Kept). (c.in_err-imported.field-0.0 ≡ out_of_memory) ⊎ IsUnserved c.fits-has_room.result (fault_over child.kept k) c.in_err-imported.field-0.0) c.own-parent.ensures c.in_err-imported.ensures.exact_err in
    let p = err_from_is_err_and c.from_residual.result c.from_residual.ensures.1 in
    rw (p.1, p.2) (imports_refused c.args.d c.args.parent child parent c.args.self.now c.in_err-imported.field-0.0 c.fits-has_room.result child_at parent_at plain over refused)

pub overflow_sub-self : goal.overflow_sub-self
overflow_sub-self c =
    let own_child = sym c.in-Some.ensures in
    let child_at = ap (λ (s : State). slot_at c.args.d s.slots) (sym c.self.view_is) ∙ own_child in
    let old = c.parent_bytes-old.ensures.count in
    let less = without_bytes c.args.d (slot_of c.in-Some.child.now) (map slot_of c.self.inside.slots.items) own_child in
    let slots = c.self.invariant.2.slots in
    omega (arith, old, less, slots)

pub overflow_add-self : goal.overflow_add-self
overflow_add-self c =
    let le = room_le ((c.charge.result - c.parent_bytes-old.result) + c.bytes-new.result) (sym c.fits-has_room.ensures ∙ c.in_ok-imported.ensures.fits) in
    let charged = c.charge.ensures ∙ counted_charge _ _ _ _ _ _ c.self.view_is c.self.invariant.2 in
    omega (arith, le, charged)

pub invariant_of-self : goal.invariant_of-self
invariant_of-self c =
    let own_child = sym c.in-Some.ensures in
    let child_at = ap (λ (s : State). slot_at c.args.d s.slots) (sym c.self.view_is) ∙ own_child in
    let old = c.parent_bytes-old.ensures.count in
    let new = c.bytes-new.ensures.count ∙ ap kept_bytes c.own-parent.ensures in
    let known = c.charge.ensures in
    let le = room_le ((c.charge.result - c.parent_bytes-old.result) + c.bytes-new.result) (sym c.fits-has_room.ensures ∙ c.in_ok-imported.ensures.fits) in
    let charged = c.charge.ensures ∙ counted_charge _ _ _ _ _ _ c.self.view_is c.self.invariant.2 in
    let child = slot_of c.in-Some.child.now in
    let moved : bytes_in c.set_parent.new.self.items + parent_bytes child.parent ≡ bytes_in c.self.inside.slots.items + kept_bytes c.in_ok-imported.imported.parent = subst (λ (o : Option Slot). IfSome o (λ slot. bytes_in c.set_parent.new.self.items + parent_bytes slot.parent ≡ bytes_in c.self.inside.slots.items + kept_bytes c.in_ok-imported.imported.parent)) own_child c.set_parent.ensures.bytes in
    let shared = ap kept_bytes (c.in_ok-imported.ensures.parent ∙ c.own-parent.ensures) in
    let less = without_bytes c.args.d child (map slot_of c.self.inside.slots.items) own_child in
    let slots = c.self.invariant.2.slots in
    let counts = slot_counts c.args.d child c.args.self.now child_at in
    (c.self.invariant.0, c.set_parent.ensures.rise _ c.self.invariant.1, record { slots = omega (arith, moved, shared, less, slots, old, new); small = omega (arith, le, charged, less, slots, old) })

pub returns : goal.returns
returns c =
    let own_child = sym c.in-Some.ensures in
    let child_at = ap (λ (s : State). slot_at c.args.d s.slots) (sym c.self.view_is) ∙ own_child in
    let parent_at = ap (λ (s : State). slot_at c.args.parent s.slots) (sym c.self.view_is) ∙ sym c.in-Some-find.ensures in
    let plain = sym c.is_drafted.ensures ∙ c.if-is_drafted.false in
    let child = slot_of c.in-Some.child.now in
    let parent = slot_of c.in-Some-find.source.now in
    let old = c.parent_bytes-old.ensures.count in
    let new = c.bytes-new.ensures.count ∙ ap kept_bytes c.own-parent.ensures in
    let known = c.charge.ensures in
    let counts = slot_counts c.args.d child c.args.self.now child_at in
    let le = room_le ((c.charge.result - c.parent_bytes-old.result) + c.bytes-new.result) (sym c.fits-has_room.ensures ∙ c.in_ok-imported.ensures.fits) in
    let served = subst (λ (k : Kept). fault_over child.kept k ≡ None) c.own-parent.ensures c.in_ok-imported.ensures.exact_ok in
    let to = imports_done c.args.d c.args.parent child parent c.args.self.now child_at parent_at plain served (omega (arith, le, old, new, known, counts)) in
    rw to (inl (search rules, search rules))
