use Rattle.std.specs.Prelude.{is_some, nat_lt}
use Rattle.std.proofs.lemmas.Bool.{le-ltb}
use Rattle.ctf_library.proofs.Creating.{map_there}
use Rattle.ctf_library.specs.SlotView.{slot_of}
use Rattle.ctf_library.specs.declared.slots.Slot as own
use Rattle.ctf_model.specs.opened.Open.{pending_in}
use Rattle.ctf_protocol.specs.sessions.Publications.{published_as}
use Rattle.ctf_protocol.specs.sessions.State.{Slot, State}
use Rattle.std.proofs.Common.{map, ◌≡◌, ◌≤◌, ◌+◌, ℕ, List, false, rules, refl, inl, ap, sym, subst, ◌∙◌, arith}
use Rattle.ctf_library.proofs.Rising.{non_decreasing}
use Rattle.ctf_library.proofs.Quota.{publishes_done, publishes_over, publishes_taken}
use Rattle.ctf_library.proofs.Rooms.{room_le, room_lt}
use Rattle.ctf_protocol.specs.sessions.Slots.{slot_at}
use Rattle.ctf_protocol.specs.sessions.Steps.{publishes_kept}
use Rattle.ctf_library.specs.Stepping.{Makes}
use Rattle.ctf_model.specs.spaces.Kept.{Kept}
use Rattle.ctf_model.specs.opened.Sizes.{kept_bytes}
use Rattle.ctf_library.proofs.library.Library.publish.Goals as goal

pub find-requires : goal.find-requires
find-requires c = non_decreasing _ _ _ c.self.invariant.1

-- nothing is pending
nothing_pending : (slot : Slot) (n : ℕ) → n ≡ pending_in slot.draft → n ≤ 0 → nat_lt 0 (pending_in slot.draft) ≡ false
nothing_pending slot n is le = le-ltb 0 (pending_in slot.draft) (omega (arith, is, le))

pub returns-then-is_some : goal.returns-then-is_some
returns-then-is_some c =
    let slot_at_d = ap (λ (s : State). slot_at c.args.d s.slots) (sym c.self.view_is) ∙ sym c.in-Some.ensures in
    let none = nothing_pending (slot_of c.in-Some.slot.now) c.pending.result c.pending.ensures c.if-pending-gt0.false in
    let taken = ap (λ (n : List ℕ). is_some (published_as n c.args.self.now.published)) (sym c.as_slice.ensures) ∙ ap is_some (sym c.publication.ensures) ∙ map_there _ c.publication.result ∙ sym c.is_some.ensures ∙ c.if-is_some.true in
    let to = publishes_taken c.args.d c.args.name.now (slot_of c.in-Some.slot.now) c.args.self.now slot_at_d none taken in
    rw to (inl (search rules, refl))

pub returns-then-not-fits : goal.returns-then-not-fits
returns-then-not-fits c =
    let slot_at_d = ap (λ (s : State). slot_at c.args.d s.slots) (sym c.self.view_is) ∙ sym c.in-Some.ensures in
    let none = nothing_pending (slot_of c.in-Some.slot.now) c.pending.result c.pending.ensures c.if-pending-gt0.false in
    let free = ap (λ (n : List ℕ). is_some (published_as n c.args.self.now.published)) (sym c.as_slice.ensures) ∙ ap is_some (sym c.publication.ensures) ∙ map_there _ c.publication.result ∙ sym c.is_some.ensures ∙ c.if-is_some.false in
    let lt = room_lt (c.charge.result + c.bytes.result) (sym c.fits.ensures ∙ c.if-not-fits.true) in
    let charged = c.charge.ensures in
    let count = c.bytes.ensures.count ∙ ap kept_bytes c.own.ensures in
    let to = publishes_over c.args.d c.args.name.now (slot_of c.in-Some.slot.now) c.args.self.now slot_at_d none free (omega (arith, lt, charged, count)) in
    rw to (inl (search rules, refl))

pub returns : goal.returns
returns c =
    let slot_at_d = ap (λ (s : State). slot_at c.args.d s.slots) (sym c.self.view_is) ∙ sym c.in-Some.ensures in
    let none = nothing_pending (slot_of c.in-Some.slot.now) c.pending.result c.pending.ensures c.if-pending-gt0.false in
    let le = room_le (c.charge.result + c.bytes.result) (sym c.fits.ensures ∙ c.if-not-fits.false) in
    let charged = c.charge.ensures in
    let count = c.bytes.ensures.count ∙ ap kept_bytes c.own.ensures in
    let to = publishes_done c.args.d c.args.name.now (slot_of c.in-Some.slot.now) c.args.self.now slot_at_d none (omega (arith, le, charged, count)) in
    rw to (subst (λ (k : Kept). Makes c.args.self.now (publishes_kept c.args.name.now k c.args.self.now) c.publish_loaded.result c.publish_loaded.new.self) (c.in_ok-loaded.ensures ∙ c.own-2.ensures) c.publish_loaded.ensures)
