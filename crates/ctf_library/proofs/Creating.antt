-- The result of a create.
use Rattle.std.proofs.Common.{◌≡◌, ◌+◌, ℕ, Option, Some, None, Result, Ok, Err, true, is_some, refl, ap, sym, ◌∙◌, ◌⊎◌, inl, inr}
use Rattle.std.specs.Prelude.{option_map, option_and_then}
use Rattle.ctf_library.specs.Quotas.{IsUncreated}
use Rattle.ctf_protocol.specs.sessions.Opened.{slot_made, slot_with}
use Rattle.ctf_library.proofs.Rooms.{room_lt}
use Rattle.ctf_open.specs.Quotas.{IsUncreated as IsUncreatedOpen}
use Rattle.ctf_model.specs.opened.Open.{Open}
use Rattle.ctf_model.specs.opened.Steps.{created}
use Rattle.ctf_model.specs.opened.Sizes.{kept_bytes, parent_bytes}
use Rattle.ctf_protocol.specs.sessions.Creations.{Created}
use Rattle.ctf_protocol.specs.sessions.DraftSteps.{created_slot, model_made}
use Rattle.ctf_model.specs.spaces.Kept.{Kept}
use Rattle.ctf_protocol.specs.sessions.State.{Slot, State}
use Rattle.ctf_protocol.proofs.StepWords.{adds_created, creates_from, creates_over}
use Rattle.ctf_protocol.specs.sessions.Outcomes.{quota, refuses}
use Rattle.ctf_protocol.specs.sessions.Slots.{has_room, slot_at}
use Rattle.ctf_protocol.specs.sessions.Steps.{creates}
use Rattle.ctf_model.specs.declared.faults.Fault.{Fault}
use Rattle.ctf_model.specs.declared.faults.TheConstants.Fault.{NO_SLOT}

-- ---- the slot

pub create_made : (n : ℕ) (above : Option Kept) (asked : Created) (o : Open) → created above asked.parname asked.parlabel (model_made above asked) ≡ Ok o → created_slot n above asked ≡ Ok (slot_with n o)
unfolding created_slot
create_made n above asked o is = ap (slot_made n) is

uncreated_as : (n others : ℕ) (r : Result Open Fault) (f : Fault) → IsUncreatedOpen r (Some (record { others = others; most = quota })) f → IsUncreated (slot_made n r) others f
uncreated_as n others (Ok o) f h = (h.0, room_lt (others + (kept_bytes o.own + parent_bytes o.parent)) h.1)
uncreated_as n others (Err g) f h = h

pub create_refused : (n others : ℕ) (above : Option Kept) (asked : Created) (f : Fault) → IsUncreatedOpen (created above asked.parname asked.parlabel (model_made above asked)) (Some (record { others = others; most = quota })) f → IsUncreated (created_slot n above asked) others f
unfolding created_slot
create_refused n others above asked f h = uncreated_as n others _ f h

-- ---- the library

from_there : (o : Option ℕ) (asked : Created) (state : State) (above : Option Kept) → above ≡ option_and_then (λ d. option_map (λ (s : Slot). s.kept) (slot_at d state.slots)) o → is_some above ≡ is_some o → creates_from o asked state ≡ creates_over above asked state
from_there None asked state above is there = rw is refl
from_there (Some p) asked state above is there = at (slot_at p state.slots) refl
  where
    at : (s : Option Slot) → slot_at p state.slots ≡ s → creates_from (Some p) asked state ≡ creates_over above asked state
    at None e =
        let none : above ≡ None = rw e at is in
        let clash = rw none at there in
        absurd cc
    at (Some slot) e =
        let some : above ≡ Some slot.kept = rw e at is in
        rw (e, some) refl

pub from_nowhere : (o : Option ℕ) (asked : Created) (state : State) → option_and_then (λ d. slot_at d state.slots) o ≡ None → is_some o ≡ true → creates_from o asked state ≡ refuses NO_SLOT state
from_nowhere None asked state none there = absurd cc
from_nowhere (Some p) asked state none there = rw none refl

-- ---- errors of either sort

pub either : {A B C : Type 0} → (B → C) → A ⊎ B → A ⊎ C
either f (inl a) = inl a
either f (inr b) = inr (f b)

pub map_there : {A B : Type 0} (f : A → B) (o : Option A) → is_some (option_map f o) ≡ is_some o
map_there f None = refl
map_there f (Some a) = refl

with_room : (above : Option Kept) (asked : Created) (state : State) (r : Result Slot Fault) → has_room state ≡ true → created_slot state.next above asked ≡ r → creates_over above asked state ≡ adds_created r state
with_room above asked state r room is = rw (room, is) refl

pub creates_done : (asked : Created) (state : State) (above : Option Kept) (n : ℕ) (r : Result Slot Fault) → above ≡ option_and_then (λ d. option_map (λ (s : Slot). s.kept) (slot_at d state.slots)) asked.parent → is_some above ≡ is_some asked.parent → has_room state ≡ true → n ≡ state.next → created_slot n above asked ≡ r → creates asked state ≡ adds_created r state
creates_done asked state above n r is there room next made =
    from_there asked.parent asked state above is there ∙ with_room above asked state r room (ap (λ (k : ℕ). created_slot k above asked) (sym next) ∙ made)
