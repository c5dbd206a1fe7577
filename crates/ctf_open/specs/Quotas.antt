-- Refusals for lack of room in the quota. Source: ours.
use Rattle.std.specs.Prelude.{◌≡◌, ◌⊎◌, ◌+◌, ℕ, Bool, true, false, not, nat_lt, List, length, Option, Some, None, Result, Ok, Err}
use Rattle.ctf_model.specs.rules.Refusals.{placeless}
use Rattle.ctf_model.specs.declared.faults.Fault.{Fault}
use Rattle.ctf_model.specs.declared.faults.TheConstants.Fault.{QUOTA_FULL}
use Rattle.ctf_open.specs.declared.rooms.Room.{Room}
use Rattle.ctf_model.specs.opened.Open.{Open}
use Rattle.ctf_model.specs.opened.Sizes.{kept_bytes, parent_bytes}
use Rattle.ctf_model.specs.opened.Steps.{Stepped}

-- the import has a fault, or there is no room for the parent
abbrev pub IsUnserved : Bool → Option Fault → Fault → Type 0
IsUnserved fits fault f =
    (fault ≡ Some f) ⊎ ((f ≡ placeless QUOTA_FULL) × (fault ≡ None) × (fits ≡ false))

-- ---- drafts

-- there is room for this many bytes
abbrev pub fits_in : Option Room → ℕ → Bool
fits_in None bytes = true
fits_in (Some room) bytes = not (nat_lt room.most (room.others + bytes))

-- the bytes of a dictionary and its parent
abbrev pub open_bytes : Open → ℕ
open_bytes s = kept_bytes s.own + parent_bytes s.parent

-- the bytes are not written, or there is no room for them over the parent
abbrev pub IsUnwritten : Result (List ℕ) Fault → ℕ → Option Room → Fault → Type 0
IsUnwritten (Ok bytes) parent room f =
    (f ≡ placeless QUOTA_FULL) × (fits_in room (length bytes + parent) ≡ false)
IsUnwritten (Err fault) parent room f = f ≡ fault

-- the draft is not made, or there is no room for it
abbrev pub IsUncreated : Result Open Fault → Option Room → Fault → Type 0
IsUncreated (Ok s) room f = (f ≡ placeless QUOTA_FULL) × (fits_in room (open_bytes s) ≡ false)
IsUncreated (Err fault) room f = f ≡ fault

-- the step is refused, or there is no room for its result
abbrev pub IsRefused : Result Stepped Fault → Option Room → Fault → Type 0
IsRefused (Ok step) room f =
    (f ≡ placeless QUOTA_FULL) × (fits_in room (open_bytes step.served) ≡ false)
IsRefused (Err fault) room f = f ≡ fault
