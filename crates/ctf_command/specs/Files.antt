-- Reading a file. Source: ours.
use Rattle.std.specs.Prelude.{◌≡◌, ℕ, List, ⊤, Result, Ok, Err, Vec}
use Rattle.std.specs.declared.alloc.Global.{Global}
use Rattle.std.specs.Borrow.{Bor}
use Rattle.ctf_model.specs.rules.Refusals.{placeless}
use Rattle.ctf_model.specs.declared.faults.TheConstants.Fault.{STAGE_FULL}
use Rattle.ctf_dump.specs.declared.ends.DumpEnd.{DumpEnd}
use Rattle.ctf_dump.specs.declared.ends.DumpEnd.TheVariants.{Unread, Refused, Memory, Write}

-- the greatest length of a file, in bytes
abbrev pub longest_file : ℕ
longest_file = 67108864

-- relates a file's name to its bytes, or to the reason that it was not read
abbrev pub Readings : Type 1
Readings = List ℕ → Result (List ℕ) DumpEnd → Type 0

-- the bytes of a file, or the reason that it was not read
abbrev pub bytes_given : Result (Vec ℕ Global) DumpEnd → Result (List ℕ) DumpEnd
bytes_given (Ok bytes) = Ok bytes.items
bytes_given (Err end) = Err end

-- why a file was not read: it is too long (and then `Long` holds), it cannot be opened or read, or
-- memory ran out
abbrev pub IsUnread : Bor (List ℕ) → Type 0 → DumpEnd → Type 0
IsUnread name Long (Refused file fault) =
    (file ≡ name) × (fault ≡ placeless STAGE_FULL) × Long
IsUnread name Long (Unread file) = file ≡ name
IsUnread name Long Memory = ⊤
IsUnread name Long Write = ⊥
