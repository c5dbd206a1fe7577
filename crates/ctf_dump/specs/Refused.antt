-- Which file of a dump is refused, and how the dump ends. Source: ours.
use Rattle.std.specs.Prelude.{◌≡◌, ◌⊎◌, ◌++◌, ⊤, ℕ, List, Option, Some, None, codes, decimal}
use Rattle.std.specs.Option.{option_map}
use Rattle.ctf_dump.specs.declared.ends.DumpEnd.{DumpEnd}
use Rattle.ctf_dump.specs.declared.ends.DumpEnd.TheVariants.{Unread, Refused, Memory, Write}
use Rattle.ctf_dump.specs.declared.line.DumpFault.{DumpFault}
use Rattle.ctf_dump.specs.declared.line.DumpFault.TheVariants as fault
use Rattle.ctf_dump.specs.declared.inputs.InputFile.{InputFile}
use Rattle.ctf_dump.specs.declared.inputs.Inputs.{Inputs}
use Rattle.ctf_model.specs.rules.FaultNames.{name_of_fault}
use Rattle.ctf_model.specs.rules.Faults.{first_fault}
use Rattle.ctf_model.specs.format.Lists.{Lists}
use Rattle.ctf_model.specs.spaces.Space.{Space}
use Rattle.ctf_model.specs.spaces.Kept.{Kept, fault_over, kept_space}
use Rattle.ctf_model.specs.declared.faults.Fault.{Fault}

-- ---- inputs

abbrev pub bytes_of : Option InputFile → Option (List ℕ)
bytes_of file = option_map (λ f. f.bytes) file

-- the dictionary's lists, with its program's symbols and strings
abbrev pub own_lists : Inputs → Lists
own_lists i = record { ctf = i.ctf.bytes; sym = bytes_of i.sym; strs = bytes_of i.str }

-- the lists of a parent, which comes without symbols
abbrev pub parent_lists : InputFile → Lists
parent_lists f = record { ctf = f.bytes; sym = None; strs = None }

-- Files do not state a data model; it is given beside them, for all of them. So a parent always has
-- the model of its child.
abbrev pub own_kept : Inputs → Kept
own_kept i = record { lists = own_lists i; model = i.model }

abbrev pub parent_kept : Inputs → InputFile → Kept
parent_kept i f = record { lists = parent_lists f; model = i.model }

-- the dictionary, over its parent if one is given
abbrev pub space_in : Inputs → Space
space_in i = kept_space (own_kept i) (option_map (parent_kept i) i.parent)

-- ---- refusals

-- a file's name, and its fault
pub record Refusal : Type 0 where
  pub file : List ℕ
  pub fault : Fault

-- a refusal with this file's name, if there is a fault
abbrev pub in_file : InputFile → Option Fault → Option Refusal
in_file f fault = option_map (λ x. record { file = f.name.now; fault = x }) fault

-- the first refusal of two
abbrev pub or_else : Option Refusal → Option Refusal → Option Refusal
or_else None second = second
or_else (Some r) second = Some r

-- the parent is checked by itself, then as the parent of the dictionary; if it does not fit, the
-- dictionary's file is named
abbrev pub over : Inputs → Option InputFile → Option Refusal
over i None = None
over i (Some p) =
    or_else (in_file p (first_fault (parent_lists p)))
    (in_file i.ctf (fault_over (own_kept i) (parent_kept i p)))

-- the dictionary is checked first, then the parent
abbrev pub refusal : Inputs → Option Refusal
refusal i = or_else (in_file i.ctf (first_fault (own_lists i))) (over i i.parent)

-- ---- how a dump ends

-- the end of a dump before anything is written; it can run out of memory at any time
abbrev pub RefusedBy : Option Refusal → DumpEnd → Type 0
RefusedBy r (Unread file) = ⊥
RefusedBy r (Refused file fault) = r ≡ Some (record { file = file.now; fault = fault })
RefusedBy r Memory = ⊤
RefusedBy r Write = ⊥

-- the same, including a failed write, which is possible only if nothing is refused
abbrev pub EndsBy : Option Refusal → DumpEnd → Type 0
EndsBy r (Unread file) = ⊥
EndsBy r (Refused file fault) = r ≡ Some (record { file = file.now; fault = fault })
EndsBy r Memory = ⊤
EndsBy r Write = r ≡ None

-- the end of a dump that this fault stopped
abbrev pub end_after : DumpFault → DumpEnd
end_after fault.Memory = Memory
end_after fault.Write = Write

-- the error message, without the program's name in front
abbrev pub end_text : DumpEnd → List ℕ
end_text (Unread file) = file.now ++ codes ": Read"
end_text (Refused file fault) =
    file.now ++ (codes ": " ++ (name_of_fault fault.code ++ (codes " at " ++ decimal fault.place)))
end_text Memory = codes "Memory"
end_text Write = codes "Write"

-- the exit status for this end
abbrev pub status_after : DumpEnd → ℕ
status_after (Refused file fault) = 1
status_after (Unread file) = 3
status_after Write = 3
status_after Memory = 4

-- the exit statuses that a dump of these inputs may have: 0, or 3 for a failed write, or 1 if
-- refused; 4 for out of memory at any time
abbrev pub MayAnswer : Option Refusal → ℕ → Type 0
MayAnswer None status = (status ≡ 0) ⊎ ((status ≡ 3) ⊎ (status ≡ 4))
MayAnswer (Some r) status = (status ≡ 1) ⊎ (status ≡ 4)
