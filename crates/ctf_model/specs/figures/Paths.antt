-- The position of a member of a member. Source: libctf(3LIB), ctf_member_info; the path is ours.
use Rattle.std.specs.Prelude.{ℕ, ◌+◌, ◌^◌, nat_lt, List, [], ◌∷◌, Option, Some, None, Result, Ok, Err, if◌then◌else◌}
use Rattle.std.specs.Str.{bytes_eq}
use Rattle.ctf_model.specs.figures.Figures.{resolved_type, too_big}
use Rattle.ctf_model.specs.format.Shown.{members_in, shown}
use Rattle.ctf_model.specs.spaces.Space.{Space, space_type}
use Rattle.ctf_model.specs.format.Term.{Term, Member}
use Rattle.ctf_model.specs.declared.faults.Fault.{Fault}
use Rattle.ctf_model.specs.declared.faults.TheConstants.Fault.{NO_MEMBER, NOT_AGGREGATE}

-- a position in a value: the bits before it, and the type declared there
pub record Position : Type 0 where
  pub offset : ℕ
  pub tnum : ℕ

-- the members of a looked-up struct or union
abbrev pub members_found : Result Term Fault → Option (List Member)
members_found (Err f) = None
members_found (Ok x) = members_in (shown x.body)

-- the first member with this name
abbrev pub member_named : List ℕ → List Member → Option Member
member_named name [] = None
member_named name (m ∷ ms) = if bytes_eq name m.name then Some m else member_named name ms

abbrev pub fault_at : ℕ → ℕ → Fault
fault_at code step = record { code = code; place = step }

-- the position of a member in a struct at `offset`, if it is below 2^64 bits
abbrev pub member_position : ℕ → ℕ → Option Member → Result Position Fault
member_position step offset None = Err (fault_at NO_MEMBER step)
member_position step offset (Some m) =
    if nat_lt (offset + m.offset) (2 ^ 64)
    then Ok (record { offset = offset + m.offset; tnum = m.tnum })
    else Err too_big

abbrev pub position_among : ℕ → List ℕ → ℕ → Option (List Member) → Result Position Fault
position_among step name offset None = Err (fault_at NOT_AGGREGATE step)
position_among step name offset (Some members) =
    member_position step offset (member_named name members)

abbrev pub position_within : Space → ℕ → List ℕ → ℕ → Result ℕ Fault → Result Position Fault
position_within s step name offset (Err f) = Err f
position_within s step name offset (Ok n) =
    position_among step name offset (members_found (space_type s n))

-- step number `step` of a path: from a position to the first member called `name`
abbrev pub step_to : Space → ℕ → List ℕ → Position → Result Position Fault
step_to s step name at = position_within s step name at.offset (resolved_type s at.tnum)

abbrev pub and_on : Result Position Fault → (Position → Result Position Fault)
    → Result Position Fault
and_on (Err f) next = Err f
and_on (Ok at) next = next at

-- the rest of a path from a position; the first of the names is step number `step`
unfoldable pub path_from : Space → ℕ → List (List ℕ) → Position → Result Position Fault
path_from s step [] at = Ok at
path_from s step (name ∷ names) at = and_on (step_to s step name at) (path_from s (step + 1) names)

-- a path from the start of type `n`
abbrev pub path : Space → ℕ → List (List ℕ) → Result Position Fault
path s n names = path_from s 0 names (record { offset = 0; tnum = n })
