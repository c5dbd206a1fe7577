-- The offset of a new member, and the growth of its struct or union. Source: ISO C, "Structure and
-- union specifiers": members of a struct follow the order of their declaration, each aligned for
-- its type, with none before the first; all members of a union begin at offset 0; both are large
-- enough for their members. libctf(3LIB), ctf_add_member. That no padding follows the last member
-- is ours.
use Rattle.std.specs.Prelude.{ℕ, ◌+◌, ◌-◌, ◌*◌, ◌^◌, max, nat_le, Bool, List, length, Option, Some, None, Result, Ok, Err, slice_get}
use Rattle.std.specs.Int.{div_ceil, next_multiple_of}
use Rattle.ctf_model.specs.figures.Figures.{align, resolved_type, size}
use Rattle.ctf_model.specs.rules.Judgements.{◌then◌}
use Rattle.ctf_model.specs.spaces.Space.{Space, space_type}
use Rattle.ctf_model.specs.format.Term.{Body, Member, Term}
use Rattle.ctf_model.specs.format.Term as term
use Rattle.ctf_model.specs.declared.faults.Fault.{Fault}

-- the least number of bytes that holds `bits` bits
abbrev pub bytes_holding : ℕ → ℕ
bytes_holding bits = div_ceil bits 8

-- ---- width of a member

-- the width of a resolved type: that of an integer or float as it states it, else all bits of its
-- size
abbrev pub bits_by : ℕ → Body → ℕ
bits_by size (term.integer scalar) = scalar.bits
bits_by size (term.float scalar) = scalar.bits
bits_by size _ = 8 * size

abbrev pub bits_found : ℕ → Result Term Fault → Result ℕ Fault
bits_found size (Err f) = Err f
bits_found size (Ok x) = Ok (bits_by size x.body)

-- the width in bits of a value of type `n`
abbrev pub bits_filled : Space → ℕ → Result ℕ Fault
bits_filled s n = size s n then λ size. resolved_type s n then λ t. bits_found size (space_type s t)

-- ---- offset of a member

-- the least whole byte, in bits, that is not before `bit` and is a multiple of the alignment; an
-- alignment of 0 allows every byte
abbrev pub aligned_from : ℕ → ℕ → ℕ
aligned_from bit align = 8 * next_multiple_of (bytes_holding bit) (max align 1)

-- the first aligned offset after the last member; 0 if there is no member
abbrev pub behind_last : Space → Option Member → ℕ → Result ℕ Fault
behind_last s None tnum = Ok 0
behind_last s (Some last) tnum =
    bits_filled s last.tnum
    then λ bits. align s tnum then λ align. Ok (aligned_from (last.offset + bits) align)

abbrev pub last_member : List Member → Option Member
last_member members = slice_get members (length members - 1)

-- the offset without a statement: in a struct after the last member, in a union 0
abbrev pub own_place : Space → Body → ℕ → Result ℕ Fault
own_place s (term.struct size members) tnum = behind_last s (last_member members) tnum
own_place s _ tnum = Ok 0

-- the stated offset, or else the computed one
abbrev pub member_place : Space → Body → ℕ → Option ℕ → Result ℕ Fault
member_place s body tnum (Some offset) = Ok offset
member_place s body tnum None = own_place s body tnum

-- ---- growth

-- the size that also covers `bits` bits at `offset`
abbrev pub grown_size : ℕ → ℕ → ℕ → ℕ
grown_size size offset bits = max size (bytes_holding (offset + bits))

-- the number exceeds 64 bits
abbrev pub is_too_far : ℕ → Bool
is_too_far n = nat_le (2 ^ 64) n
