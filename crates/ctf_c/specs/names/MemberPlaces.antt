-- The fields of a member's row. Source: ctf(5), "Structures and Unions": ctm_offset, and
-- ctlm_offsethi and ctlm_offsetlo.
use Rattle.std.specs.Prelude.{◌≡◌, ℕ, ◌+◌, ◌*◌, ◌^◌, nat_lt, List, Some, if◌then◌else◌}
use Rattle.ctf_model.specs.format.Bytes.{u16_at, u32_at}
use Rattle.ctf_model.specs.format.Name.{Tables, name}
use Rattle.ctf_model.specs.format.Term.{Member}
use Rattle.ctf_c.specs.declared.names.members.MemberRow.{MemberRow}

-- the offset in bits of a member, from its row in a struct or union of this size
abbrev pub bits_in : ℕ → List ℕ → ℕ
bits_in size b = if nat_lt size 8192 then u16_at b 6 else 2 ^ 32 * u32_at b 8 + u32_at b 12

-- the row of a member: a reference to its name, its type and its offset
abbrev pub IsMember : Tables → Member → MemberRow → Type 0
IsMember t m row =
    (name t row.reference ≡ Some m.name) × (row.tnum.0 ≡ m.tnum) × (row.offset ≡ m.offset)
