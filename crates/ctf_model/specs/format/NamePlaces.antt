-- The byte offsets of a dictionary at which names are; each is a four-byte reference. Source:
-- ctf(5); ctf_header_t, ctf_lblent_t, ctf_stype_t, ctf_member_t, ctf_lmember_t, ctf_enum_t of
-- sys/ctf.h.
use Rattle.std.specs.Prelude.{◌≡◌, ◌<◌, ◌≤◌, ℕ, ◌+◌, ◌*◌, List, length, Option, Some, ◌⊎◌}
use Rattle.std.specs.List.{concat}
use Rattle.ctf_model.specs.format.Header.{Fields, fields, section}
use Rattle.ctf_model.specs.format.Record.{kind, size, vlen, head_len, member_len}
use Rattle.ctf_model.specs.format.Section.{RecordOf}
use Rattle.ctf_model.specs.declared.kinds.Kind.{Kind}
use Rattle.ctf_model.specs.declared.kinds.Kind.TheVariants.{KStruct, KUnion, KEnum}
use Rattle.ctf_model.specs.declared.sections.Section.TheVariants.{STypes}

-- in the header: the parent's label and name
abbrev pub InHeader : ℕ → Type 0
InHeader place = (place ≡ 4) ⊎ (place ≡ 8)

-- in the label section: a label has 8 bytes and begins with its name
abbrev pub InLabels : Fields → ℕ → Type 0
InLabels h place = (i : ℕ) × (h.lbloff + 8 * i + 8 ≤ h.objtoff) × (place ≡ 36 + h.lbloff + 8 * i)

-- in the list of a record whose items have `len` bytes and begin with their names
abbrev pub InItems : List ℕ → ℕ → ℕ → Type 0
InItems b len place = (k : ℕ) × (k < vlen b) × (place ≡ head_len b + len * k)

-- in a record's list: members and enumerators have names
abbrev pub InList : List ℕ → Option Kind → ℕ → Type 0
InList b (Some KStruct) place = InItems b (member_len (size b)) place
InList b (Some KUnion) place = InItems b (member_len (size b)) place
InList b (Some KEnum) place = InItems b 8 place
InList b _ place = ⊥

-- in a record, which begins with its name
abbrev pub InRecord : List ℕ → ℕ → Type 0
InRecord b place = (place ≡ 0) ⊎ InList b (kind b) place

-- in the type section, after the records in front of its own
abbrev pub InTypes : List ℕ → ℕ → Type 0
InTypes ctf place =
    (r : RecordOf (section ctf STypes)) × (at : ℕ) × InRecord r.part at
    × (place ≡ 36 + (fields ctf).typeoff + length (concat r.front) + at)

-- there is a name reference at this offset
abbrev pub NameStandsAt : List ℕ → ℕ → Type 0
NameStandsAt ctf place = InHeader place ⊎ (InLabels (fields ctf) place ⊎ InTypes ctf place)
