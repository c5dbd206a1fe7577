-- Type records: their fields, and when a record is whole. Source: ctf(5), "The Type Section";
-- ctf_stype_t, ctf_type_t, CTF_INFO_KIND, CTF_INFO_ISROOT, CTF_INFO_VLEN of sys/ctf.h.
use Rattle.std.specs.Prelude.{◌≡◌, ◌≤◌, ℕ, ◌+◌, ◌*◌, ◌/◌, ◌%◌, ◌^◌, ◌==◌, Bool, List, [], ◌∷◌, length, drop, slice_get, nat_lt, Option, MatchOption, if◌then◌else◌}
use Rattle.ctf_model.specs.format.Bytes.{u16_at, u32_at}
use Rattle.ctf_model.specs.declared.kinds.Kind.{Kind}
use Rattle.ctf_model.specs.declared.kinds.Kind.TheVariants.{KUnknown, KInteger, KFloat, KPointer, KArray, KFunction, KStruct, KUnion, KEnum, KForward, KTypedef, KVolatile, KConst, KRestrict}

-- ---- the fields of the record at the start of these bytes

-- kind, root flag and list length, packed
abbrev pub info : List ℕ → ℕ
info b = u16_at b 4

-- size or type, depending on the kind; 0xffff marks the long form
abbrev pub field : List ℕ → ℕ
field b = u16_at b 6

abbrev pub is_long : List ℕ → Bool
is_long b = field b == 0xffff

abbrev pub head_len : List ℕ → ℕ
head_len b = if is_long b then 16 else 8

-- a long record has the size in two halves, high half first
abbrev pub size : List ℕ → ℕ
size b = if is_long b then 2 ^ 32 * u32_at b 8 + u32_at b 12 else field b

abbrev pub vlen : List ℕ → ℕ
vlen b = info b % 1024

abbrev pub is_root : List ℕ → Bool
is_root b = info b / 1024 % 2 == 1

-- the kinds by their numbers, from 0
abbrev pub kinds : List Kind
kinds =
    KUnknown ∷ KInteger ∷ KFloat ∷ KPointer ∷ KArray ∷ KFunction ∷ KStruct ∷ KUnion ∷ KEnum
    ∷ KForward ∷ KTypedef ∷ KVolatile ∷ KConst ∷ KRestrict ∷ []

abbrev pub kind : List ℕ → Option Kind
kind b = slice_get kinds (info b / 2 ^ 11)

-- the length of a member depends on the size of its struct or union
abbrev pub member_len : ℕ → ℕ
member_len size = if nat_lt size 8192 then 8 else 16

-- the length of what follows the head; a function's arguments are padded to an even number
abbrev pub variant_len : Kind → ℕ → ℕ → ℕ
variant_len KInteger size vlen = 4
variant_len KFloat size vlen = 4
variant_len KArray size vlen = 8
variant_len KFunction size vlen = 2 * (vlen + vlen % 2)
variant_len KStruct size vlen = member_len size * vlen
variant_len KUnion size vlen = member_len size * vlen
variant_len KEnum size vlen = 8 * vlen
variant_len _ size vlen = 0

-- the bytes after the head
abbrev pub behind_head : List ℕ → List ℕ
behind_head b = drop (head_len b) b

-- ---- whole records

pub record IsWholeAt (b : List ℕ) (k : Kind) : Type 0 where
  pub has_head : 8 ≤ length b
  pub ends : length b ≡ head_len b + variant_len k (size b) (vlen b)

-- at least 8 bytes, a known kind, and exactly the length that kind, form, size and list require
unfoldable pub IsWhole : List ℕ → Type 0
IsWhole b = MatchOption (kind b) (⊥) (IsWholeAt b)
