-- The type that a record spells, computed by reading its fields. SpelledTypes.antt says what it
-- means that a record spells a type; the law spells_what_is_read ties the two. Source: ctf(5), "The
-- Type Section"; ctf_member_t, ctf_lmember_t, ctf_enum_t, ctf_array_t, CTF_INT_DATA of sys/ctf.h.
use Rattle.std.specs.Prelude.{ℕ, zero, suc, ◌+◌, ◌*◌, ◌/◌, ◌%◌, ◌^◌, ◌==◌, List, [], ◌∷◌, drop, nat_lt, Option, Some, None, if◌then◌else◌}
use Rattle.std.specs.Option.{option_map}
use Rattle.std.specs.Int.{cast_signed, w32}
use Rattle.ctf_model.specs.format.Bytes.{u16_at, u32_at}
use Rattle.ctf_model.specs.format.Name.{Tables, name}
use Rattle.ctf_model.specs.format.Record.{kind, is_root, field, size, vlen, member_len, behind_head}
use Rattle.ctf_model.specs.format.Term.{Scalar, Elements, Member, Enumerator, Tag, Body, Term}
use Rattle.ctf_model.specs.format.Term as term
use Rattle.ctf_model.specs.declared.kinds.Kind.{Kind}
use Rattle.ctf_model.specs.declared.kinds.Kind.TheVariants.{KUnknown, KInteger, KFloat, KPointer, KArray, KFunction, KStruct, KUnion, KEnum, KForward, KTypedef, KVolatile, KConst, KRestrict}

-- `Option`'s bind: none if the first is none
infixl 10 ◌>>=◌
abbrev pub ◌>>=◌ : {A B : Type 0} → Option A → (A → Option B) → Option B
None >>= f = None
(Some x) >>= f = f x

-- ---- the list after the head

-- `n` items of `len` bytes each, if all are valid
abbrev pub items : {A : Type 0} → (List ℕ → Option A) → ℕ → ℕ → List ℕ → Option (List A)
items item len zero b = Some []
items item len (suc n) b = do
  first ← item b
  others ← items item len n (drop len b)
  Some (first ∷ others)

-- a member of 8 bytes: name, type, offset
abbrev pub narrow_member : Tables → List ℕ → Option Member
narrow_member t b =
    option_map (λ text. record { name = text; tnum = u16_at b 4; offset = u16_at b 6 })
    (name t (u32_at b 0))

-- a member of 16 bytes: name, type, two bytes of padding, and the offset in two halves, high half
-- first
abbrev pub wide_member : Tables → List ℕ → Option Member
wide_member t b =
    option_map
    (λ text.
    record { name = text; tnum = u16_at b 4; offset = 2 ^ 32 * u32_at b 8 + u32_at b 12 })
    (name t (u32_at b 0))

-- the form depends on the size of the struct or union, not on the form of its record
abbrev pub member_of : ℕ → Tables → List ℕ → Option Member
member_of size t b = if nat_lt size 8192 then narrow_member t b else wide_member t b

-- an enumerator of 8 bytes: name, and value in two's complement
abbrev pub enumerator_of : Tables → List ℕ → Option Enumerator
enumerator_of t b =
    option_map (λ text. record { name = text; value = cast_signed w32 (u32_at b 4) })
    (name t (u32_at b 0))

-- an argument of 2 bytes: its type
abbrev pub argument_of : List ℕ → Option ℕ
argument_of b = Some (u16_at b 0)

abbrev pub members : Tables → List ℕ → Option (List Member)
members t b = items (member_of (size b) t) (member_len (size b)) (vlen b) (behind_head b)

abbrev pub enumerators : Tables → List ℕ → Option (List Enumerator)
enumerators t b = items (enumerator_of t) 8 (vlen b) (behind_head b)

abbrev pub arguments : List ℕ → Option (List ℕ)
arguments b = items argument_of 2 (vlen b) (behind_head b)

-- ---- the content of a record

-- the size, and the encoding word after the head: 8 bits of encoding, 8 of offset, 16 of width
abbrev pub scalar : List ℕ → Scalar
scalar b =
    let word = u32_at (behind_head b) 0 in
    record {
      size = size b;
      encoding = word / 2 ^ 24;
      offset = word / 2 ^ 16 % 256;
      bits = word % 2 ^ 16;
    }

-- the size, and after the head the types of contents and index, and the count
abbrev pub elements : List ℕ → Elements
elements b =
    record {
      size = size b;
      contents = u16_at (behind_head b) 0;
      index = u16_at (behind_head b) 2;
      count = u32_at (behind_head b) 4;
    }

-- a forward's field is the kind that it declares; any other number is a struct (ours)
abbrev pub tag : ℕ → Tag
tag field =
    if field == 7 then term.union_tag else if field == 8 then term.enum_tag else term.struct_tag

-- the content of the record, by its kind, if the names in its list are valid
abbrev pub body_of : Tables → List ℕ → Kind → Option Body
body_of t b KUnknown = Some term.unknown
body_of t b KInteger = Some (term.integer (scalar b))
body_of t b KFloat = Some (term.float (scalar b))
body_of t b KPointer = Some (term.pointer (field b))
body_of t b KArray = Some (term.array (elements b))
body_of t b KFunction = option_map (term.function (field b)) (arguments b)
body_of t b KStruct = option_map (term.struct (size b)) (members t b)
body_of t b KUnion = option_map (term.union (size b)) (members t b)
body_of t b KEnum = option_map (term.enum (size b)) (enumerators t b)
body_of t b KForward = Some (term.forward (tag (field b)))
body_of t b KTypedef = Some (term.typedef (field b))
body_of t b KVolatile = Some (term.volatile (field b))
body_of t b KConst = Some (term.const (field b))
body_of t b KRestrict = Some (term.restrict (field b))

-- the type of a record, if its names are valid
unfoldable pub term_of : Tables → List ℕ → Option Term
term_of t b = do
  k ← kind b
  text ← name t (u32_at b 0)
  said ← body_of t b k
  Some (record { name = text; root = is_root b; body = said })
