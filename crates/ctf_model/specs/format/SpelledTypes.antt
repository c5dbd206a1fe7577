-- The type that a record spells, by kind and form. Source: ctf(5), "The Type Section"; ctf_stype_t,
-- ctf_type_t, ctf_member_t, ctf_lmember_t, ctf_enum_t, ctf_array_t, CTF_INT_DATA of sys/ctf.h.
-- Needs Record, Name and Term.
use Rattle.std.specs.Prelude.{◌≡◌, ◌≢◌, ◌<◌, ◌≤◌, ℕ, ◌+◌, ◌*◌, ◌/◌, ◌%◌, ◌^◌, Bool, true, false, List, [], ◌∷◌, drop, length, Some, ⊤}
use Rattle.std.specs.Int.{cast_signed, w32}
use Rattle.ctf_model.specs.format.Bytes.{u16_at, u32_at}
use Rattle.ctf_model.specs.format.Name.{Tables, name}
use Rattle.ctf_model.specs.format.Record.{IsWhole, kind, is_root, field, size, vlen, member_len, behind_head}
use Rattle.ctf_model.specs.format.Term.{Scalar, Elements, Member, Enumerator, Tag, Body, Term}
use Rattle.ctf_model.specs.format.Term as term
use Rattle.ctf_model.specs.declared.kinds.Kind.{Kind}
use Rattle.ctf_model.specs.declared.kinds.Kind.TheVariants.{KUnknown, KInteger, KFloat, KPointer, KArray, KFunction, KStruct, KUnion, KEnum, KForward, KTypedef, KVolatile, KConst, KRestrict}

-- ---- the list after the head

-- the bytes start with these items, each `len` bytes long
abbrev pub Stand : {A : Type 0} → (List ℕ → A → Type 0) → ℕ → List ℕ → List A → Type 0
Stand Is len b [] = ⊤
Stand Is len b (x ∷ xs) = Is b x × Stand Is len (drop len b) xs

-- they are the record's list: as many as its head says, right after the head
abbrev pub AreListed : {A : Type 0} → (List ℕ → A → Type 0) → ℕ → List ℕ → List A → Type 0
AreListed Is len b xs = (length xs ≡ vlen b) × Stand Is len (behind_head b) xs

-- a member of 8 bytes: name, type, offset
pub record IsNarrowMember (t : Tables) (b : List ℕ) (m : Member) : Type 0 where
  pub named : name t (u32_at b 0) ≡ Some m.name
  pub typed : m.tnum ≡ u16_at b 4
  pub placed : m.offset ≡ u16_at b 6

-- a member of 16 bytes: name, type, two bytes of padding, and the offset in two halves, high half
-- first
pub record IsWideMember (t : Tables) (b : List ℕ) (m : Member) : Type 0 where
  pub named : name t (u32_at b 0) ≡ Some m.name
  pub typed : m.tnum ≡ u16_at b 4
  pub placed : m.offset ≡ 2 ^ 32 * u32_at b 8 + u32_at b 12

-- the form depends on the size of the struct or union, not on the form of its record
abbrev pub IsMember : ℕ → Tables → List ℕ → Member → Type 0
IsMember size t b m = (size < 8192 → IsNarrowMember t b m) × (8192 ≤ size → IsWideMember t b m)

abbrev pub AreMembers : Tables → List ℕ → List Member → Type 0
AreMembers t b ms = AreListed (IsMember (size b) t) (member_len (size b)) b ms

-- an enumerator of 8 bytes: name, and value in two's complement
pub record IsEnumerator (t : Tables) (b : List ℕ) (e : Enumerator) : Type 0 where
  pub named : name t (u32_at b 0) ≡ Some e.name
  pub valued : e.value ≡ cast_signed w32 (u32_at b 4)

-- an argument of 2 bytes: its type
abbrev pub IsArgument : List ℕ → ℕ → Type 0
IsArgument b argument = argument ≡ u16_at b 0

-- ---- what follows the head of other kinds

-- the size, and the encoding word after the head: 8 bits of encoding, 8 of offset, 16 of width
pub record IsScalar (b : List ℕ) (s : Scalar) : Type 0 where
  pub sized : s.size ≡ size b
  pub encoded : s.encoding ≡ u32_at (behind_head b) 0 / 2 ^ 24
  pub placed : s.offset ≡ u32_at (behind_head b) 0 / 2 ^ 16 % 256
  pub wide : s.bits ≡ u32_at (behind_head b) 0 % 2 ^ 16

-- the size, and after the head the types of contents and index, and the count
pub record IsArray (b : List ℕ) (e : Elements) : Type 0 where
  pub sized : e.size ≡ size b
  pub contents : e.contents ≡ u16_at (behind_head b) 0
  pub index : e.index ≡ u16_at (behind_head b) 2
  pub count : e.count ≡ u32_at (behind_head b) 4

-- a forward's field is the kind that it declares; any other number is a struct (ours)
abbrev pub Declares : ℕ → Tag → Type 0
Declares field term.union_tag = field ≡ 7
Declares field term.enum_tag = field ≡ 8
Declares field term.struct_tag = (field ≢ 7) × (field ≢ 8)

-- ---- records

-- what the record spells, by its kind
abbrev pub IsBody : Tables → List ℕ → Body → Type 0
IsBody t b term.unknown = kind b ≡ Some KUnknown
IsBody t b (term.integer s) = (kind b ≡ Some KInteger) × IsScalar b s
IsBody t b (term.float s) = (kind b ≡ Some KFloat) × IsScalar b s
IsBody t b (term.pointer to) = (kind b ≡ Some KPointer) × (to ≡ field b)
IsBody t b (term.array e) = (kind b ≡ Some KArray) × IsArray b e
IsBody t b (term.function returned arguments) =
    (kind b ≡ Some KFunction) × (returned ≡ field b) × AreListed IsArgument 2 b arguments
IsBody t b (term.struct said ms) =
    (kind b ≡ Some KStruct) × (said ≡ size b) × AreMembers t b ms
IsBody t b (term.union said ms) =
    (kind b ≡ Some KUnion) × (said ≡ size b) × AreMembers t b ms
IsBody t b (term.enum said es) =
    (kind b ≡ Some KEnum) × (said ≡ size b) × AreListed (IsEnumerator t) 8 b es
IsBody t b (term.forward declared) = (kind b ≡ Some KForward) × Declares (field b) declared
IsBody t b (term.typedef to) = (kind b ≡ Some KTypedef) × (to ≡ field b)
IsBody t b (term.volatile to) = (kind b ≡ Some KVolatile) × (to ≡ field b)
IsBody t b (term.const to) = (kind b ≡ Some KConst) × (to ≡ field b)
IsBody t b (term.restrict to) = (kind b ≡ Some KRestrict) × (to ≡ field b)

-- for these kinds the field is a type or a declared kind, not a size, so they have only the short
-- form (ours)
abbrev pub is_short_kind : Kind → Bool
is_short_kind KPointer = true
is_short_kind KFunction = true
is_short_kind KForward = true
is_short_kind KTypedef = true
is_short_kind KVolatile = true
is_short_kind KConst = true
is_short_kind KRestrict = true
is_short_kind _ = false

-- the field of such a kind holds the mark of the long form
pub record HasStrayMark (b : List ℕ) : Type 0 where
  pub of : Kind
  pub known : kind b ≡ Some of
  pub short : is_short_kind of ≡ true
  pub mark : field b ≡ 0xffff

-- the bytes are one whole record in a valid form, and spell this type
pub record Spells (t : Tables) (b : List ℕ) (x : Term) : Type 0 where
  pub whole : IsWhole b
  pub form : ¬ HasStrayMark b
  pub named : name t (u32_at b 0) ≡ Some x.name
  pub visible : x.root ≡ is_root b
  pub body : IsBody t b x.body
