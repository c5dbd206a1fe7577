-- A whole record with valid names spells a type.
use Rattle.std.proofs.Common.{◌≡◌, ℕ, zero, suc, ◌+◌, ◌*◌, ◌^◌, Bool, true, false, cond, ltb, List, [], ◌∷◌, ◌++◌, drop, Option, Some, None, refl, ap}
use Rattle.std.specs.Prelude.{MatchOption}
use Rattle.std.specs.List.{AllByRecursion}
use Rattle.std.specs.Option.{option_map}
use Rattle.std.specs.Int.{cast_signed, w32}
use Rattle.ctf_model.specs.format.Bytes.{u16_at, u32_at}
use Rattle.ctf_model.specs.declared.kinds.Kind.{Kind}
use Rattle.ctf_model.specs.declared.kinds.Kind.TheVariants.{KUnknown, KInteger, KFloat, KPointer, KArray, KFunction, KStruct, KUnion, KEnum, KForward, KTypedef, KVolatile, KConst, KRestrict}
use Rattle.ctf_model.specs.rules.Faults.{Site, item_sites, list_sites}
use Rattle.ctf_model.specs.format.Name.{Tables, name}
use Rattle.ctf_model.specs.format.Record.{IsWhole, IsWholeAt, kind, is_root, field, size, vlen, head_len, member_len, behind_head}
use Rattle.ctf_model.specs.format.Spelling.{items, member_of, narrow_member, wide_member, enumerator_of, argument_of, scalar, elements, tag, body_of, term_of}
use Rattle.ctf_model.specs.format.Term.{Member, Enumerator, Body, Term}
use Rattle.ctf_model.specs.format.Term as term

-- the reference names something
abbrev pub IsNamed : Tables → ℕ → Type 0
IsNamed t reference = name t reference ≡ None → ⊥

-- all references of these sites name something
abbrev pub AreNamed : Tables → List Site → Type 0
AreNamed t xs = AllByRecursion (λ (site : Site). IsNamed t site.reference) xs

-- the first ones of named sites are named
pub split_front : (t : Tables) (xs ys : List Site) → AreNamed t (xs ++ ys) → AreNamed t xs
split_front t [] ys h = tt
split_front t (x ∷ xs) ys h = (h.0, split_front t xs ys h.1)

-- the last ones of named sites are named
pub split_back : (t : Tables) (xs ys : List Site) → AreNamed t (xs ++ ys) → AreNamed t ys
split_back t [] ys h = h
split_back t (x ∷ xs) ys h = split_back t xs ys h.1

-- ---- items

-- a reader of items that needs only a valid name
abbrev NeedsName : {A : Type 0} → Tables → (List ℕ → Option A) → Type 0
NeedsName {A} t item = (b : List ℕ) → IsNamed t (u32_at b 0) → (x : A) × (item b ≡ Some x)

-- a value made from a text exists if the text does
from_name : {A : Type 0} (make : List ℕ → A) (o : Option (List ℕ)) → (o ≡ None → ⊥) → (x : A) × (option_map make o ≡ Some x)
from_name make None h = absurd (h refl)
from_name make (Some text) h = (make text, refl)

member_needs_name : (size : ℕ) (t : Tables) → NeedsName t (member_of size t)
member_needs_name size t b h = at (ltb size 8192)
  where
    at : (narrow : Bool) → (x : Member) × (cond narrow (narrow_member t b) (wide_member t b) ≡ Some x)
    at true = from_name (λ text. record { name = text; tnum = u16_at b 4; offset = u16_at b 6 }) (name t (u32_at b 0)) h
    at false = from_name (λ text. record { name = text; tnum = u16_at b 4; offset = 2 ^ 32 * u32_at b 8 + u32_at b 12 }) (name t (u32_at b 0)) h

enumerator_needs_name : (t : Tables) → NeedsName t (enumerator_of t)
enumerator_needs_name t b h = from_name (λ text. record { name = text; value = cast_signed w32 (u32_at b 4) }) (name t (u32_at b 0)) h

-- items with valid names can be read
named_items : {A : Type 0} (t : Tables) (item : List ℕ → Option A) (place len n : ℕ) (b : List ℕ) → NeedsName t item → AreNamed t (item_sites place len n b) → (xs : List A) × (items item len n b ≡ Some xs)
unfolding item_sites
named_items t item place len zero b needs named = ([], refl)
named_items t item place len (suc n) b needs named =
    let first = needs b named.0 in
    let others = named_items t item (place + len) len n (drop len b) needs named.1 in
    (first.0 ∷ others.0, rw (first.1, others.1) refl)

-- arguments have no names
all_arguments : (n : ℕ) (b : List ℕ) → (xs : List ℕ) × (items argument_of 2 n b ≡ Some xs)
all_arguments zero b = ([], refl)
all_arguments (suc n) b = let others = all_arguments n (drop 2 b) in (u16_at b 0 ∷ others.0, rw others.1 refl)

-- ---- records

-- the body of a record can be read if the names in its list are valid
said : (t : Tables) (b : List ℕ) (place : ℕ) (k : Kind) → AreNamed t (list_sites place b (Some k)) → (x : Body) × (body_of t b k ≡ Some x)
said t b place KUnknown named = (term.unknown, refl)
said t b place KInteger named = (term.integer (scalar b), refl)
said t b place KFloat named = (term.float (scalar b), refl)
said t b place KPointer named = (term.pointer (field b), refl)
said t b place KArray named = (term.array (elements b), refl)
said t b place KFunction named = let xs = all_arguments (vlen b) (behind_head b) in (term.function (field b) xs.0, ap (option_map (term.function (field b))) xs.1)
said t b place KStruct named = let xs = named_items t (member_of (size b) t) (place + head_len b) (member_len (size b)) (vlen b) (behind_head b) (member_needs_name (size b) t) named in (term.struct (size b) xs.0, ap (option_map (term.struct (size b))) xs.1)
said t b place KUnion named = let xs = named_items t (member_of (size b) t) (place + head_len b) (member_len (size b)) (vlen b) (behind_head b) (member_needs_name (size b) t) named in (term.union (size b) xs.0, ap (option_map (term.union (size b))) xs.1)
said t b place KEnum named = let xs = named_items t (enumerator_of t) (place + head_len b) 8 (vlen b) (behind_head b) (enumerator_needs_name t) named in (term.enum (size b) xs.0, ap (option_map (term.enum (size b))) xs.1)
said t b place KForward named = (term.forward (tag (field b)), refl)
said t b place KTypedef named = (term.typedef (field b), refl)
said t b place KVolatile named = (term.volatile (field b), refl)
said t b place KConst named = (term.const (field b), refl)
said t b place KRestrict named = (term.restrict (field b), refl)

-- a whole record spells this type
pub record Says (t : Tables) (b : List ℕ) (x : Term) : Type 0 where
  pub whole : IsWhole b
  pub says : term_of t b ≡ Some x

-- a whole record with valid names spells a type
pub spelled : (t : Tables) (b : List ℕ) (place : ℕ) → IsWhole b → IsNamed t (u32_at b 0) → AreNamed t (list_sites place b (kind b)) → (x : Term) × Says t b x
unfolding IsWhole term_of
spelled t b place whole named listed = at (kind b) refl whole listed (name t (u32_at b 0)) refl
  where
    at : (k : Option Kind) → kind b ≡ k → MatchOption k ⊥ (IsWholeAt b) → AreNamed t (list_sites place b k) → (n : Option (List ℕ)) → name t (u32_at b 0) ≡ n → (x : Term) × Says t b x
    at None e w l n f = absurd w
    at (Some k) e w l None f = absurd (named f)
    at (Some k) e w l (Some text) f =
        let body = said t b place k l in
        (record { name = text; root = is_root b; body = body.0 }, record { whole = whole; says = rw (e, f, body.1) refl })
