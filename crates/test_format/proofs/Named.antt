-- A whole record with valid names spells a type.
use Rattle.std.proofs.Common.{◌≡◌, ℕ, zero, suc, Bool, true, false, cond, List, [], ◌∷◌, ◌+◌, ◌-◌, drop, length, Option, Some, None, refl, sym, subst, arith}
use Rattle.std.specs.Prelude.{is_none, IsSome}
use Rattle.ctf_model.specs.declared.kinds.Kind.{Kind}
use Rattle.ctf_model.specs.declared.kinds.Kind.TheVariants.{KUnknown, KInteger, KFloat, KPointer, KArray, KFunction, KStruct, KUnion, KEnum, KForward, KTypedef, KVolatile, KConst, KRestrict}
use Rattle.ctf_model.specs.format.Bytes.{u32_at}
use Rattle.ctf_model.specs.rules.Faults.{Site, first_nameless, item_sites, list_sites}
use Rattle.ctf_model.specs.format.Name.{Tables, name}
use Rattle.ctf_model.specs.format.Record.{kind}
use Rattle.ctf_model.specs.format.Section.{front_len}
use Rattle.ctf_model.specs.format.Spelling.{term_of}
use Rattle.ctf_model.proofs.Spelled.{AreNamed, spelled}
use Rattle.ctf_records.proofs.Whole.{whole}

-- a test that fails passes on to the later ones
none_here : (bad : Bool) (place : ℕ) (later : Option ℕ) → cond bad (Some place) later ≡ None → (bad ≡ false) × (later ≡ None)
none_here true place later e = absurd cc
none_here false place later e = (refl, e)

-- a present value is not none
not_none : {A : Type 0} (o : Option A) → is_none o ≡ false → o ≡ None → ⊥
not_none None e n = absurd cc
not_none (Some x) e n = absurd cc

-- if no site is nameless, all have names
named_all : (t : Tables) (xs : List Site) → first_nameless t xs ≡ None → AreNamed t xs
unfolding first_nameless
named_all t [] e = tt
named_all t (x ∷ xs) e =
    let here = none_here (is_none (name t x.reference)) x.place (first_nameless t xs) e in
    (not_none (name t x.reference) here.0, named_all t xs here.1)

is_there : {A : Type 0} (o : Option A) (x : A) → o ≡ Some x → IsSome o
is_there None x e = absurd cc
is_there (Some y) x e = refl

-- an item with a valid name, before others
pub items_named : (t : Tables) (place len count : ℕ) (b : List ℕ) → is_none (name t (u32_at b 0)) ≡ false → first_nameless t (item_sites (place + len) len (count - 1) (drop len b)) ≡ None → first_nameless t (item_sites place len count b) ≡ None
unfolding first_nameless item_sites
items_named t place len zero b named later = refl
items_named t place len (suc n) b named later =
    let one_less : suc n - 1 ≡ n = omega arith in
    let rest = rw one_less at later in
    rw named rest

-- a record with valid names spells a type
pub spells : (t : Tables) (b : List ℕ) → front_len b ≡ Some (length b) → is_none (name t (u32_at b 0)) ≡ false → first_nameless t (list_sites 0 b (kind b)) ≡ None → IsSome (term_of t b)
spells t b fits named listed =
    let x = spelled t b 0 (whole b fits) (not_none (name t (u32_at b 0)) named) (named_all t (list_sites 0 b (kind b)) listed) in
    is_there (term_of t b) x.0 x.1.says

unlisted : (t : Tables) (b : List ℕ) (k : Kind) → (k ≡ KStruct → ⊥) → (k ≡ KUnion → ⊥) → (k ≡ KEnum → ⊥) → first_nameless t (list_sites 0 b (Some k)) ≡ None
unfolding first_nameless
unlisted t b KStruct s u e = absurd (s refl)
unlisted t b KUnion s u e = absurd (u refl)
unlisted t b KEnum s u e = absurd (e refl)
unlisted t b KUnknown s u e = refl
unlisted t b KInteger s u e = refl
unlisted t b KFloat s u e = refl
unlisted t b KPointer s u e = refl
unlisted t b KArray s u e = refl
unlisted t b KFunction s u e = refl
unlisted t b KForward s u e = refl
unlisted t b KTypedef s u e = refl
unlisted t b KVolatile s u e = refl
unlisted t b KConst s u e = refl
unlisted t b KRestrict s u e = refl

-- a record of any other kind has no names in its list
pub none_listed : (t : Tables) (b : List ℕ) (k : Kind) → kind b ≡ Some k → (k ≡ KStruct → ⊥) → (k ≡ KUnion → ⊥) → (k ≡ KEnum → ⊥) → first_nameless t (list_sites 0 b (kind b)) ≡ None
none_listed t b k is s u e = subst (λ (o : Option Kind). first_nameless t (list_sites 0 b o) ≡ None) (sym is) (unlisted t b k s u e)
