-- If a record spells a type, all its names are valid.
use Rattle.std.proofs.Common.{◌≡◌, ℕ, zero, suc, ◌+◌, Bool, true, false, cond, ltb, List, [], ◌∷◌, ◌++◌, drop, Option, Some, None, refl, sym, ◌∙◌}
use Rattle.std.specs.Option.{option_map}
use Rattle.ctf_model.specs.format.Bytes.{u32_at}
use Rattle.ctf_model.specs.declared.kinds.Kind.{Kind}
use Rattle.ctf_model.specs.declared.kinds.Kind.TheVariants.{KUnknown, KInteger, KFloat, KPointer, KArray, KFunction, KStruct, KUnion, KEnum, KForward, KTypedef, KVolatile, KConst, KRestrict}
use Rattle.ctf_model.specs.rules.Faults.{Site, item_sites, list_sites}
use Rattle.ctf_model.specs.format.Name.{Tables, name}
use Rattle.ctf_model.specs.format.Record.{kind, is_root, size, vlen, head_len, member_len, behind_head}
use Rattle.ctf_model.specs.format.Spelling.{items, member_of, narrow_member, wide_member, enumerator_of, members, enumerators, body_of, term_of, ◌>>=◌}
use Rattle.ctf_model.specs.format.Term.{Member, Enumerator, Body, Term}
use Rattle.ctf_model.specs.format.Term as term
use Rattle.ctf_model.proofs.Items.{items_first}
use Rattle.ctf_model.proofs.Spelled.{IsNamed, AreNamed}

-- the concatenation of two lists of valid sites
pub joined_named : (t : Tables) (xs ys : List Site) → AreNamed t xs → AreNamed t ys → AreNamed t (xs ++ ys)
joined_named t [] ys p q = q
joined_named t (x ∷ xs) ys p q = (p.0, joined_named t xs ys p.1 q)

-- a mapped value was present before
from_some : {A B : Type 0} (f : A → B) (o : Option A) (y : B) → option_map f o ≡ Some y → (x : A) × (o ≡ Some x)
from_some f None y h = absurd cc
from_some f (Some x) y h = (x, refl)

-- a present value is not none
pub is_there : {A : Type 0} (o : Option A) (x : A) → o ≡ Some x → o ≡ None → ⊥
is_there o x e f = let clash : Some x ≡ None = sym e ∙ f in absurd cc

-- an item that can be read has a valid name
abbrev GivesName : {A : Type 0} → Tables → (List ℕ → Option A) → Type 0
GivesName {A} t item = (b : List ℕ) (x : A) → item b ≡ Some x → IsNamed t (u32_at b 0)

by_name : {A : Type 0} (t : Tables) (b : List ℕ) (make : List ℕ → A) (x : A) → option_map make (name t (u32_at b 0)) ≡ Some x → IsNamed t (u32_at b 0)
by_name t b make x h = let some = from_some make (name t (u32_at b 0)) x h in is_there (name t (u32_at b 0)) some.0 some.1

member_gives : (size : ℕ) (t : Tables) → GivesName t (member_of size t)
member_gives size t b m h = at (ltb size 8192) h
  where
    at : (narrow : Bool) → cond narrow (narrow_member t b) (wide_member t b) ≡ Some m → IsNamed t (u32_at b 0)
    at true h = by_name t b _ m h
    at false h = by_name t b _ m h

enumerator_gives : (t : Tables) → GivesName t (enumerator_of t)
enumerator_gives t b e h = by_name t b _ e h

items_named : {A : Type 0} (t : Tables) (item : List ℕ → Option A) (place len n : ℕ) (b : List ℕ) (xs : List A) → GivesName t item → items item len n b ≡ Some xs → AreNamed t (item_sites place len n b)
unfolding item_sites
items_named t item place len zero b xs gives h = tt
items_named t item place len (suc n) b xs gives h =
    let f = items_first item len n b xs h in
    (gives b f.first f.reads, items_named t item (place + len) len n (drop len b) f.others gives f.rest)

-- the names in the list of a body that can be read are valid
list_named : (t : Tables) (b : List ℕ) (place : ℕ) (k : Kind) (x : Body) → body_of t b k ≡ Some x → AreNamed t (list_sites place b (Some k))
list_named t b place KUnknown x h = tt
list_named t b place KInteger x h = tt
list_named t b place KFloat x h = tt
list_named t b place KPointer x h = tt
list_named t b place KArray x h = tt
list_named t b place KFunction x h = tt
list_named t b place KStruct x h = let ms = from_some (term.struct (size b)) (members t b) x h in items_named t (member_of (size b) t) (place + head_len b) (member_len (size b)) (vlen b) (behind_head b) ms.0 (member_gives (size b) t) ms.1
list_named t b place KUnion x h = let ms = from_some (term.union (size b)) (members t b) x h in items_named t (member_of (size b) t) (place + head_len b) (member_len (size b)) (vlen b) (behind_head b) ms.0 (member_gives (size b) t) ms.1
list_named t b place KEnum x h = let es = from_some (term.enum (size b)) (enumerators t b) x h in items_named t (enumerator_of t) (place + head_len b) 8 (vlen b) (behind_head b) es.0 (enumerator_gives t) es.1
list_named t b place KForward x h = tt
list_named t b place KTypedef x h = tt
list_named t b place KVolatile x h = tt
list_named t b place KConst x h = tt
list_named t b place KRestrict x h = tt

-- all names of a record that spells a type are valid
pub record AllNamed (t : Tables) (b : List ℕ) (place : ℕ) : Type 0 where
  pub own : IsNamed t (u32_at b 0)
  pub listed : AreNamed t (list_sites place b (kind b))

pub said_named : (t : Tables) (b : List ℕ) (place : ℕ) (x : Term) → term_of t b ≡ Some x → AllNamed t b place
unfolding term_of
said_named t b place x h = at (kind b) refl (name t (u32_at b 0)) refl h
  where
    in_body : (k : Kind) (text : List ℕ) (o : Option Body) → body_of t b k ≡ o → (o >>= (λ said. Some (record { name = text; root = is_root b; body = said }))) ≡ Some x → AreNamed t (list_sites place b (Some k))
    in_body k text None e h = absurd cc
    in_body k text (Some y) e h = list_named t b place k y e

    at : (k : Option Kind) → kind b ≡ k → (n : Option (List ℕ)) → name t (u32_at b 0) ≡ n → (k >>= (λ k. n >>= (λ text. body_of t b k >>= (λ said. Some (record { name = text; root = is_root b; body = said }))))) ≡ Some x → AllNamed t b place
    at None e n f h = absurd cc
    at (Some k) e None f h = absurd cc
    at (Some k) e (Some text) f h = record { own = is_there (name t (u32_at b 0)) text f; listed = rw e (in_body k text (body_of t b k) refl h) }
