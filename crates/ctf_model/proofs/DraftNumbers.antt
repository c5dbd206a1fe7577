-- The types that the numbers of a draft name.
use Rattle.std.proofs.Common.{◌≡◌, ℕ, zero, suc, ◌-◌, ◌<◌, ◌≤◌, Bool, true, false, cond, eqb, ltb, leb, List, [], ◌∷◌, length, Option, Some, None, Result, Ok, Err, refl, arith}
use Rattle.std.specs.Prelude.{◌&&◌, not, is_none, slice_get}
use Rattle.std.specs.Result.{is_err}
use Rattle.std.proofs.lemmas.Bool.{ltb-true, leb-true, leb-false, eqb-true}
use Rattle.std.proofs.lemmas.Option.{slice_get_within}
use Rattle.ctf_model.proofs.OwnTypes.{own_inside}
use Rattle.ctf_model.specs.rules.Chains.{own_index}
use Rattle.ctf_model.specs.format.Dictionary.{Dictionary}
use Rattle.ctf_model.specs.drafts.Drafts.{Draft, all_of, behind_updated, count_of, content, is_absent, is_settled, is_unknown, pending_place, space_of}
use Rattle.ctf_model.specs.rules.Needs.{number_in_parent, parents_number}
use Rattle.ctf_model.specs.rules.References.{is_missing, is_missing_at}
use Rattle.ctf_model.specs.spaces.Space.{space_type}
use Rattle.ctf_model.specs.format.Term.{Term}
use Rattle.ctf_model.specs.spaces.TypeNumbers.{or_no_type, type_in}
use Rattle.ctf_model.specs.spaces.TypePlaces.{place, place_in_child}
use Rattle.ctf_model.specs.declared.faults.Fault.{Fault}
use Rattle.ctf_model.specs.declared.numbers.Place.{Place}
use Rattle.ctf_model.specs.declared.numbers.Place.TheVariants.{Nowhere, Own, Parents}

-- ---- existing types

-- an index found in a list is below its length
found_below : (xs : List Term) (i : ℕ) → is_err (or_no_type (slice_get xs i)) ≡ false → i < length xs
found_below xs i h = at (slice_get xs i) refl h
  where
    at : (q : Option Term) → slice_get xs i ≡ q → is_err (or_no_type q) ≡ false → i < length xs
    at None e h = absurd cc
    at (Some x) e h = slice_get_within xs i x e

-- an index below the length is found
below_found : (xs : List Term) (i : ℕ) → i < length xs → is_err (or_no_type (slice_get xs i)) ≡ false
below_found [] i lt = absurd (omega arith)
below_found (x ∷ xs) zero lt = refl
below_found (x ∷ xs) (suc i) lt = below_found xs i (omega arith)

-- a type stays found if types are added
still_found : (parent : Option Dictionary) (a b : Dictionary) (p : Place) → length a.terms ≤ length b.terms → is_err (type_in a parent p) ≡ false → is_err (type_in b parent p) ≡ false
still_found parent a b Nowhere le h = absurd cc
still_found parent a b (Own i) le h = let lt = found_below a.terms i h in below_found b.terms i (omega arith)
still_found None a b (Parents i) le h = absurd cc
still_found (Some q) a b (Parents i) le h = h

-- the same for a number that may be 0
pub still_there : (parent : Option Dictionary) (a b : Dictionary) (n : ℕ) (p : Place) → length a.terms ≤ length b.terms → (not (eqb n 0) && is_err (type_in a parent p)) ≡ false → (not (eqb n 0) && is_err (type_in b parent p)) ≡ false
still_there parent a b n p le h = at (eqb n 0) h
  where
    at : (z : Bool) → (not z && is_err (type_in a parent p)) ≡ false → (not z && is_err (type_in b parent p)) ≡ false
    at true h = refl
    at false h = still_found parent a b p le h

-- ---- consequences for the rules

-- an existing type is not missing
there_at : (parent : Option Dictionary) (d : Dictionary) (n : ℕ) (p : Place) → eqb n 0 ≡ false → is_err (type_in d parent p) ≡ false → is_missing_at (length d.terms) n p ≡ false
there_at parent d n Nowhere z h = absurd cc
there_at parent d n (Own i) z h = let lt = found_below d.terms i h in at (leb (length d.terms) i) refl
  where
    at : (b : Bool) → leb (length d.terms) i ≡ b → b ≡ false
    at true e = let le = leb-true (length d.terms) i e in let lt = found_below d.terms i h in absurd (omega arith)
    at false e = refl
there_at parent d n (Parents i) z h = refl

pub there_not_missing : (d : Draft) (n : ℕ) → is_absent d n ≡ false → is_missing (content d).child (length (content d).terms) n ≡ false
there_not_missing d n h = at (eqb n 0) refl h
  where
    at : (z : Bool) → eqb n 0 ≡ z → (not z && is_err (type_in (content d) d.parent (place (content d).child n))) ≡ false → is_missing (content d).child (length (content d).terms) n ≡ false
    at true z h = rw (z, z) refl
    at false z h = there_at d.parent (content d) n (place (content d).child n) z h

-- its number is not the mark of the long form
own_low : (child : Bool) (count n : ℕ) → count ≤ 32766 → (z : Bool) → eqb n 0 ≡ z → is_missing_at count n (cond z Nowhere (cond child (place_in_child n) (Own (n - 1)))) ≡ false → n < 0xffff
own_low child count n low true z h = let none : n ≡ 0 = eqb-true n 0 z in omega arith
own_low false count n low false z h = let lt = leb-false count (n - 1) h in omega arith
own_low true count n low false z h = at (ltb n 0x8000) refl (eqb n 0x8000) refl h
  where
    at : (a : Bool) → ltb n 0x8000 ≡ a → (b : Bool) → eqb n 0x8000 ≡ b → is_missing_at count n (cond a (Parents (n - 1)) (cond b Nowhere (Own (n - 0x8001)))) ≡ false → n < 0xffff
    at true e b f h = let lt = ltb-true n 0x8000 e in omega arith
    at false e true f h = let is : n ≡ 0x8000 = eqb-true n 0x8000 f in omega arith
    at false e false f h = let lt = leb-false count (n - 0x8001) h in omega arith

pub there_low : (d : Draft) (n : ℕ) → count_of d ≤ 32766 → is_absent d n ≡ false → n < 0xffff
there_low d n low h = own_low (content d).child (length (content d).terms) n low (eqb n 0) refl (there_not_missing d n h)

-- its number does not exceed the parent's types
in_parent : (d : Dictionary) (parent : Dictionary) (p : Place) → is_err (type_in d (Some parent) p) ≡ false → parents_number p ≤ length parent.terms
in_parent d parent Nowhere h = absurd cc
in_parent d parent (Own i) h = omega arith
in_parent d parent (Parents i) h = let lt = found_below parent.terms i h in omega arith

pub there_in_parent : (d : Dictionary) (parent : Dictionary) (n : ℕ) → (not (eqb n 0) && is_err (type_in d (Some parent) (place true n))) ≡ false → number_in_parent n ≤ length parent.terms
there_in_parent d parent n h = at (eqb n 0) refl h
  where
    at : (z : Bool) → eqb n 0 ≡ z → (not z && is_err (type_in d (Some parent) (place true n))) ≡ false → number_in_parent n ≤ length parent.terms
    at true z h = rw z (omega arith)
    at false z h = in_parent d parent (place true n) h

-- ---- pending types

-- an existing pending type, with its index
pub record IsOpen (d : Draft) (n : ℕ) (x : Term) (i : ℕ) : Type 0 where
  pub found : space_type (space_of d) n ≡ Ok x
  pub pending : pending_place d n ≡ Some i
  -- its index among all types
  pub at : ℕ
  pub stands : slice_get (all_of d).terms at ≡ Some x

own_found : (d : Dictionary) (parent : Option Dictionary) (n j : ℕ) (x : Term) → own_index d.child (length d.terms) n ≡ Some j → type_in d parent (place d.child n) ≡ Ok x → slice_get d.terms j ≡ Some x
own_found d parent n j x e h = let own = own_inside d.child (length d.terms) n j e in got (slice_get d.terms j) (rw own.0 at h)
  where
    got : (q : Option Term) → or_no_type q ≡ Ok x → q ≡ Some x
    got None h = absurd cc
    got (Some y) h = cc

pub opened : (d : Draft) (n : ℕ) → is_unknown d n ≡ false → is_settled d n ≡ false → (x : Term) × (i : ℕ) × IsOpen d n x i
opened d n known pending = at (space_type (space_of d) n) refl known (own_index (content d).child (count_of d) n) refl pending
  where
    at : (r : Result Term Fault) → space_type (space_of d) n ≡ r → is_err r ≡ false → (q : Option ℕ) → own_index (content d).child (count_of d) n ≡ q → is_none (behind_updated (length d.updated.terms) q) ≡ false → (x : Term) × (i : ℕ) × IsOpen d n x i
    at (Err f) e k q g h = absurd cc
    at (Ok x) e k None g h = absurd cc
    at (Ok x) e k (Some j) g h = go (ltb j (length d.updated.terms)) refl h
      where
        go : (b : Bool) → ltb j (length d.updated.terms) ≡ b → is_none (cond b None (Some (j - length d.updated.terms))) ≡ false → (x : Term) × (i : ℕ) × IsOpen d n x i
        go true f h = absurd cc
        go false f h = (x, j - length d.updated.terms, record { found = e; pending = rw (g, f) refl; at = j; stands = own_found (content d) d.parent n j x g e })
