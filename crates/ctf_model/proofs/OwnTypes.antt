-- The own types of a dictionary, by their numbers.
use Rattle.std.proofs.Common.{◌≡◌, ℕ, zero, suc, ◌+◌, ◌-◌, ◌≤◌, ◌<◌, Bool, true, false, cond, eqb, ltb, List, [], ◌∷◌, length, Option, Some, None, get_or, refl, ap, subst, arith}
use Rattle.std.specs.Prelude.{MatchOption}
use Rattle.std.specs.List.{AllByRecursion, cons_option, filter_map}
use Rattle.std.proofs.Math.ListN as listn
use Rattle.std.proofs.lemmas.Bool.{ltb-true, ltb-false, lt-ltb, eqb-true, eqb-false}
use Rattle.ctf_model.specs.rules.Chains.{by_value, edges, own_index, own_index_at, targets}
use Rattle.ctf_model.specs.format.Dictionary.{Dictionary}
use Rattle.ctf_model.specs.figures.FigureLaws.{value_edges, nothing, own_body}
use Rattle.ctf_model.specs.format.Term.{Term}
use Rattle.ctf_model.specs.spaces.TypePlaces.{own_number, place, place_in_child}
use Rattle.ctf_model.specs.declared.numbers.Place.{Place}
use Rattle.ctf_model.specs.declared.numbers.Place.TheVariants.{Nowhere, Own, Parents}

-- ---- numbers and places

pub not_zero : (n : ℕ) → 0 < n → eqb n 0 ≡ false
not_zero n some = at (eqb n 0) refl
  where
    at : (b : Bool) → eqb n 0 ≡ b → b ≡ false
    at true e = let is : n ≡ 0 = eqb-true n 0 e in absurd (omega arith)
    at false e = refl

in_child : (n i : ℕ) → n ≡ i + 0x8001 → (low between : Bool) → ltb n 0x8000 ≡ low → eqb n 0x8000 ≡ between → cond low (Parents (n - 1)) (cond between Nowhere (Own (n - 0x8001))) ≡ Own i
in_child n i is true between low mid = let lt : n < 0x8000 = ltb-true n 0x8000 low in absurd (omega arith)
in_child n i is false true low mid = let same : n ≡ 0x8000 = eqb-true n 0x8000 mid in absurd (omega arith)
in_child n i is false false low mid = ap Own (omega arith)

-- the place of own type `i`'s number
pub place_of_own : (child : Bool) (i : ℕ) → place child (own_number child i) ≡ Own i
place_of_own true i = let some : eqb (i + 0x8001) 0 ≡ false = not_zero (i + 0x8001) (omega arith) in rw some (in_child (i + 0x8001) i refl (ltb (i + 0x8001) 0x8000) (eqb (i + 0x8001) 0x8000) refl refl)
place_of_own false i = let some : eqb (i + 1) 0 ≡ false = not_zero (i + 1) (omega arith) in rw some (ap Own (omega arith))

from_child : (n i : ℕ) → (low between : Bool) → ltb n 0x8000 ≡ low → eqb n 0x8000 ≡ between → cond low (Parents (n - 1)) (cond between Nowhere (Own (n - 0x8001))) ≡ Own i → n ≡ i + 0x8001
from_child n i true between low mid e = absurd cc
from_child n i false true low mid e = absurd cc
from_child n i false false low mid e =
    let least : 0x8000 ≤ n = ltb-false n 0x8000 low in
    let other = eqb-false n 0x8000 mid in
    let is : n - 0x8001 ≡ i = cc in
    omega (arith, other)

-- the number of an own type
pub own_place : (child : Bool) (n i : ℕ) → place child n ≡ Own i → n ≡ own_number child i
own_place child n i e = at child (eqb n 0) refl e
  where
    at : (child none : Bool) → eqb n 0 ≡ none → cond none Nowhere (cond child (place_in_child n) (Own (n - 1))) ≡ Own i → n ≡ own_number child i
    at child true z e = absurd cc
    at true false z e = from_child n i (ltb n 0x8000) (eqb n 0x8000) refl refl e
    at false false z e = let other = eqb-false n 0 z in let is : n - 1 ≡ i = cc in omega (arith, other)

-- the number of an own type is not 0
pub own_positive : (child : Bool) (n i : ℕ) → place child n ≡ Own i → 0 < n
own_positive true n i e = let is : n ≡ i + 0x8001 = own_place true n i e in omega arith
own_positive false n i e = let is : n ≡ i + 1 = own_place false n i e in omega arith

-- a parent's types count from 1
pub parents_place : (child : Bool) (n i : ℕ) → place child n ≡ Parents i → n ≡ i + 1
parents_place child n i e = at child (eqb n 0) refl e
  where
    in_child : (low between : Bool) → eqb n 0 ≡ false → cond low (Parents (n - 1)) (cond between Nowhere (Own (n - 0x8001))) ≡ Parents i → n ≡ i + 1
    in_child true between z e = let other = eqb-false n 0 z in let is : n - 1 ≡ i = cc in omega (arith, other)
    in_child false true z e = absurd cc
    in_child false false z e = absurd cc

    at : (child none : Bool) → eqb n 0 ≡ none → cond none Nowhere (cond child (place_in_child n) (Own (n - 1))) ≡ Parents i → n ≡ i + 1
    at child true z e = absurd cc
    at true false z e = in_child (ltb n 0x8000) (eqb n 0x8000) z e
    at false false z e = absurd cc

-- ---- own types that numbers name

-- the index of an existing own type
pub own_of : (child : Bool) (count n i : ℕ) → place child n ≡ Own i → i < count → own_index child count n ≡ Some i
own_of child count n i e lt = let test = lt-ltb i count lt in rw (e, test) refl

index_at : (count j : ℕ) (p : Place) → own_index_at count p ≡ Some j → (p ≡ Own j) × (j < count)
index_at count j Nowhere e = absurd cc
index_at count j (Parents i) e = absurd cc
index_at count j (Own i) e = at (ltb i count) refl e
  where
    at : (b : Bool) → ltb i count ≡ b → cond b (Some i) None ≡ Some j → (Own i ≡ Own j) × (j < count)
    at true t e = let same : i ≡ j = cc in (ap Own same, subst (λ (k : ℕ). k < count) same (ltb-true i count t))
    at false t e = absurd cc

-- an own index is in range, and determines the number
pub own_inside : (child : Bool) (count n j : ℕ) → own_index child count n ≡ Some j → (place child n ≡ Own j) × (j < count) × (n ≡ own_number child j)
own_inside child count n j e = let h = index_at count j (place child n) e in (h.0, h.1, own_place child n j h.0)

-- ---- the own types of a list of numbers

-- a fact of each named own type holds for each number that names one
pub each_own : (P : ℕ → Type 0) (own : ℕ → Option ℕ) (ts : List ℕ) → AllByRecursion P (filter_map own ts) → (Q : ℕ → Type 0) → ((t : ℕ) → MatchOption (own t) (Unit {0}) P → Q t) → AllByRecursion Q ts
each_own P own [] a Q h = tt
each_own P own (t ∷ ts) a Q h = at (own t) refl a (λ b. each_own P own ts b Q h)
  where
    at : (o : Option ℕ) → own t ≡ o → AllByRecursion P (cons_option o (filter_map own ts)) → (AllByRecursion P (filter_map own ts) → AllByRecursion Q ts) → AllByRecursion Q (t ∷ ts)
    at None is b rest = (h t (rw is tt), rest b)
    at (Some j) is b rest = (h t (rw is b.0), rest b.1)

-- the same for the number at index `k`
pub one_own : (P : ℕ → Type 0) (own : ℕ → Option ℕ) (ts : List ℕ) (k j : ℕ) → k < length ts → own (get_or ts k 0) ≡ Some j → AllByRecursion P (filter_map own ts) → P j
one_own P own [] k j lt is a = absurd (omega arith)
one_own P own (t ∷ ts) zero j lt is a = at (own t) is a
  where
    at : (o : Option ℕ) → o ≡ Some j → AllByRecursion P (cons_option o (filter_map own ts)) → P j
    at None e b = absurd cc
    at (Some i) e b = let same : i ≡ j = cc in subst P same b.0
one_own P own (t ∷ ts) (suc k) j lt is a = one_own P own ts k j (omega arith) is (at (own t) a)
  where
    at : (o : Option ℕ) → AllByRecursion P (cons_option o (filter_map own ts)) → AllByRecursion P (filter_map own ts)
    at None b = b
    at (Some i) b = b.1

-- the types that an own type leads to
pub targets_are : (d : Dictionary) (i : ℕ) → targets (value_edges d) i ≡ filter_map (own_index d.child (length d.terms)) (by_value (own_body d i))
unfolding edges
targets_are d i = listn.get_or-map (λ (x : Term). filter_map (own_index d.child (length d.terms)) (by_value x.body)) d.terms i nothing
