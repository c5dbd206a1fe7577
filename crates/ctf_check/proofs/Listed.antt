-- The types that a record lists, one after another.
use Rattle.std.proofs.Common.{◌≡◌, ℕ, ◌+◌, ◌-◌, ◌<◌, ◌≤◌, max, Bool, true, false, cond, eqb, List, length, drop, ap, refl, arith}
use Rattle.std.specs.Prelude.{slice_index, ◌||◌}
use Rattle.std.specs.List.{list_any}
use Rattle.std.proofs.lemmas.Bool.{eqb-false, eqb-true}
use Rattle.std.proofs.lemmas.List.{drop_more, drop_all}
use Rattle.ctf_model.specs.rules.Needs.{greatest_in_parent, number_in_parent}
use Rattle.ctf_model.specs.declared.numbers.Place.TheVariants.{Nowhere, Own}
use Rattle.ctf_check.specs.Enough.{enough_among, enough_at, enough_for}

pub any_next : (p : ℕ → Bool) (ns : List ℕ) (i n : ℕ) → i < length ns → n ≡ slice_index ns i → list_any p (drop i ns) ≡ (p n || list_any p (drop (i + 1) ns))
any_next p ns i n lt e = rw e (ap (list_any p) (drop_more ns i 0 lt))

pub any_end : (p : ℕ → Bool) (ns : List ℕ) (i : ℕ) → length ns ≤ i → list_any p (drop i ns) ≡ false
any_end p ns i le = ap (list_any p) (drop_all i ns le)

pub greatest_next : (ns : List ℕ) (i n : ℕ) → i < length ns → n ≡ slice_index ns i → greatest_in_parent (drop i ns) ≡ max (number_in_parent n) (greatest_in_parent (drop (i + 1) ns))
unfolding greatest_in_parent
greatest_next ns i n lt e = rw e (ap greatest_in_parent (drop_more ns i 0 lt))

pub greatest_end : (ns : List ℕ) (i : ℕ) → length ns ≤ i → greatest_in_parent (drop i ns) ≡ 0
unfolding greatest_in_parent
greatest_end ns i le = ap greatest_in_parent (drop_all i ns le)

pub enough_next : (child : Bool) (ns : List ℕ) (i n : ℕ) → i < length ns → n ≡ slice_index ns i → enough_among child (drop i ns) ≡ max (enough_for child n) (enough_among child (drop (i + 1) ns))
unfolding enough_among
enough_next child ns i n lt e = rw e (ap (enough_among child) (drop_more ns i 0 lt))

pub enough_end : (child : Bool) (ns : List ℕ) (i : ℕ) → length ns ≤ i → enough_among child (drop i ns) ≡ 0
unfolding enough_among
enough_end child ns i le = ap (enough_among child) (drop_all i ns le)

-- in a dictionary that is no child, the bound for a number is the number
pub enough_plain : (child : Bool) (n : ℕ) → child ≡ false → n ≡ enough_for child n
enough_plain child n plain = rw plain (go (eqb n 0) refl)
  where
    go : (none : Bool) → eqb n 0 ≡ none → n ≡ enough_at n (cond none Nowhere (Own (n - 1)))
    go true e = let is : n ≡ 0 = eqb-true n 0 e in rw is refl
    go false e = let other = eqb-false n 0 e in let same : n ≡ n - 1 + 1 = omega (arith, other) in same
