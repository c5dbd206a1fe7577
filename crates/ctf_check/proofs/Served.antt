-- A walk through records: the effect of the next record on the first bad name; and the case that
-- there are enough types.
use Rattle.std.proofs.Common.{◌≡◌, ℕ, ◌+◌, ◌≤◌, Bool, true, false, cond, eqb, List, [], ◌∷◌, Option, Some, None, Result, Ok, Err, refl, sym, ap, ◌∙◌, arith}
use Rattle.std.specs.Prelude.{◌||◌, not}
use Rattle.std.specs.List.{list_any}
use Rattle.std.specs.Option.{option_or}
use Rattle.std.proofs.lemmas.Bool.{lt-leb}
use Rattle.ctf_model.specs.rules.Faults.{first_nameless, record_sites}
use Rattle.ctf_model.specs.rules.References.{has_long_tag, is_missing, is_missing_at}
use Rattle.ctf_model.specs.format.Name.{Tables}
use Rattle.ctf_model.specs.format.Section.{Piece}
use Rattle.ctf_model.specs.spaces.TypePlaces.{place}
use Rattle.ctf_model.specs.declared.faults.Fault.{Fault}
use Rattle.ctf_model.specs.declared.numbers.Place.{Place}
use Rattle.ctf_model.specs.declared.numbers.Place.TheVariants.{Nowhere, Own, Parents}
use Rattle.ctf_check.specs.Enough.{enough_at, enough_among, record_enough, records_enough}
use Rattle.ctf_check.specs.Named.{first_that_misnames, misnames, named_types}
use Rattle.ctf_check.specs.Stages.{own_sites}
use Rattle.ctf_check.proofs.Sites.{record_then_rest, no_more_records}

-- ---- names

joined : (a b c : Option ℕ) → option_or (option_or a b) c ≡ option_or a (option_or b c)
joined None b c = refl
joined (Some x) b c = refl

alone : (a : Option ℕ) → option_or a None ≡ a
alone None = refl
alone (Some x) = refl

pub next_name : (t : Tables) (start : ℕ) (p : Piece) (rest : List (Result Piece Fault)) (bad : Option ℕ)
    → option_or bad (first_nameless t (record_sites start (Ok p ∷ rest))) ≡ option_or (option_or bad (first_nameless t (own_sites (start + p.at) p.bytes))) (first_nameless t (record_sites start rest))
next_name t start p rest bad =
    ap (option_or bad) (record_then_rest t start p rest)
    ∙ sym (joined bad (first_nameless t (own_sites (start + p.at) p.bytes)) (first_nameless t (record_sites start rest)))

pub no_name_left : (t : Tables) (start : ℕ) (bad : Option ℕ) → option_or bad (first_nameless t (record_sites start [])) ≡ bad
no_name_left t start bad = ap (option_or bad) (no_more_records t start) ∙ alone bad

-- ---- references

enough_here : (count n : ℕ) (p : Place) → count ≤ 32766 → enough_at n p ≤ count → is_missing_at count n p ≡ false
enough_here count n Nowhere few le = at (eqb n 0) le
  where
    at : (b : Bool) → cond b 0 32767 ≤ count → not b ≡ false
    at true h = refl
    at false h = let none : ⊥ = omega (arith, few, h) in absurd none
enough_here count n (Own i) few le = lt-leb count i (omega (arith, le))
enough_here count n (Parents i) few le = refl

enough_numbers : (child : Bool) (count : ℕ) (ns : List ℕ) → count ≤ 32766 → enough_among child ns ≤ count → list_any (is_missing child count) ns ≡ false
unfolding enough_among
enough_numbers child count [] few le = refl
enough_numbers child count (n ∷ ns) few le =
    let here : is_missing child count n ≡ false = enough_here count n (place child n) few (omega (arith, le)) in
    let later : list_any (is_missing child count) ns ≡ false = enough_numbers child count ns few (omega (arith, le)) in
    rw (here, later) refl

enough_record : (child : Bool) (count : ℕ) (b : List ℕ) → count ≤ 32766 → record_enough child b ≤ count → misnames child count b ≡ false
unfolding record_enough misnames
enough_record child count b few le = at (has_long_tag b) le
  where
    at : (long : Bool) → cond long 32767 (enough_among child (named_types b)) ≤ count → (long || list_any (is_missing child count) (named_types b)) ≡ false
    at true h = let none : ⊥ = omega (arith, few, h) in absurd none
    at false h = enough_numbers child count (named_types b) few h

-- if there are enough types, no record refers to a missing one
pub none_misnames : (child : Bool) (count : ℕ) (rs : List (Result Piece Fault)) → count ≤ 32766 → records_enough child rs ≤ count → first_that_misnames child count rs ≡ None
unfolding records_enough first_that_misnames
none_misnames child count [] few le = refl
none_misnames child count (Ok p ∷ rest) few le =
    let here : misnames child count p.bytes ≡ false = enough_record child count p.bytes few (omega (arith, le)) in
    let later : first_that_misnames child count rest ≡ None = none_misnames child count rest few (omega (arith, le)) in
    rw (here, later) refl
none_misnames child count (Err f ∷ rest) few le = refl
