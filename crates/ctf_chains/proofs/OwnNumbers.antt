-- Own types by number, from the first own number on.
use Rattle.std.proofs.Common.{◌≡◌, ℕ, ◌+◌, ◌-◌, ◌<◌, ◌≤◌, Bool, true, false, cond, eqb, ltb, None, refl, ap, arith}
use Rattle.std.proofs.lemmas.Bool.{eqb-false, ltb-false}
use Rattle.ctf_model.specs.rules.Chains.{own_index, own_index_at}
use Rattle.ctf_model.specs.spaces.TypePlaces.{own_number}
use Rattle.ctf_model.specs.declared.numbers.Place.TheVariants.{Nowhere, Own, Parents}
use Rattle.ctf_model.proofs.OwnTypes.{place_of_own}

-- a number below the first own number names no own type
pub below_own : (child : Bool) (count n first : ℕ) → first ≡ own_number child 0 → n < first → own_index child count n ≡ None
below_own true count n first is lt = go (eqb n 0) (ltb n 0x8000) (eqb n 0x8000) refl refl refl
  where
    go : (none low mid : Bool) → eqb n 0 ≡ none → ltb n 0x8000 ≡ low → eqb n 0x8000 ≡ mid → own_index_at count (cond none Nowhere (cond low (Parents (n - 1)) (cond mid Nowhere (Own (n - 0x8001))))) ≡ None
    go true low mid a b c = refl
    go false true mid a b c = refl
    go false false true a b c = refl
    go false false false a b c =
        let least : 0x8000 ≤ n = ltb-false n 0x8000 b in
        let other = eqb-false n 0x8000 c in
        let at : first ≡ 0x8001 = is in
        absurd (omega (arith, other))
below_own false count n first is lt =
    let at : first ≡ 1 = is in
    let none : n ≡ 0 = omega arith in
    rw none refl

numbered : (child : Bool) (n first i : ℕ) → first ≡ own_number child 0 → first ≤ n → i ≡ n - first → n ≡ own_number child i
numbered true n first i is le at =
    let here : first ≡ 0x8001 = is in
    let same : n ≡ i + 0x8001 = omega arith in
    same
numbered false n first i is le at =
    let here : first ≡ 1 = is in
    let same : n ≡ i + 1 = omega arith in
    same

-- a number from it on names the own type at that distance
pub at_own : (child : Bool) (count n first i : ℕ) → first ≡ own_number child 0 → first ≤ n → i ≡ n - first → own_index child count n ≡ own_index_at count (Own i)
at_own child count n first i is le at = rw (numbered child n first i is le at) (ap (own_index_at count) (place_of_own child i))
