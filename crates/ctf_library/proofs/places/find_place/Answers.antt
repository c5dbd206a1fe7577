use Rattle.std.proofs.Common.{◌≡◌, ◌≢◌, ◌<◌, ℕ, List, length, get_or, Bool, true, false, ltb, refl, arith, ap, sym, ◌∙◌}
use Rattle.std.specs.List.Sorted.{IsNonDecreasingBy, IsPartitionPoint}
use Rattle.std.proofs.lemmas.Bool.{ltb-true, ltb-false}
use Rattle.std.proofs.lemmas.List.{get_or_default}
use Rattle.std.proofs.lemmas.Grind.{common_steps}
use Rattle.std.proofs.lemmas.List.Sorted.{IsPartitionPoint-from_clause, IsPartitionedBy-ltb}
use Rattle.ctf_library.specs.declared.slots.Slot as own
use Rattle.ctf_library.proofs.Rising.{nowhere, placed}
use Rattle.ctf_library.proofs.places.find_place.Goals as goal

abbrev Halves : List own.Slot → ℕ → ℕ → Type 0
Halves xs n i = IsPartitionPoint (λ (s : own.Slot). ltb s.number n ≡ true) (λ (s : own.Slot). ltb s.number n ≡ false) xs i

pub returns-then-place-slots : goal.returns-then-place-slots
returns-then-place-slots c =
    let xs = c.args.slots.now in
    let n = c.args.number in
    let halves : Halves xs n c.partition_point-place.result = IsPartitionPoint-from_clause (λ (s : own.Slot). ltb s.number n) _ _ c.partition_point-place.ensures.partitioned (IsPartitionedBy-ltb (λ (s : own.Slot). s.number) xs n c.requires) (λ a r q k. grind (arith, common_steps)) in
    let end = c.if-place-slots.true in
    sym (nowhere n xs (λ j d lt e. let low = ltb-true (get_or xs j d).number n (halves.0 j d (omega arith) (omega (arith, end, lt))) in absurd (omega (arith, low, e))))

-- the number at the index
at_place : (xs : List own.Slot) (i : ℕ) (d e : own.Slot) → i < length xs → (get_or xs i d).number ≡ (get_or xs i e).number
at_place xs i d e lt = ap (λ (s : own.Slot). s.number) (get_or_default xs i d e lt)

-- a number that is not at the index is nowhere
by_side : (xs : List own.Slot) (n i j : ℕ) (d x : own.Slot) → Halves xs n i → IsNonDecreasingBy (λ (s : own.Slot). s.number) xs → i < length xs → j < length xs → (get_or xs i x).number ≢ n → (get_or xs j d).number ≡ n → ⊥
by_side xs n i j d x halves rising inside lt other e = before (ltb j i) refl
  where
    before : (t : Bool) → ltb j i ≡ t → ⊥
    before true h =
        let low = ltb-true (get_or xs j d).number n (halves.0 j d (omega arith) (ltb-true j i h)) in
        absurd (omega (arith, low, e))
    before false h =
        let at = at_place xs i d x inside in
        let high = ltb-false (get_or xs i d).number n (halves.1 i d (omega arith) inside) in
        let up = rising i j d (ltb-false j i h) lt in
        other (omega (arith, at, high, up, e))

pub returns-then-slots-place : goal.returns-then-slots-place
returns-then-slots-place c =
    let xs = c.args.slots.now in
    let n = c.args.number in
    let i = c.partition_point-place.result in
    let halves : Halves xs n i = IsPartitionPoint-from_clause (λ (s : own.Slot). ltb s.number n) _ _ c.partition_point-place.ensures.partitioned (IsPartitionedBy-ltb (λ (s : own.Slot). s.number) xs n c.requires) (λ a r q k. grind (arith, common_steps)) in
    let other = c.if-slots-place.true in
    let inside : i < length xs = let bound = c.partition_point-place.ensures.bound in let miss = c.if-place-slots.false in omega (arith, bound, miss) in
    sym (nowhere n xs (λ j d lt e. by_side xs n i j d c.index-slots-place.result halves c.requires inside lt other e))

pub returns : goal.returns
returns c =
    let xs = c.args.slots.now in
    let n = c.args.number in
    let i = c.partition_point-place.result in
    let halves : Halves xs n i = IsPartitionPoint-from_clause (λ (s : own.Slot). ltb s.number n) _ _ c.partition_point-place.ensures.partitioned (IsPartitionedBy-ltb (λ (s : own.Slot). s.number) xs n c.requires) (λ a r q k. grind (arith, common_steps)) in
    let same = c.if-slots-place.false in
    let inside : i < length xs = let bound = c.partition_point-place.ensures.bound in let miss = c.if-place-slots.false in omega (arith, bound, miss) in
    sym (placed n xs i (λ j d lt m e. let low = ltb-true (get_or xs j d).number n (halves.0 j d (omega arith) lt) in absurd (omega (arith, low, e))) inside (λ d. at_place xs i d c.index-slots-place.result inside ∙ same))
