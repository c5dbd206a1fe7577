-- Marks of earlier rounds.
use Rattle.std.proofs.Common.{◌≡◌, ℕ, zero, suc, ◌<◌, ◌≤◌, Bool, true, false, cond, eqb, leb, List, [], ◌∷◌, ◌++◌, length, map, take, set, get_or, Some, None, refl, ap, ◌∙◌, arith}
use Rattle.std.specs.Prelude.{◌&&◌, replicate}
use Rattle.std.proofs.lemmas.Bool.{eqb-true, eqb-false, leb-true, le-leb}
use Rattle.std.proofs.lemmas.List.{map-set, take_all}
use Rattle.ctf_draft.specs.MarksView.{are_within, reach_in_round}
use Rattle.ctf_draft.specs.declared.mark.Mark.{Mark}
use Rattle.ctf_draft.specs.declared.reach.Reach.{Reach}

both : (a b : Bool) → a ≡ true → b ≡ true → (a && b) ≡ true
both a b h k = rw (h, k) refl

parts : (a b : Bool) → (a && b) ≡ true → (a ≡ true) × (b ≡ true)
parts true b h = (refl, h)
parts false b h = absurd cc

module _ (r : ℕ) where
  within_front : (n : ℕ) (xs : List Mark) → are_within r xs ≡ true → are_within r (take n xs) ≡ true
  within_front zero xs h = refl
  within_front (suc n) [] h = refl
  within_front (suc n) (x ∷ xs) h = let p = parts (leb x.round r) (are_within r xs) h in both (leb x.round r) (are_within r (take n xs)) p.0 (within_front n xs p.1)

  within_all : (k : ℕ) (old : Mark) → leb old.round r ≡ true → are_within r (replicate k old) ≡ true
  within_all zero old h = refl
  within_all (suc k) old h = both (leb old.round r) (are_within r (replicate k old)) h (within_all k old h)

  within_both : (xs ys : List Mark) → are_within r xs ≡ true → are_within r ys ≡ true → are_within r (xs ++ ys) ≡ true
  within_both [] ys h k = k
  within_both (x ∷ xs) ys h k = let p = parts (leb x.round r) (are_within r xs) h in both (leb x.round r) (are_within r (xs ++ ys)) p.0 (within_both xs ys p.1 k)

  -- the same after resizing the marks
  pub within_resized : (b : Bool) (n k : ℕ) (old : Mark) (xs ys : List Mark) → ys ≡ cond b (take n xs ++ replicate k old) xs → old.round ≡ 0 → are_within r xs ≡ true → are_within r ys ≡ true
  within_resized true n k old xs ys is zero_is h = rw is (within_both (take n xs) (replicate k old) (within_front n xs h) (within_all k old (le-leb old.round r (omega arith))))
  within_resized false n k old xs ys is zero_is h = rw is h

  pub within_set : (xs : List Mark) (i : ℕ) (x : Mark) → x.round ≤ r → are_within r xs ≡ true → are_within r (set xs i x) ≡ true
  within_set [] i x le h = refl
  within_set (y ∷ ys) zero x le h = let p = parts (leb y.round r) (are_within r ys) h in both (leb x.round r) (are_within r ys) (le-leb x.round r le) p.1
  within_set (y ∷ ys) (suc i) x le h = let p = parts (leb y.round r) (are_within r ys) h in both (leb y.round r) (are_within r (set ys i x)) p.0 (within_set ys i x le p.1)

-- a mark within a round is within a later one
pub within_later : (r s : ℕ) (xs : List Mark) → r ≤ s → are_within r xs ≡ true → are_within s xs ≡ true
within_later r s [] le h = refl
within_later r s (x ∷ xs) le h =
    let p = parts (leb x.round r) (are_within r xs) h in
    let low : x.round ≤ r = leb-true x.round r p.0 in
    both (leb x.round s) (are_within s xs) (le-leb x.round s (omega arith)) (within_later r s xs le p.1)

-- and shows nothing there
pub none_said : (r s : ℕ) (xs : List Mark) → r < s → are_within r xs ≡ true → (j : ℕ) → get_or (map (reach_in_round s) xs) j None ≡ None
none_said r s [] lt h j = refl
none_said r s (x ∷ xs) lt h zero = at (eqb x.round s) refl
  where
    at : (b : Bool) → eqb x.round s ≡ b → cond b (Some x.reach) None ≡ None
    at true e =
        let same : x.round ≡ s = eqb-true x.round s e in
        let low : x.round ≤ r = leb-true x.round r (parts (leb x.round r) (are_within r xs) h).0 in
        absurd (omega arith)
    at false e = refl
none_said r s (x ∷ xs) lt h (suc j) = none_said r s xs lt (parts (leb x.round r) (are_within r xs) h).1 j

-- added room shows nothing
pub same_said : (r k : ℕ) (old : Mark) → old.round ≡ 0 → 0 < r → (xs : List Mark) (j : ℕ) → get_or (map (reach_in_round r) (xs ++ replicate k old)) j None ≡ get_or (map (reach_in_round r) xs) j None
same_said r zero old none lt [] j = refl
same_said r (suc k) old none lt [] zero = at (eqb old.round r) refl
  where
    at : (b : Bool) → eqb old.round r ≡ b → cond b (Some old.reach) None ≡ None
    at true e = let same : old.round ≡ r = eqb-true old.round r e in absurd (omega arith)
    at false e = refl
same_said r (suc k) old none lt [] (suc j) = same_said r k old none lt [] j
same_said r k old none lt (x ∷ xs) zero = refl
same_said r k old none lt (x ∷ xs) (suc j) = same_said r k old none lt xs j

pub room_said : (r : ℕ) (b : Bool) (n k : ℕ) (old : Mark) (xs ys : List Mark) → ys ≡ cond b (take n xs ++ replicate k old) xs → old.round ≡ 0 → 0 < r → length xs ≤ n → (j : ℕ) → get_or (map (reach_in_round r) ys) j None ≡ get_or (map (reach_in_round r) xs) j None
room_said r true n k old xs ys is none lt le j = rw (is, take_all n xs le) (same_said r k old none lt xs j)
room_said r false n k old xs ys is none lt le j = rw is refl

same_round : (r : ℕ) → eqb r r ≡ true
same_round r = at (eqb r r) refl
  where
    at : (b : Bool) → eqb r r ≡ b → b ≡ true
    at true e = refl
    at false e = let other = eqb-false r r e in absurd (other refl)

-- a mark of this round shows its own reach
pub said_now : (r i : ℕ) (reach : Reach) (xs : List Mark) → map (reach_in_round r) (set xs i (record { round = r; reach = reach })) ≡ set (map (reach_in_round r) xs) i (Some reach)
said_now r i reach xs = map-set (reach_in_round r) xs i (record { round = r; reach = reach }) ∙ ap (set (map (reach_in_round r) xs) i) (ap (λ (b : Bool). cond b (Some reach) None) (same_round r))
