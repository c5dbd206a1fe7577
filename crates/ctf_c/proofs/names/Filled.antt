-- Rows filled one after another.
use Rattle.std.proofs.Common.{◌≡◌, ⊎_elim, ℕ, zero, suc, ◌+◌, ◌-◌, ◌<◌, ◌≤◌, min, List, [], ◌∷◌, length, set, Some, refl, sym, ap, subst, ◌∙◌, arith, length-set}
use Rattle.std.specs.Prelude.{IfSome, slice_get}
use Rattle.std.proofs.lemmas.Bool.{cases_lt}
use Rattle.std.proofs.lemmas.Option.{same_Some, slice_get_within}
use Rattle.ctf_c.specs.names.Filling.{Fills}

pub set_same : {R : Type 0} (rows : List R) (i : ℕ) (row : R) → i < length rows → slice_get (set rows i row) i ≡ Some row
set_same [] i row lt = absurd (omega arith)
set_same (r ∷ rows) zero row lt = refl
set_same (r ∷ rows) (suc i) row lt = set_same rows i row (omega arith)

pub set_other : {R : Type 0} (rows : List R) (i j : ℕ) (row : R) → (j ≡ i → ⊥) → slice_get (set rows i row) j ≡ slice_get rows j
set_other [] i j row other = refl
set_other (r ∷ rows) zero zero row other = absurd (other refl)
set_other (r ∷ rows) zero (suc j) row other = refl
set_other (r ∷ rows) (suc i) zero row other = refl
set_other (r ∷ rows) (suc i) (suc j) row other = set_other rows i j row (λ e. other (ap suc e))

-- the first `i` rows give items, and the others are unchanged
pub record IsFilled {A R : Type 0} (Tells : A → R → Type 0) (items : List A) (from : ℕ) (old now : List R) (i : ℕ) : Type 0 where
  pub many : length now ≡ length old
  pub reached : i ≤ length items - from
  pub told : (j : ℕ) (x : A) (r : R) → j < i → slice_get items (from + j) ≡ Some x → slice_get now j ≡ Some r → Tells x r
  pub later : (j : ℕ) → i ≤ j → slice_get now j ≡ slice_get old j

module _ {A R : Type 0} (Tells : A → R → Type 0) (items : List A) (from : ℕ) (old : List R) where
  pub unfilled : IsFilled Tells items from old old 0
  unfilled = record { many = refl; reached = omega arith; told = λ j x r lt. absurd (omega arith); later = λ j le. refl }

  pub filled : (now : List R) (i : ℕ) (row : R) → IsFilled Tells items from old now i → i < length now → i < length items - from → IfSome (slice_get items (from + i)) (λ x. Tells x row) → IsFilled Tells items from old (set now i row) (i + 1)
  filled now i row h inside there tells = record {
    many = length-set now i row ∙ h.many;
    reached = omega arith;
    told = λ j x r lt e f. ⊎_elim (before j x r e f) (λ le. here j x r e f (omega arith)) (cases_lt j i);
    later = λ j le. set_other now i j row (λ e. omega (arith, e)) ∙ h.later j (omega arith);
  }
    where
      before : (j : ℕ) (x : A) (r : R) → slice_get items (from + j) ≡ Some x → slice_get (set now i row) j ≡ Some r → j < i → Tells x r
      before j x r e f lt = h.told j x r lt e (sym (set_other now i j row (λ same. omega (arith, same))) ∙ f)

      here : (j : ℕ) (x : A) (r : R) → slice_get items (from + j) ≡ Some x → slice_get (set now i row) j ≡ Some r → j ≡ i → Tells x r
      here j x r e f same =
          let is : slice_get items (from + i) ≡ Some x = subst (λ k. slice_get items (from + k) ≡ Some x) same e in
          let row_is : row ≡ r = same_Some _ _ (sym (set_same now i row inside) ∙ subst (λ k. slice_get (set now i row) k ≡ Some r) same f) in
          subst (λ it. Tells x it) row_is (rw is at tells)

  -- once rows or items are used up
  pub all_filled : (now : List R) (i left count : ℕ) → IsFilled Tells items from old now i → count ≤ i → left ≡ length items - from → count ≡ min left (length old) → Fills Tells items from old now
  all_filled now i left count h end e f = record {
    many = h.many;
    told = λ j x r is there. h.told j x r (before j x r is there) is there;
    stays = λ j past. h.later j (behind j past);
  }
    where
      before : (j : ℕ) (x : A) (r : R) → slice_get items (from + j) ≡ Some x → slice_get now j ≡ Some r → j < i
      before j x r is there = let a = slice_get_within items (from + j) x is in let b = slice_get_within now j r there in let m = h.many in omega (arith, a, b, m, e, f, end)

      behind : (j : ℕ) → length items ≤ from + j → i ≤ j
      behind j past = let r = h.reached in omega arith
