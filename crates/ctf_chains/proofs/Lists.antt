-- Facts of every record in a list.
use Rattle.std.proofs.Common.{◌≡◌, ℕ, ◌≢◌, ◌⊎◌, inl, inr, List, [], ◌∷◌, ◌++◌}
use Rattle.std.specs.List.{AllByRecursion}
use Rattle.std.proofs.lemmas.Bool.Decides.{eqb_tells}

pub All-map : (P Q : ℕ → Type 0) → ((j : ℕ) → P j → Q j) → (xs : List ℕ) → AllByRecursion P xs → AllByRecursion Q xs
All-map P Q h [] a = tt
All-map P Q h (x ∷ xs) a = (h x a.0, All-map P Q h xs a.1)

pub All-at : (P : ℕ → Type 0) (xs : List ℕ) (j : ℕ) (ys : List ℕ) → AllByRecursion P (xs ++ (j ∷ ys)) → P j
All-at P [] j ys a = a.0
All-at P (x ∷ xs) j ys a = All-at P xs j ys a.1

pub All-front : (P : ℕ → Type 0) (xs ys : List ℕ) → AllByRecursion P (xs ++ ys) → AllByRecursion P xs
All-front P [] ys a = tt
All-front P (x ∷ xs) ys a = (a.0, All-front P xs ys a.1)

pub All-one_more : (P : ℕ → Type 0) (xs : List ℕ) (j : ℕ) → AllByRecursion P xs → P j → AllByRecursion P (xs ++ (j ∷ []))
All-one_more P [] j a p = (p, tt)
All-one_more P (x ∷ xs) j a p = (a.0, All-one_more P xs j a.1 p)

pub not_empty : (xs : List ℕ) (j : ℕ) (ys : List ℕ) → xs ++ (j ∷ ys) ≡ [] → ⊥
not_empty [] j ys e = cc
not_empty (x ∷ xs) j ys e = cc

pub same_or_not : (j i : ℕ) → (j ≡ i) ⊎ (j ≢ i)
same_or_not j i = elim (eqb_tells j i) [ inl p ↦ inl p.1 | inr p ↦ inr p.1 ]
