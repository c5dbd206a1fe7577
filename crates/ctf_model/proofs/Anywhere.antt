-- Facts that hold of some item of a list, or of every item.
use Rattle.std.proofs.Common.{◌≡◌, ℕ, zero, suc, ◌<◌, List, [], ◌∷◌, ◌++◌, length, refl, sym, subst, arith, ◌⊎◌, inl, inr}
use Rattle.std.specs.Prelude.{Any, slice_index_or}
use Rattle.std.specs.List.{AllByRecursion}

-- no item of an empty list has a fact
pub any_none : {X : Type 0} (P : X → Type 0) → Any P [] → ⊥
any_none P a = let lt = a.2 in absurd (omega arith)

-- a consequence of the fact holds of the same item
pub any_map : {X : Type 0} (P Q : X → Type 0) → ((x : X) → P x → Q x) → (xs : List X) → Any P xs → Any Q xs
any_map P Q f xs a = (a.0, a.1, a.2, a.3, f a.1 a.4)

-- the first item has the fact
pub any_here : {X : Type 0} (P : X → Type 0) (x : X) (xs : List X) → P x → Any P (x ∷ xs)
any_here P x xs p = (0, x, omega arith, refl, p)

-- an item of the rest has the fact
pub any_there : {X : Type 0} (P : X → Type 0) (x : X) (xs : List X) → Any P xs → Any P (x ∷ xs)
any_there P x xs a = let lt = a.2 in (suc a.0, a.1, omega arith, a.3, a.4)

-- the item is the first, or one of the rest
pub any_split : {X : Type 0} (P : X → Type 0) (x : X) (xs : List X) → Any P (x ∷ xs) → P x ⊎ Any P xs
any_split {X} P x xs a = at a.0 a.1 a.2 a.3 a.4
  where
    at : (k : ℕ) (y : X) → k < length (x ∷ xs) → slice_index_or (x ∷ xs) k y ≡ y → P y → P x ⊎ Any P xs
    at zero y lt e p = inl (subst P (sym e) p)
    at (suc k) y lt e p = inr (k, y, omega arith, e, p)

-- the item is in the first list, or in the second
pub any_append : {X : Type 0} (P : X → Type 0) (xs ys : List X) → Any P (xs ++ ys) → Any P xs ⊎ Any P ys
any_append P [] ys a = inr a
any_append P (x ∷ xs) ys a = at (any_split P x (xs ++ ys) a) (any_append P xs ys)
  where
    later : Any P xs ⊎ Any P ys → Any P (x ∷ xs) ⊎ Any P ys
    later (inl b) = inl (any_there P x xs b)
    later (inr b) = inr b

    at : P x ⊎ Any P (xs ++ ys) → (Any P (xs ++ ys) → Any P xs ⊎ Any P ys) → Any P (x ∷ xs) ⊎ Any P ys
    at (inl p) more = inl (any_here P x xs p)
    at (inr b) more = later (more b)

pub any_left : {X : Type 0} (P : X → Type 0) (xs ys : List X) → Any P xs → Any P (xs ++ ys)
any_left P [] ys a = absurd (any_none P a)
any_left P (x ∷ xs) ys a = at (any_split P x xs a) (any_left P xs ys)
  where
    at : P x ⊎ Any P xs → (Any P xs → Any P (xs ++ ys)) → Any P (x ∷ (xs ++ ys))
    at (inl p) more = any_here P x (xs ++ ys) p
    at (inr b) more = any_there P x (xs ++ ys) (more b)

pub any_right : {X : Type 0} (P : X → Type 0) (xs ys : List X) → Any P ys → Any P (xs ++ ys)
any_right P [] ys a = a
any_right P (x ∷ xs) ys a = any_there P x (xs ++ ys) (any_right P xs ys a)

-- a consequence of the fact holds of every item
pub all_map : {X : Type 0} (P Q : X → Type 0) → ((x : X) → P x → Q x) → (xs : List X) → AllByRecursion P xs → AllByRecursion Q xs
all_map P Q f [] a = tt
all_map P Q f (x ∷ xs) a = (f x a.0, all_map P Q f xs a.1)
