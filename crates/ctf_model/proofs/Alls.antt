-- Facts that hold of every item of a list, and tests that no item passes.
use Rattle.std.proofs.Common.{◌≡◌, ℕ, zero, suc, Bool, true, false, List, [], ◌∷◌, ◌++◌, set, Some, refl, subst}
use Rattle.std.specs.Prelude.{◌||◌, slice_get}
use Rattle.std.specs.List.{AllByRecursion, list_any}

pub or_parts : (a b : Bool) → (a || b) ≡ false → (a ≡ false) × (b ≡ false)
or_parts true b h = absurd cc
or_parts false b h = (refl, h)

-- ---- facts of every item

pub all_split : {A : Type 0} (P : A → Type 0) (xs ys : List A) → AllByRecursion P (xs ++ ys) → AllByRecursion P xs × AllByRecursion P ys
all_split P [] ys h = (tt, h)
all_split P (x ∷ xs) ys h = let more = all_split P xs ys h.1 in ((h.0, more.0), more.1)

pub all_joined : {A : Type 0} (P : A → Type 0) (xs ys : List A) → AllByRecursion P xs → AllByRecursion P ys → AllByRecursion P (xs ++ ys)
all_joined P [] ys p q = q
all_joined P (x ∷ xs) ys p q = (p.0, all_joined P xs ys p.1 q)

pub all_set : {A : Type 0} (P : A → Type 0) (xs : List A) (i : ℕ) (y : A) → AllByRecursion P xs → P y → AllByRecursion P (set xs i y)
all_set P [] i y h p = tt
all_set P (x ∷ xs) zero y h p = (p, h.1)
all_set P (x ∷ xs) (suc i) y h p = (h.0, all_set P xs i y h.1 p)

pub all_got : {A : Type 0} (P : A → Type 0) (xs : List A) (i : ℕ) (x : A) → AllByRecursion P xs → slice_get xs i ≡ Some x → P x
all_got P [] i x h e = absurd cc
all_got P (y ∷ ys) zero x h e = let same : y ≡ x = cc in subst P same h.0
all_got P (y ∷ ys) (suc i) x h e = all_got P ys i x h.1 e

-- ---- tests that no item passes

pub none_weaker : {A : Type 0} (p q : A → Bool) → ((n : A) → p n ≡ false → q n ≡ false) → (xs : List A) → list_any p xs ≡ false → list_any q xs ≡ false
none_weaker p q f [] h = refl
none_weaker p q f (x ∷ xs) h = let both = or_parts (p x) (list_any p xs) h in let first = f x both.0 in rw first (none_weaker p q f xs both.1)

pub none_joined : {A : Type 0} (p : A → Bool) (xs ys : List A) → list_any p xs ≡ false → list_any p ys ≡ false → list_any p (xs ++ ys) ≡ false
none_joined p [] ys h g = g
none_joined p (x ∷ xs) ys h g = let both = or_parts (p x) (list_any p xs) h in rw both.0 (none_joined p xs ys both.1 g)

-- if every item that fails the test has the fact, and none passes, all have it
pub none_all : {A : Type 0} (p : A → Bool) (P : A → Type 0) → ((n : A) → p n ≡ false → P n) → (xs : List A) → list_any p xs ≡ false → AllByRecursion P xs
none_all p P f [] h = tt
none_all p P f (x ∷ xs) h = let both = or_parts (p x) (list_any p xs) h in (f x both.0, none_all p P f xs both.1)
