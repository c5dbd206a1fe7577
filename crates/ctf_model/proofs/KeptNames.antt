-- Every name of a dictionary is in its strings.
use Rattle.std.proofs.Common.{◌≡◌, ℕ, Bool, true, false, cond, List, [], ◌∷◌, refl, sym, ap, ◌∙◌}
use Rattle.std.specs.Prelude.{◌||◌, not}
use Rattle.std.specs.List.{AllByRecursion, list_any, filter, flat_map}
use Rattle.std.specs.Str.{bytes_eq}
use Rattle.std.specs.Cmp.Lexicographic.{bytes_decides}
use Rattle.ctf_model.proofs.Alls.{all_split}
use Rattle.ctf_model.proofs.Anywhere.{all_map}
use Rattle.ctf_model.specs.writing.WritingLaws.{IsKept}
use Rattle.ctf_model.specs.writing.WrittenNames.{distinct, is_empty}

-- ---- lists

-- a fact of a concatenation holds of each part
pub all_flat : {A B : Type 0} (P : B → Type 0) (f : A → List B) (xs : List A) → AllByRecursion P (flat_map f xs) → AllByRecursion (λ x. AllByRecursion P (f x)) xs
all_flat P f [] h = tt
all_flat P f (x ∷ xs) h = let both = all_split P (f x) (flat_map f xs) h in (both.0, all_flat P f xs both.1)

all_filtered : {A : Type 0} (P : A → Type 0) (p : A → Bool) (xs : List A) → AllByRecursion P xs → AllByRecursion P (filter p xs)
all_filtered P p [] h = tt
all_filtered P p (x ∷ xs) h = at (p x) (all_filtered P p xs h.1)
  where
    at : (b : Bool) → AllByRecursion P (filter p xs) → AllByRecursion P (cond b (x ∷ filter p xs) (filter p xs))
    at true more = (h.0, more)
    at false more = more

-- ---- distinct names

pub all_distinct : (P : List ℕ → Type 0) (xs : List (List ℕ)) → AllByRecursion P xs → AllByRecursion P (distinct xs)
unfolding distinct
all_distinct P [] h = tt
all_distinct P (x ∷ xs) h = (h.0, all_filtered P (λ other. not (bytes_eq x other)) (distinct xs) (all_distinct P xs h.1))

pub all_kept : (P : List ℕ → Type 0) (xs : List (List ℕ)) → AllByRecursion P xs → AllByRecursion P (distinct (filter (λ name. not (is_empty name)) xs))
all_kept P xs h = all_distinct P (filter (λ name. not (is_empty name)) xs) (all_filtered P (λ name. not (is_empty name)) xs h)

-- `t` is one of these names
abbrev Has : List ℕ → List (List ℕ) → Type 0
Has t xs = list_any (bytes_eq t) xs ≡ true

-- a name that passes the filter stays
has_filtered : (t : List ℕ) (p : List ℕ → Bool) (xs : List (List ℕ)) → p t ≡ true → Has t xs → Has t (filter p xs)
has_filtered t p [] pass h = absurd cc
has_filtered t p (x ∷ xs) pass h = at (bytes_eq t x) refl h (has_filtered t p xs pass)
  where
    skip : (b : Bool) → Has t (filter p xs) → Has t (cond b (x ∷ filter p xs) (filter p xs))
    skip true more = go (bytes_eq t x)
      where
        go : (c : Bool) → (c || list_any (bytes_eq t) (filter p xs)) ≡ true
        go true = refl
        go false = more
    skip false more = more

    at : (b : Bool) → bytes_eq t x ≡ b → (b || list_any (bytes_eq t) xs) ≡ true → (Has t xs → Has t (filter p xs)) → Has t (cond (p x) (x ∷ filter p xs) (filter p xs))
    at true e h more =
        let same : t ≡ x = (bytes_decides t x).0 e in
        let passes : p x ≡ true = ap p (sym same) ∙ pass in
        rw (passes, e) refl
    at false e h more = skip (p x) (more h)

-- filtering out one name keeps all different names
unlike : (t x : List ℕ) → bytes_eq t x ≡ false → not (bytes_eq x t) ≡ true
unlike t x e = at (bytes_eq x t) refl
  where
    at : (b : Bool) → bytes_eq x t ≡ b → not b ≡ true
    at true f =
        let same : x ≡ t = (bytes_decides x t).0 f in
        let itself : bytes_eq t x ≡ true = (bytes_decides t x).1 (sym same) in absurd cc
    at false f = refl

has_distinct : (t : List ℕ) (xs : List (List ℕ)) → Has t xs → Has t (distinct xs)
unfolding distinct
has_distinct t [] h = h
has_distinct t (x ∷ xs) h = at (bytes_eq t x) refl h (has_distinct t xs)
  where
    at : (b : Bool) → bytes_eq t x ≡ b → (b || list_any (bytes_eq t) xs) ≡ true → (Has t xs → Has t (distinct xs)) → (bytes_eq t x || list_any (bytes_eq t) (filter (λ other. not (bytes_eq x other)) (distinct xs))) ≡ true
    at true e h more = rw e refl
    at false e h more = rw e (has_filtered t (λ other. not (bytes_eq x other)) (distinct xs) (unlike t x e) (more h))

-- if membership carries over, every name of `xs` is in `ys`
each_there : (xs ys : List (List ℕ)) → ((t : List ℕ) → Has t xs → Has t ys) → AllByRecursion (λ t. Has t ys) xs
each_there [] ys f = tt
each_there (x ∷ xs) ys f = (f x here, each_there xs ys (λ t h. f t (later t h)))
  where
    here : Has x (x ∷ xs)
    here = let same : bytes_eq x x ≡ true = (bytes_decides x x).1 refl in rw same refl

    later : (t : List ℕ) → Has t xs → Has t (x ∷ xs)
    later t h = go (bytes_eq t x)
      where
        go : (c : Bool) → (c || list_any (bytes_eq t) xs) ≡ true
        go true = refl
        go false = h

-- each of these names is kept in the strings made of them
pub kept_of : (xs : List (List ℕ)) → AllByRecursion (IsKept (distinct (filter (λ name. not (is_empty name)) xs))) xs
kept_of xs = all_map (λ t. Has t xs) (IsKept (distinct (filter (λ name. not (is_empty name)) xs))) (λ t h e. has_distinct t _ (has_filtered t (λ name. not (is_empty name)) xs (ap not e) h)) xs (each_there xs xs (λ t h. h))
