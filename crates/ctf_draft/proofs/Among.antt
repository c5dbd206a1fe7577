-- Tests of the first items of a list.
use Rattle.std.proofs.Common.{◌≡◌, ℕ, zero, suc, ◌+◌, ◌<◌, Bool, true, false, List, [], ◌∷◌, length, map, take, get_or, refl, sym, ap, ◌∙◌, arith}
use Rattle.std.specs.Prelude.{◌||◌}
use Rattle.std.proofs.lemmas.List.{map_more}
use Rattle.std.proofs.lemmas.List.Folds.{list_any-append}
use Rattle.std.specs.List.{list_any}

-- an item that passes is among them
pub any_at : {X Y : Type 0} (f : X → Y) (p : Y → Bool) (xs : List X) (i : ℕ) (x : X) → i < length xs → x ≡ get_or xs i x → p (f x) ≡ true → list_any p (map f xs) ≡ true
any_at f p [] i x lt is h = absurd (omega (arith, lt))
any_at f p (y ∷ xs) zero x lt is h = let here : p (f y) ≡ true = ap (λ z. p (f z)) (sym is) ∙ h in rw here refl
any_at f p (y ∷ xs) (suc i) x lt is h = skip (p (f y)) (any_at f p xs i x (omega (arith, lt)) is h)
  where
    skip : (b : Bool) → list_any p (map f xs) ≡ true → (b || list_any p (map f xs)) ≡ true
    skip true more = refl
    skip false more = more

-- one more item that does not pass
pub none_more : {X Y : Type 0} (f : X → Y) (p : Y → Bool) (xs : List X) (i : ℕ) (x : X) → i < length xs → x ≡ get_or xs i x → p (f x) ≡ false → list_any p (map f (take i xs)) ≡ false → list_any p (map f (take (i + 1) xs)) ≡ false
none_more f p xs i x lt is h g =
    let one : p (f (get_or xs i x)) ≡ false = ap (λ z. p (f z)) (sym is) ∙ h in
    rw (map_more f xs i x lt, list_any-append p (map f (take i xs)) (f (get_or xs i x) ∷ []), g, one) refl

-- two functions in sequence
pub map_twice : {X Y Z : Type 0} (f : X → Y) (g : Y → Z) (xs : List X) → map g (map f xs) ≡ map (λ x. g (f x)) xs
map_twice f g [] = refl
map_twice f g (x ∷ xs) = ap (λ zs. g (f x) ∷ zs) (map_twice f g xs)

-- a default does not matter inside the list
pub same_at : {X : Type 0} (xs : List X) (i : ℕ) (d : X) → i < length xs → get_or xs i d ≡ get_or xs i (get_or xs i d)
same_at [] i d lt = absurd (omega (arith, lt))
same_at (x ∷ xs) zero d lt = refl
same_at (x ∷ xs) (suc i) d lt = other xs i d (get_or xs i d) (omega (arith, lt))
  where
    other : {X : Type 0} (xs : List X) (i : ℕ) (d e : X) → i < length xs → get_or xs i d ≡ get_or xs i e
    other [] i d e lt = absurd (omega (arith, lt))
    other (x ∷ xs) zero d e lt = refl
    other (x ∷ xs) (suc i) d e lt = other xs i d e (omega (arith, lt))
