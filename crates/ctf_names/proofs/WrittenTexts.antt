-- The text before the last stars and blanks, one more byte at a time.
use Rattle.std.proofs.Common.{◌≡◌, ℕ, Bool, true, false, List, [], ◌∷◌, ◌++◌, refl, ap, ◌∙◌}
use Rattle.std.specs.Prelude.{◌&&◌}
use Rattle.std.specs.List.{list_all}
use Rattle.ctf_model.specs.names.Lookups.{base, is_star_or_blank}

all_more : (xs : List ℕ) (b : ℕ) → is_star_or_blank b ≡ true → list_all is_star_or_blank (xs ++ b ∷ []) ≡ list_all is_star_or_blank xs
all_more [] b e = rw e refl
all_more (x ∷ xs) b e = ap (λ r. is_star_or_blank x && r) (all_more xs b e)

none_more : (xs : List ℕ) (b : ℕ) → is_star_or_blank b ≡ false → list_all is_star_or_blank (xs ++ b ∷ []) ≡ false
none_more [] b e = rw e refl
none_more (x ∷ xs) b e = ap (λ r. is_star_or_blank x && r) (none_more xs b e) ∙ and_false (is_star_or_blank x)
  where
    and_false : (u : Bool) → (u && false) ≡ false
    and_false true = refl
    and_false false = refl

pub base_same : (xs : List ℕ) (b : ℕ) → is_star_or_blank b ≡ true → base (xs ++ b ∷ []) ≡ base xs
base_same [] b e = rw e refl
base_same (x ∷ xs) b e = rw (all_more (x ∷ xs) b e, base_same xs b e) refl

pub base_all : (xs : List ℕ) (b : ℕ) → is_star_or_blank b ≡ false → base (xs ++ b ∷ []) ≡ xs ++ b ∷ []
base_all [] b e = rw e refl
base_all (x ∷ xs) b e = rw (none_more (x ∷ xs) b e, base_all xs b e) refl
