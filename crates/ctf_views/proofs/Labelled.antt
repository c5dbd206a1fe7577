-- Bytes with labels are rows of labels.
use Rattle.std.proofs.Common.{◌≡◌, ℕ, zero, suc, ◌/◌, ◌<◌, ◌≤◌, false, List, [], ◌∷◌, length, drop, Option, Some, None, refl, arith}
use Rattle.std.specs.Prelude.{IsSome, is_some, slice_get, unwrap_or}
use Rattle.std.specs.Option.{option_map}
use Rattle.std.proofs.lemmas.Option.{slice_get_past}
use Rattle.ctf_model.specs.format.Bytes.{u32_at}
use Rattle.ctf_model.specs.format.Dictionary.{AreLabels, Label, labels_in}
use Rattle.ctf_model.specs.format.Name.{Tables, name}
use Rattle.ctf_model.specs.format.Spelling.{◌>>=◌, items}
use Rattle.ctf_views.specs.LabelRows.{label_of}
use Rattle.ctf_views.specs.Lists.{AreGood}

one_more : (text : Option (List ℕ)) (last : ℕ) (others : Option (List Label)) (xs : List Label) → text ≡ Some (unwrap_or text []) → others ≡ Some xs
    → (option_map (λ t. record { name = t; last = last }) text >>= (λ first. others >>= (λ rest. Some (first ∷ rest)))) ≡ Some (record { name = unwrap_or text []; last = last } ∷ xs)
one_more None last others xs e f = absurd cc
one_more (Some x) last others xs e f = rw f refl

read : (t : Tables) (n : ℕ) (b : List ℕ) → AreLabels t b (labels_in t n b) → items (label_of t) 8 n b ≡ Some (labels_in t n b)
unfolding labels_in
read t zero b h = refl
read t (suc n) b h = one_more (name t (u32_at b 0)) (u32_at b 4) (items (label_of t) 8 n (drop 8 b)) (labels_in t n (drop 8 b)) h.1 (read t n (drop 8 b) h.3)

pub labels_read : (t : Tables) (b : List ℕ) → AreLabels t b (labels_in t (length b / 8) b) → items (label_of t) 8 (length b / 8) b ≡ Some (labels_in t (length b / 8) b)
labels_read t b h = read t (length b / 8) b h

pub labels_good : (t : Tables) (b : List ℕ) → AreLabels t b (labels_in t (length b / 8) b) → AreGood (label_of t) 8 (length b / 8) b
labels_good t b h = record { inside = omega arith; good = rw (labels_read t b h) refl }

said_last : (text : Option (List ℕ)) (last : ℕ) (label : Option Label) → option_map (λ t. record { name = t; last = last }) text ≡ label → IsSome label → Some last ≡ option_map (λ x. x.last) label
said_last None last label e some = absurd (let none : is_some label ≡ false = rw (← e) refl in cc)
said_last (Some t) last label e some = rw (← e) refl

-- the last type of the label in a row
pub last_is : (t : Tables) (b : List ℕ) (labels : List Label) (i : ℕ) → label_of t b ≡ slice_get labels i → i < length labels → Some (u32_at b 4) ≡ option_map (λ x. x.last) (slice_get labels i)
last_is t b labels i e lt = said_last (name t (u32_at b 0)) (u32_at b 4) (slice_get labels i) e (there labels i lt)
  where
    there : (labels : List Label) (i : ℕ) → i < length labels → IsSome (slice_get labels i)
    there [] i lt = absurd (omega arith)
    there (x ∷ xs) zero lt = refl
    there (x ∷ xs) (suc i) lt = there xs i (omega arith)

pub no_last : (labels : List Label) (i : ℕ) → length labels ≤ i → None ≡ option_map (λ (x : Label). x.last) (slice_get labels i)
no_last labels i le = rw (slice_get_past labels i le) refl
