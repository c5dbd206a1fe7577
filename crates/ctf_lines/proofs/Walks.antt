-- Texts of items, one more item at a time.
use Rattle.std.proofs.Common.{◌≡◌, ℕ, ◌+◌, ◌<◌, ◌≤◌, List, [], ◌∷◌, ◌++◌, length, get_or, take, drop, sym, ap, ◌∙◌}
use Rattle.std.specs.List.{flat_map}
use Rattle.std.proofs.lemmas.Grind.{flat_map-append}
use Rattle.std.proofs.Math.Seq.{take-add}
use Rattle.std.proofs.lemmas.List.{append-nil, take_all, take_more, take-append-drop}

-- the first items, and one more
pub walked : (text : ℕ → List ℕ) (bytes : List ℕ) (k : ℕ) → k < length bytes → flat_map text (take k bytes) ++ text (get_or bytes k 0) ≡ flat_map text (take (k + 1) bytes)
walked text bytes k h =
    sym (ap (flat_map text) (take_more bytes k 0 h)
    ∙ flat_map-append text (take k bytes) (get_or bytes k 0 ∷ [])
    ∙ ap (λ (t : List ℕ). flat_map text (take k bytes) ++ t) (append-nil (text (get_or bytes k 0))))

-- the first items, and all others
pub left_out : (text : ℕ → List ℕ) (bytes : List ℕ) (k : ℕ) → flat_map text (take k bytes) ++ flat_map text (drop k bytes) ≡ flat_map text bytes
left_out text bytes k = sym (flat_map-append text (take k bytes) (drop k bytes)) ∙ ap (flat_map text) (take-append-drop k bytes)

-- the first items, and some more
pub more_walked : (text : ℕ → List ℕ) (bytes : List ℕ) (k n : ℕ) → flat_map text (take k bytes) ++ flat_map text (take n (drop k bytes)) ≡ flat_map text (take (k + n) bytes)
more_walked text bytes k n = sym (flat_map-append text (take k bytes) (take n (drop k bytes))) ∙ ap (flat_map text) (sym (take-add k n bytes))

-- an equal text
pub as_text : {S : Type 0} (Took : S → List ℕ → S → Type 0) {old new : S} {a b : List ℕ} → a ≡ b → Took old a new → Took old b new
as_text {S} Took {old} {new} {a} {b} e took = rw (sym e) took

-- once all items are done
pub all_walked : (text : ℕ → List ℕ) (bytes : List ℕ) (k : ℕ) → length bytes ≤ k → flat_map text (take k bytes) ≡ flat_map text bytes
all_walked text bytes k h = ap (flat_map text) (take_all k bytes h)
