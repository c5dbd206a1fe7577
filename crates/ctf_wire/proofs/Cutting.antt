-- The division of the input into lines as it arrives in pieces.
use Rattle.std.proofs.Common.{◌≡◌, ℕ, zero, suc, ◌+◌, ◌-◌, ◌<◌, ◌≤◌, List, [], ◌∷◌, ◌++◌, length, take, drop, true, false, eqb, refl, ◌∙◌, ap, sym, arith, append_assoc, add-one, drop-cons}
use Rattle.std.proofs.lemmas.List.{take_rest, take-append-drop}
use Rattle.std.proofs.Math.Seq.{take-add}
use Rattle.std.specs.Prelude.{if◌then◌else◌, slice_index}
use Rattle.std.proofs.lemmas.Bool.Decides.{nat_tests}
use Rattle.memchr.specs.Find.{Nowhere, Passes, is_byte}
use Rattle.ctf_protocol.specs.lines.Lines.{onto_first, onto_last, whole_lines, last_piece}
use Rattle.ctf_wire.specs.Served.{BeginsWith}

-- no newline is before offset `n`
pub whole_lines-before : (bs : List ℕ) (n : ℕ) → Nowhere (Passes (is_byte 10) bs) 0 n → whole_lines (take n bs) ≡ []
whole_lines-before bs zero h = refl
whole_lines-before [] (suc n) h = refl
whole_lines-before (b ∷ bs) (suc n) h =
    let other : eqb b 10 ≡ false = let first = h 0 (omega arith) (omega arith) in grind (arith, nat_tests, first) in
    rw (other, whole_lines-before bs n (λ k low high. h (suc k) (omega arith) (omega arith))) refl

-- the next `n` bytes after the first `at`
pub take-next : (at n : ℕ) (bs : List ℕ) → take (at + n) bs ≡ take at bs ++ take n (take (length bs - at) (drop at bs))
take-next at n bs =
    let rest : take (length bs - at) (drop at bs) ≡ drop at bs = take_rest bs at in
    rw rest (take-add at n bs)

take-seam : (xs ys : List ℕ) → take (length xs) (xs ++ ys) ≡ xs
take-seam [] ys = refl
take-seam (x ∷ xs) ys = ap (λ zs. x ∷ zs) (take-seam xs ys)

-- the front of what was written over the front
pub take-written : (n len : ℕ) (xs ys : List ℕ) → length xs ≡ len → take n (take len (xs ++ ys)) ≡ take n xs
take-written n len xs ys e = ap (take n) (ap (λ m. take m (xs ++ ys)) (sym e) ∙ take-seam xs ys)

pub length-front : (n : ℕ) (xs : List ℕ) → length (take n xs) ≤ length xs
length-front zero xs = omega arith
length-front (suc n) [] = omega arith
length-front (suc n) (x ∷ xs) = let h = length-front n xs in omega (arith, h)

-- bytes around their item `k`
pub bytes-about : (bs : List ℕ) (k : ℕ) → k < length bs → slice_index bs k ≡ 10 → bs ≡ take k bs ++ 10 ∷ take (length bs - (k + 1)) (drop (k + 1) bs)
bytes-about bs k h is =
    let rest : drop k bs ≡ 10 ∷ drop (k + 1) bs = rw add-one (drop-cons bs k 0 h ∙ ap (λ b. b ∷ drop (suc k) bs) is) in
    sym (rw (take_rest bs (k + 1), ← rest) (take-append-drop k bs))

onto_first-nil : (b : ℕ) (lines : List (List ℕ)) → onto_first b lines ≡ [] → lines ≡ []
onto_first-nil b [] h = refl
onto_first-nil b (line ∷ lines) h = cc

onto_first-push : (b : ℕ) (lines : List (List ℕ)) (piece : List ℕ) → onto_first b (lines ++ piece ∷ []) ≡ onto_first b lines ++ onto_last b lines piece ∷ []
onto_first-push b [] piece = refl
onto_first-push b (line ∷ lines) piece = refl

onto_last-more : (b : ℕ) (lines : List (List ℕ)) (piece more : List ℕ) → onto_last b lines (piece ++ more) ≡ onto_last b lines piece ++ more
onto_last-more b [] piece more = refl
onto_last-more b (line ∷ lines) piece more = refl

onto_last-after : (b : ℕ) (lines : List (List ℕ)) (piece : List ℕ) → onto_last b (lines ++ piece ∷ []) [] ≡ []
onto_last-after b [] piece = refl
onto_last-after b (line ∷ lines) piece = refl

-- the finished part grows by a piece and its newline
pub regrouped : (all done rest piece after : List ℕ) → all ≡ done ++ rest → rest ≡ piece ++ 10 ∷ after → all ≡ (done ++ (piece ++ 10 ∷ [])) ++ after
regrouped all done rest piece after whole split = whole ∙ ap (λ bs. done ++ bs) split ∙ sym (append_assoc done (piece ++ 10 ∷ []) after ∙ ap (λ bs. done ++ bs) (append_assoc piece (10 ∷ []) after))

-- a newline ends a line
whole_lines-newline : (bs : List ℕ) → whole_lines (bs ++ 10 ∷ []) ≡ whole_lines bs ++ last_piece bs ∷ []
whole_lines-newline [] = refl
whole_lines-newline (b ∷ bs) = elim (eqb b 10) as (λ t. (if t then [] ∷ whole_lines (bs ++ 10 ∷ []) else onto_first b (whole_lines (bs ++ 10 ∷ []))) ≡ (if t then [] ∷ whole_lines bs else onto_first b (whole_lines bs)) ++ (if t then last_piece bs else onto_last b (whole_lines bs) (last_piece bs)) ∷ []) [
  | true ↦ ap (λ lines. [] ∷ lines) (whole_lines-newline bs)
  | false ↦ ap (onto_first b) (whole_lines-newline bs) ∙ onto_first-push b (whole_lines bs) (last_piece bs)
]

last_piece-newline : (bs : List ℕ) → last_piece (bs ++ 10 ∷ []) ≡ []
last_piece-newline [] = refl
last_piece-newline (b ∷ bs) = elim (eqb b 10) as (λ t. (if t then last_piece (bs ++ 10 ∷ []) else onto_last b (whole_lines (bs ++ 10 ∷ [])) (last_piece (bs ++ 10 ∷ []))) ≡ []) [
  | true ↦ last_piece-newline bs
  | false ↦ rw (whole_lines-newline bs, last_piece-newline bs) (onto_last-after b (whole_lines bs) (last_piece bs))
]

-- a piece without a newline ends no line
pub whole_lines-piece : (bs piece : List ℕ) → whole_lines piece ≡ [] → whole_lines (bs ++ piece) ≡ whole_lines bs
whole_lines-piece [] piece h = h
whole_lines-piece (b ∷ bs) piece h = rw (whole_lines-piece bs piece h) refl

last_piece-whole : (piece : List ℕ) → whole_lines piece ≡ [] → last_piece piece ≡ piece
last_piece-whole [] h = refl
last_piece-whole (b ∷ bs) h = (elim (eqb b 10) as (λ t. (if t then [] ∷ whole_lines bs else onto_first b (whole_lines bs)) ≡ [] → (if t then last_piece bs else onto_last b (whole_lines bs) (last_piece bs)) ≡ b ∷ bs) [
  | true ↦ λ e. cc
  | false ↦ λ e. rw (onto_first-nil b (whole_lines bs) e, last_piece-whole bs (onto_first-nil b (whole_lines bs) e)) refl
]) h

-- it extends the last piece
pub last_piece-piece : (bs piece : List ℕ) → whole_lines piece ≡ [] → last_piece (bs ++ piece) ≡ last_piece bs ++ piece
last_piece-piece [] piece h = last_piece-whole piece h
last_piece-piece (b ∷ bs) piece h = rw (whole_lines-piece bs piece h, last_piece-piece bs piece h) (elim (eqb b 10) as (λ t. (if t then last_piece bs ++ piece else onto_last b (whole_lines bs) (last_piece bs ++ piece)) ≡ (if t then last_piece bs else onto_last b (whole_lines bs) (last_piece bs)) ++ piece) [
  | true ↦ refl
  | false ↦ onto_last-more b (whole_lines bs) (last_piece bs) piece
])

-- a piece with a newline ends a line
pub whole_lines-line : (bs piece : List ℕ) → whole_lines piece ≡ [] → whole_lines (bs ++ (piece ++ 10 ∷ [])) ≡ whole_lines bs ++ (last_piece bs ++ piece) ∷ []
whole_lines-line bs piece h =
    ap whole_lines (sym (append_assoc bs piece (10 ∷ []))) ∙ whole_lines-newline (bs ++ piece)
    ∙ ap (λ lines. lines ++ last_piece (bs ++ piece) ∷ []) (whole_lines-piece bs piece h)
    ∙ ap (λ line. whole_lines bs ++ line ∷ []) (last_piece-piece bs piece h)

pub last_piece-line : (bs piece : List ℕ) → last_piece (bs ++ (piece ++ 10 ∷ [])) ≡ []
last_piece-line bs piece = ap last_piece (sym (append_assoc bs piece (10 ∷ []))) ∙ last_piece-newline (bs ++ piece)

-- complete lines stay complete
onto_first-front : (b : ℕ) (lines more : List (List ℕ)) → BeginsWith more lines → BeginsWith (onto_first b more) (onto_first b lines)
onto_first-front b [] more h = (onto_first b more, refl)
onto_first-front b (line ∷ lines) more h = (h.0, ap (onto_first b) h.1)

pub whole_lines-front : (bs more : List ℕ) → BeginsWith (whole_lines (bs ++ more)) (whole_lines bs)
whole_lines-front [] more = (whole_lines more, refl)
whole_lines-front (b ∷ bs) more =
    let h = whole_lines-front bs more in
    elim (eqb b 10) as (λ t. BeginsWith (if t then [] ∷ whole_lines (bs ++ more) else onto_first b (whole_lines (bs ++ more))) (if t then [] ∷ whole_lines bs else onto_first b (whole_lines bs))) [
      | true ↦ (h.0, ap (λ lines. [] ∷ lines) h.1)
      | false ↦ onto_first-front b (whole_lines bs) (whole_lines (bs ++ more)) h
    ]
