-- The line of the answer to a change, part by part.
use Rattle.std.proofs.Common.{◌≡◌, ℕ, ◌<◌, ◌≤◌, ◌^◌, List, [], ◌∷◌, ◌++◌, Option, None, Some, length, append_assoc, append-nil, codes, decimal, refl, sym, ap, ◌∙◌, arith}
use Rattle.ctf_protocol.specs.answers.Answers.{says, number}
use Rattle.ctf_protocol.specs.lines.ReplyLines.{answer_line, field_text}
use Rattle.ctf_answers.specs.Counts.{count_view, counts_view}
use Rattle.ctf_answers.specs.declared.count.Count.{Count}
use Rattle.ctf_answers.specs.declared.counts.Counts.{Counts}
use Rattle.ctf_lines.specs.Rows.{count_row, counts_row, one_row, two_row}
use Rattle.ctf_lines.proofs.Objects.{two_before}
use Rattle.ctf_lines.proofs.Short.{counts_line_short}

count_text : (key : List ℕ) (n : ℕ) → count_row key n ≡ field_text (says key (number n))
count_text key n = ap (λ (t : List ℕ). 34 ∷ t) (sym (append_assoc key (codes "\":") (decimal n)))

abbrev end : ℕ → List ℕ
end s = codes "},\"s\":" ++ (decimal s ++ codes "}\n")

one_text : (s : ℕ) (key : List ℕ) (n : ℕ) → one_row s key n ≡ answer_line s (says key (number n) ∷ [])
one_text s key n =
    ap (λ (t : List ℕ). codes "{\"ok\":{" ++ (t ++ end s)) (count_text key n ∙ sym (append-nil (field_text (says key (number n)))))

two_text : (s : ℕ) (key : List ℕ) (n : ℕ) (other : List ℕ) (m : ℕ) → two_row s key n other m ≡ answer_line s (says key (number n) ∷ says other (number m) ∷ [])
two_text s key n other m =
    ap (λ (t : List ℕ). codes "{\"ok\":{" ++ (t ++ (44 ∷ (count_row other m ++ end s)))) (count_text key n)
    ∙ ap (λ (t : List ℕ). codes "{\"ok\":{" ++ (field_text (says key (number n)) ++ (44 ∷ (t ++ end s)))) (count_text other m)
    ∙ ap (λ (t : List ℕ). codes "{\"ok\":{" ++ t) (two_before (field_text (says key (number n))) (field_text (says other (number m))) (end s))

parts_text : (s : ℕ) (a b : Option Count) → counts_row s a b ≡ answer_line s (count_view a ++ count_view b)
parts_text s None None = refl
parts_text s None (Some a) = one_text s a.key.now a.number
parts_text s (Some a) None = one_text s a.key.now a.number
parts_text s (Some a) (Some b) = two_text s a.key.now a.number b.key.now b.number

-- the line of the answer, if the number is the session's
pub counts_text : (n s : ℕ) (c : Counts) → n ≡ s → counts_row n c.first c.second ≡ answer_line s (counts_view c)
counts_text n s c h = ap (λ (k : ℕ). counts_row k c.first c.second) h ∙ parts_text s c.first c.second

pub row_short : (row : List ℕ) (s : ℕ) (c : Counts) → row ≡ answer_line s (counts_view c) → s < 2 ^ 32 → length row ≤ 96
row_short row s c same h = let all = ap length same in let short = counts_line_short s c h in omega (arith, all, short)
