-- Lengths of the parts of a line, and which lines are short.
use Rattle.std.proofs.Common.{◌≡◌, ℕ, ◌+◌, ◌<◌, ◌≤◌, ◌^◌, Bool, true, false, eqb, leb, List, [], ◌∷◌, ◌++◌, map, Option, Some, None, length, length-append, codes, decimal, refl, ap, arith, lit<, lit≤}
use Rattle.std.specs.Prelude.{◌&&◌, if◌then◌else◌}
use Rattle.std.specs.List.{list_all, concat}
use Rattle.std.proofs.lemmas.Bool.{leb-true, le-leb, lt-leb}
use Rattle.std.proofs.lemmas.Fmt.{length-decimal-le}
use Rattle.ctf_protocol.specs.answers.Answers.{Field, says}
use Rattle.ctf_protocol.specs.answers.Answers as answers
use Rattle.ctf_answers.specs.Counts.{count_view, counts_view}
use Rattle.ctf_answers.specs.declared.count.Count.{Count}
use Rattle.ctf_answers.specs.declared.counts.Counts.{Counts}
use Rattle.ctf_model.specs.rules.FaultNames.{fault_names, name_beside, name_of_fault}
use Rattle.ctf_model.specs.dumps.Texts.{after_commas, with_commas}
use Rattle.ctf_protocol.specs.lines.ReplyLines.{key_text, quote, field_text, object_line, answer_line, fault_fields, fault_line, fitting_line}
use Rattle.ctf_model.specs.declared.faults.Fault.{Fault}
use Rattle.ctf_model.specs.declared.faults.TheConstants.Fault.{LONG_REPLY}

pub decimal_16 : (n : ℕ) → n < 2 ^ 16 → length (decimal n) ≤ 5
decimal_16 n h = length-decimal-le 5 n (lit< tt) (omega arith) (omega arith)

pub decimal_32 : (n : ℕ) → n < 2 ^ 32 → length (decimal n) ≤ 10
decimal_32 n h = length-decimal-le 10 n (lit< tt) (omega arith) (omega arith)

pub decimal_64 : (n : ℕ) → n < 2 ^ 64 → length (decimal n) ≤ 20
decimal_64 n h = length-decimal-le 20 n (lit< tt) (omega arith) h

both : (a b : Bool) → (a && b) ≡ true → (a ≡ true) × (b ≡ true)
both true b h = (refl, h)
both false b h = absurd cc

-- a name in a table of short names
beside_short : (code : ℕ) (rows : List (ℕ × List ℕ)) → list_all (λ row. leb (length row.1) 13) rows ≡ true → length (name_beside code rows) ≤ 13
beside_short code [] h = lit≤ tt
beside_short code (row ∷ rows) h =
    let parts = both (leb (length row.1) 13) (list_all (λ r. leb (length r.1) 13) rows) h in
    let here : length row.1 ≤ 13 = leb-true (length row.1) 13 parts.0 in
    let later : length (name_beside code rows) ≤ 13 = beside_short code rows parts.1 in
    elim (eqb row.0 code) as (λ t. length (if t then row.1 else name_beside code rows) ≤ 13) [ true ↦ here | false ↦ later ]

pub fault_name_short : (code : ℕ) → length (name_of_fault code) ≤ 13
unfolding name_of_fault
fault_name_short code = beside_short code fault_names refl

abbrev total : List (List ℕ) → ℕ
total [] = 0
total (x ∷ xs) = length x + total xs

length-concat : (xs : List (List ℕ)) → length (concat xs) ≡ total xs
length-concat [] = refl
length-concat (x ∷ xs) = let all = length-append x (concat xs) in let rest = length-concat xs in omega (arith, all, rest)

total_after : (texts : List (List ℕ)) → length (after_commas texts) ≡ total texts + length texts
total_after [] = refl
total_after (x ∷ xs) = let all = length-append x (after_commas xs) in let rest = total_after xs in omega (arith, all, rest)

total-separated : (texts : List (List ℕ)) → length (with_commas texts) ≤ total texts + length texts
total-separated [] = lit≤ tt
total-separated (x ∷ xs) = let all = length-append x (after_commas xs) in let rest = total_after xs in omega (arith, all, rest)

-- the line of an object
length-object : (under : List ℕ) (s : ℕ) (fields : List Field) → s < 2 ^ 32 → length (object_line under s fields) ≤ length under + 23 + (total (map field_text fields) + length (map field_text fields))
length-object under s fields h =
    let a = decimal_32 s h in
    let b = total-separated (map field_text fields) in
    let all = length-concat (codes "{\"" ∷ under ∷ codes "\":{" ∷ with_commas (map field_text fields) ∷ codes "},\"s\":" ∷ decimal s ∷ codes "}\n" ∷ []) in
    omega (arith, a, b, all)

-- a field of a number
length-number : (key : List ℕ) (n : ℕ) → n < 2 ^ 64 → length (field_text (says key (answers.number n))) ≤ length key + 23
length-number key n h =
    let a = decimal_64 n h in
    let all = length-append (key_text key) (decimal n) in
    let front = length-concat (codes "\"" ∷ key ∷ codes "\":" ∷ []) in
    omega (arith, a, all, front)

-- and of a word
length-word : (key w : List ℕ) → length (field_text (says key (answers.word w))) ≤ length key + 5 + length w
length-word key w =
    let all = length-append (key_text key) (quote w) in
    let front = length-concat (codes "\"" ∷ key ∷ codes "\":" ∷ []) in
    let back = length-concat (codes "\"" ∷ w ∷ codes "\"" ∷ []) in
    omega (arith, all, front, back)

-- a field in the answer to a change
length-count : (a : Count) → length (field_text (says a.key.now (answers.number a.number))) ≤ 29
length-count a = let one = length-number a.key.now a.number a.fits in let short = a.short in omega (arith, one, short)

-- all such fields
counts_total : (a b : Option Count) → total (map field_text (count_view a ++ count_view b)) + length (map field_text (count_view a ++ count_view b)) ≤ 60
counts_total None None = lit≤ tt
counts_total None (Some b) = let one = length-count b in omega (arith, one)
counts_total (Some a) None = let one = length-count a in omega (arith, one)
counts_total (Some a) (Some b) = let one = length-count a in let other = length-count b in omega (arith, one, other)

-- the line of a refusal
pub fault_short : (s : ℕ) (f : Fault) → s < 2 ^ 32 → f.code < 2 ^ 16 → f.place < 2 ^ 64 → length (fault_line s f) ≤ 96
fault_short s f h i k =
    let name = fault_name_short f.code in
    let a = decimal_16 f.code i in
    let e = decimal_64 f.place k in
    let g = decimal_32 s h in
    let code = length-append (key_text (codes "code")) (decimal f.code) in
    let word = length-append (key_text (codes "name")) (quote (name_of_fault f.code)) in
    let in_quotes = length-concat (codes "\"" ∷ name_of_fault f.code ∷ codes "\"" ∷ []) in
    let place = length-append (key_text (codes "place")) (decimal f.place) in
    let fields = total-separated (map field_text (fault_fields f)) in
    let all = length-concat (codes "{\"" ∷ codes "fault" ∷ codes "\":{" ∷ with_commas (map field_text (fault_fields f)) ∷ codes "},\"s\":" ∷ decimal s ∷ codes "}\n" ∷ []) in
    omega (arith, a, e, g, name, code, word, in_quotes, place, fields, all)

-- a line within the limit is unchanged
pub fitting_fits : (s : ℕ) (line : List ℕ) → length line ≤ 4194305 → fitting_line s line ≡ line
unfolding fitting_line
fitting_fits s line h = rw (le-leb (length line) 4194305 h) refl

-- any other is refused
pub fitting_long : (s : ℕ) (line : List ℕ) → 4194305 < length line → fitting_line s line ≡ fault_line s (record { code = LONG_REPLY; place = 0 })
unfolding fitting_line
fitting_long s line h = rw (lt-leb (length line) 4194305 h) refl

pub fitting_short : (s : ℕ) (line : List ℕ) → length line ≤ 96 → length (fitting_line s line) ≤ 96
fitting_short s line h = let same = ap length (fitting_fits s line (omega (arith, h))) in omega (arith, same, h)

-- the line of the answer to a change
pub counts_line_short : (s : ℕ) (c : Counts) → s < 2 ^ 32 → length (answer_line s (counts_view c)) ≤ 96
counts_line_short s c h =
    let line = length-object (codes "ok") s (counts_view c) h in
    let fields = counts_total c.first c.second in
    omega (arith, line, fields)

pub counts_short : (s : ℕ) (c : Counts) → s < 2 ^ 32 → length (fitting_line s (answer_line s (counts_view c))) ≤ 96
counts_short s c h = fitting_short s (answer_line s (counts_view c)) (counts_line_short s c h)
