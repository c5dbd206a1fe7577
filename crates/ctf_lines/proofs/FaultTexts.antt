-- The line of a refusal, part by part.
use Rattle.std.proofs.Common.{◌≡◌, ℕ, ◌<◌, ◌≤◌, ◌^◌, List, ◌++◌, length, append_assoc, codes, decimal, sym, ap, ◌∙◌, arith}
use Rattle.ctf_model.specs.declared.faults.Fault.{Fault}
use Rattle.ctf_model.specs.rules.FaultNames.{name_of_fault}
use Rattle.ctf_protocol.specs.lines.ReplyLines.{fault_line, key_text, quote}
use Rattle.ctf_lines.specs.Rows.{fault_row}
use Rattle.ctf_lines.proofs.Objects.{three_before}
use Rattle.ctf_lines.proofs.Short.{fault_short}

fault_text : (s : ℕ) (f : Fault) → fault_row s f.code (name_of_fault f.code) f.place ≡ fault_line s f
fault_text s f =
    let name = name_of_fault f.code in
    let end = codes "},\"s\":" ++ (decimal s ++ codes "}\n") in
    let behind = codes ",\"place\":" ++ (decimal f.place ++ end) in
    ap (λ (t : List ℕ). codes "{\"fault\":{\"code\":" ++ (decimal f.code ++ (codes ",\"name\":\"" ++ t))) (sym (append_assoc name (codes "\"") behind))
    ∙ ap (λ (t : List ℕ). codes "{\"fault\":{" ++ t) (three_before (key_text (codes "code") ++ decimal f.code) (key_text (codes "name") ++ quote name) (key_text (codes "place") ++ decimal f.place) end)

-- the same for known parts
pub row_text : (s code : ℕ) (name : List ℕ) (session : ℕ) (f : Fault) → s ≡ session → code ≡ f.code → name ≡ name_of_fault f.code → fault_row s code name f.place ≡ fault_line session f
row_text s code name session f h i k =
    ap (λ (n : ℕ). fault_row n code name f.place) h
    ∙ ap (λ (n : ℕ). fault_row session n name f.place) i
    ∙ ap (λ (t : List ℕ). fault_row session f.code t f.place) k
    ∙ fault_text session f

pub row_short : (row : List ℕ) (session : ℕ) (f : Fault) → row ≡ fault_line session f → session < 2 ^ 32 → f.code < 2 ^ 16 → f.place < 2 ^ 64 → length row ≤ 96
row_short row session f same h i k = let all = ap length same in let short = fault_short session f h i k in omega (arith, all, short)

-- the pieces of a row in sequence
pub pieces : (front code mid name then place last end : List ℕ) → (front ++ (code ++ mid)) ++ (name ++ ((then ++ (place ++ last)) ++ end)) ≡ front ++ (code ++ (mid ++ (name ++ (then ++ (place ++ (last ++ end))))))
pieces front code mid name then place last end =
    append_assoc front (code ++ mid) (name ++ ((then ++ (place ++ last)) ++ end))
    ∙ ap (λ (t : List ℕ). front ++ t)
    (append_assoc code mid (name ++ ((then ++ (place ++ last)) ++ end))
    ∙ ap (λ (t : List ℕ). code ++ (mid ++ (name ++ t)))
    (append_assoc then (place ++ last) end ∙ ap (λ (t : List ℕ). then ++ t) (append_assoc place last end)))
