-- The line that reports out of memory, piece by piece.
use Rattle.std.proofs.Common.{◌≡◌, ℕ, ◌+◌, ◌-◌, ◌≤◌, List, ◌++◌, drop, codes, decimal, refl, sym, ap, ◌∙◌, arith}
use Rattle.std.specs.Fmt.{digits}
use Rattle.std.proofs.lemmas.List.{drop-drop}
use Rattle.ctf_model.specs.rules.FaultNames.{name_of_fault}
use Rattle.ctf_protocol.specs.lines.ReplyLines.{reply_line}
use Rattle.ctf_protocol.specs.sessions.Runs.{no_memory}

pub memory_text : (s : ℕ) → (codes "{\"fault\":{\"code\":0,\"name\":\"Memory\",\"place\":0},\"s\":" ++ decimal s) ++ codes "}\n" ≡ reply_line (no_memory s)
unfolding name_of_fault digits
memory_text s = refl

-- texts that agree from one offset on agree from a later one on
pub same_later : (m n : ℕ) (xs ys : List ℕ) → m ≤ n → drop m xs ≡ drop m ys → drop n xs ≡ drop n ys
same_later m n xs ys h e =
    let k : n ≡ m + (n - m) = omega arith in
    rw k (sym (drop-drop (n - m) m xs) ∙ ap (drop (n - m)) e ∙ drop-drop (n - m) m ys)
