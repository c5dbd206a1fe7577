-- A line written in one pass.
use Rattle.std.proofs.Common.{◌≡◌, ℕ, ◌≤◌, ◌++◌, List, length, refl, sym, ap, ◌∙◌, arith}
use Rattle.std.specs.Prelude.{Vec, Ok}
use Rattle.std.specs.declared.alloc.Global.{Global}
use Rattle.ctf_protocol.specs.answers.Answers.{Field}
use Rattle.ctf_protocol.specs.lines.ReplyLines.{answer_line, fitting_line}
use Rattle.ctf_lines.proofs.Short.{fitting_fits}
use Rattle.ctf_lines.specs.Appending.{Appended, Writes}

-- it is the line to be written
pub passed : {E : Type 0} (old new : Vec ℕ Global) (s : ℕ) (answer : List Field) → Appended old new (answer_line s answer) → length (answer_line s answer) ≤ 131072 → Writes {E = E} old (fitting_line s (answer_line s answer)) (Ok tt) new
passed {E = E} old new s answer added short =
    let line = answer_line s answer in
    let fits : fitting_line s line ≡ line = fitting_fits s line (omega (arith, short)) in
    record {
      ok = added.items ∙ ap (λ (t : List ℕ). old.items ++ t) (sym fits);
      err = tt;
      grows = let same = added.capacity in omega (arith, same);
      room = λ _. (refl, added.capacity);
    }

-- any appended text is written
pub put : {E : Type 0} (old new : Vec ℕ Global) (text : List ℕ) → Appended old new text → Writes {E = E} old text (Ok tt) new
put old new text added = record {
  ok = added.items;
  err = tt;
  grows = let same = added.capacity in omega (arith, same);
  room = λ _. (refl, added.capacity);
}
