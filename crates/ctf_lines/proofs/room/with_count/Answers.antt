use Rattle.std.proofs.Common.{ℕ, List, ◌∷◌, codes, decimal, ap, append_assoc}
use Rattle.std.specs.Prelude.{Vec}
use Rattle.std.specs.declared.alloc.Global.{Global}
use Rattle.ctf_lines.specs.Appending.{Appended}
use Rattle.ctf_lines.proofs.MemberTexts.{two_appended}
use Rattle.ctf_lines.proofs.Walks.{as_text}
use Rattle.ctf_lines.proofs.room.with_count.Goals as goal

pub returns : goal.returns
returns c =
    as_text (λ (old : Vec ℕ Global) (text : List ℕ) (new : Vec ℕ Global). Appended old new text)
    (ap (λ (t : List ℕ). 34 ∷ t) (append_assoc c.args.key.now (codes "\":") (decimal c.args.number)))
    (two_appended c.between-out.ensures c.with_number.ensures)
