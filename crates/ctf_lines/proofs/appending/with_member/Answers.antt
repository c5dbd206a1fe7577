use Rattle.std.proofs.Common.{ℕ, List, ◌++◌, codes, decimal}
use Rattle.std.specs.Prelude.{Vec}
use Rattle.std.specs.declared.alloc.Global.{Global}
use Rattle.ctf_lines.specs.Appending.{Appended}
use Rattle.ctf_lines.proofs.MemberTexts.{pieces, two_appended}
use Rattle.ctf_lines.proofs.Walks.{as_text}
use Rattle.ctf_lines.proofs.appending.with_member.Goals as goal

pub returns : goal.returns
returns c =
    let text = pieces (codes "{\"name\":\"") c.args.name.now (codes "\",\"offset\":") (decimal c.args.offset) (codes ",\"type\":") (decimal c.args.number ++ codes "}") in
    as_text (λ (old : Vec ℕ Global) (text : List ℕ) (new : Vec ℕ Global). Appended old new text) text (two_appended c.between-out.ensures (two_appended c.append_number_here-out.ensures c.append_number_here.ensures))
