use Rattle.std.proofs.Common.{ℕ, List, ◌++◌, codes, decimal}
use Rattle.std.specs.Prelude.{Vec}
use Rattle.std.specs.declared.alloc.Global.{Global}
use Rattle.ctf_lines.specs.Appending.{Appended}
use Rattle.ctf_lines.proofs.FaultTexts.{pieces}
use Rattle.ctf_lines.proofs.MemberTexts.{two_appended}
use Rattle.ctf_lines.proofs.Walks.{as_text}
use Rattle.ctf_lines.proofs.refusals.with_fault.Goals as goal

pub returns : goal.returns
returns c =
    let text = pieces (codes "{\"fault\":{\"code\":") (decimal c.args.code) (codes ",\"name\":\"") c.args.name.now (codes "\",\"place\":") (decimal c.args.place) (codes "},\"s\":") (decimal c.args.session ++ codes "}\n") in
    as_text (λ (old : Vec ℕ Global) (text : List ℕ) (new : Vec ℕ Global). Appended old new text) text (two_appended c.append_number-out.ensures (two_appended c.append_bytes-out.ensures (two_appended c.append_number-out-2.ensures c.append_number.ensures)))
