use Rattle.std.proofs.Common.{ℕ, List, ◌++◌, codes, decimal}
use Rattle.std.specs.Prelude.{Vec}
use Rattle.std.specs.declared.alloc.Global.{Global}
use Rattle.ctf_lines.specs.Appending.{Appended, HasRoom}
use Rattle.ctf_lines.specs.Putting.{both_appended}
use Rattle.ctf_lines.proofs.MemberTexts.{pieces}
use Rattle.ctf_lines.proofs.Walks.{as_text}
use Rattle.ctf_lines.proofs.texts.VecU8TextSink.put_member.Goals as goal

pub returns : goal.returns
returns c =
    let text = pieces (codes "{\"name\":\"") c.args.name.now (codes "\",\"offset\":") (decimal c.args.offset) (codes ",\"type\":") (decimal c.args.number ++ codes "}") in
    as_text (λ (old : Vec ℕ Global) (text : List ℕ) (new : Vec ℕ Global). HasRoom old text → Appended old new text) text
    (both_appended _ _ _ _ _ c.put_between.ensures (both_appended _ _ _ _ _ c.put_numbered.ensures c.put_numbered-2.ensures))
