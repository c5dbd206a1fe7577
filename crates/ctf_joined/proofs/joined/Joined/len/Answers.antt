use Rattle.std.proofs.Common.{sym, ◌∙◌, arith}
use Rattle.ctf_joined.proofs.Texts.{texts-length}
use Rattle.ctf_joined.proofs.joined.Joined.len.Goals as goal

pub returns : goal.returns
returns c =
    let same = texts-length c.args.self.now.bytes.items 0 c.args.self.now.ends.items in
    omega (arith, same)
