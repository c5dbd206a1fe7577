use Rattle.ctf_names.proofs.InChains.{entered, without}
use Rattle.ctf_names.proofs.chains.enter_name.Goals as goal

pub returns-in_default : goal.returns-in_default
returns-in_default c = λ terms brief chained.
    without terms c.args.heads.now c.args.next.now c.args.place c.args.of brief c.in_default.is chained

pub returns : goal.returns
returns c = λ terms brief chained.
    entered terms c.args.heads.now c.args.next.now c.args.place c.in-Some.bucket c.args.of brief c.in-Some.is (c.requires.in_heads c.in-Some.bucket c.in-Some.is) c.requires.in_next chained
