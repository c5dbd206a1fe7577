use Rattle.ctf_names.proofs.Lengths.{bare_is, with_is}
use Rattle.ctf_names.proofs.name_lengths.whole_len.Goals as goal

pub returns-then-declarator-eq0 : goal.returns-then-declarator-eq0
returns-then-declarator-eq0 c d e =
    bare_is c.args.layer d c.args.inside c.mark_of-mark.result c.plus_front-name.result c.plus_sides-declarator.result e c.mark_of-mark.ensures c.plus_front-name.ensures c.plus_sides-declarator.ensures c.if-declarator-eq0.true

pub returns-else-declarator-eq0 : goal.returns-else-declarator-eq0
returns-else-declarator-eq0 c d e =
    with_is c.args.layer d c.args.inside c.mark_of-mark.result c.plus_front-name.result c.plus_sides-declarator.result c.plus.result c.plus-else-declarator-eq0.result e c.mark_of-mark.ensures c.plus_front-name.ensures c.plus_sides-declarator.ensures c.if-declarator-eq0.false c.plus.ensures c.plus-else-declarator-eq0.ensures
