use Rattle.std.proofs.Common.{sym, ◌∙◌}
use Rattle.std.proofs.lemmas.List.{take_all}
use Rattle.ctf_dump.proofs.PlainNames.{plain-more, all_walked}
use Rattle.ctf_dump.proofs.line.are_plain.Goals as goal

pub loop-byte-preserved : goal.loop-byte-preserved
loop-byte-preserved c = plain-more c.args.name.now c.loop-byte.byte-index c.loop-byte.plain c.is_plain-plain.result c.loop-byte-test.true c.is_plain-plain.ensures c.loop-byte.invariant

pub returns : goal.returns
returns c t =
    sym (all_walked c.args.name.now c.loop-byte.byte-index c.loop-byte-test.false)
    ∙ c.loop-byte.invariant t
    ∙ take_all c.loop-byte.byte-index c.args.name.now c.loop-byte-test.false
