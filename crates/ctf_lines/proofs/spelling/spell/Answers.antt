use Rattle.std.proofs.Common.{sym, ◌∙◌}
use Rattle.std.proofs.lemmas.Bool.{eqb-true}
use Rattle.ctf_lines.proofs.Fronts.{spelled_end}
use Rattle.ctf_lines.proofs.spelling.spell.Goals as goal

pub returns : goal.returns
returns c =
    spelled_end c.args.text.now c.loop-rest.rest.now c.loop-rest.bytes.items (eqb-true _ 0 (sym c.is_empty.ensures ∙ c.loop-rest-test.false)) c.loop-rest.invariant.spelled
