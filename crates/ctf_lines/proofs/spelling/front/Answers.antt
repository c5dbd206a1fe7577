use Rattle.std.proofs.Common.{sym, ◌∙◌}
use Rattle.ctf_lines.proofs.Fronts.{plain_start}
use Rattle.ctf_lines.proofs.spelling.front.Goals as goal

pub returns-in-len1-up : goal.returns-in-len1-up
returns-in-len1-up c = plain_start c.args.text.now c.requires (sym c.is_plain.ensures ∙ c.if-is_plain.true)
