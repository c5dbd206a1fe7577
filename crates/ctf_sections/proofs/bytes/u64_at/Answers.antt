use Rattle.std.proofs.Common.{◌∙◌}
use Rattle.ctf_sections.proofs.Numbers.{number_tail}
use Rattle.ctf_sections.proofs.bytes.u64_at.Goals as goal

pub returns : goal.returns
returns c = c.read_u64.ensures ∙ number_tail 8 c.args.bytes.now c.args.at
