use Rattle.ctf_model.proofs.ValueChains.{values_rule}
use Rattle.ctf_model.proofs.laws.values_are_their_rules.Goals as goal

pub returns : goal.returns
returns c = values_rule
