use Rattle.ctf_model.proofs.PathChains.{figures_rule, steps_rule}
use Rattle.ctf_model.proofs.laws.paths_are_their_rules.Goals as goal

pub returns : goal.returns
returns c = record { figures = figures_rule; steps = steps_rule }
