use Rattle.ctf_model.proofs.NameChains.{names_ask, names_rule}
use Rattle.ctf_model.proofs.laws.names_are_their_rules.Goals as goal

pub returns : goal.returns
returns c = record { asked = names_ask; rules = names_rule }
