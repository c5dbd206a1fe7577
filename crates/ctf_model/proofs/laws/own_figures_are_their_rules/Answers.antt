use Rattle.ctf_model.proofs.BoundedValues.{values_bounded}
use Rattle.ctf_model.proofs.FigureAsks.{figures_ask}
use Rattle.ctf_model.proofs.Settled.{own_figures}
use Rattle.ctf_model.proofs.laws.own_figures_are_their_rules.Goals as goal

pub returns : goal.returns
returns c = record { asked = figures_ask; bounded = values_bounded; rules = own_figures }
