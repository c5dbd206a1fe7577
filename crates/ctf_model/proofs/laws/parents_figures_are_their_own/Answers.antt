use Rattle.ctf_model.proofs.Settled.{parents_own}
use Rattle.ctf_model.proofs.laws.parents_figures_are_their_own.Goals as goal

pub returns : goal.returns
returns c = parents_own
