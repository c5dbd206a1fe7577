use Rattle.ctf_laws.proofs.Staying.{parents_stay}
use Rattle.ctf_laws.proofs.plain.parents_stay.Goals as goal

pub returns : goal.returns
returns c = parents_stay
