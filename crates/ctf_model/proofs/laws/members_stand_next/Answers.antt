use Rattle.ctf_model.proofs.NextPlace.{places_next}
use Rattle.ctf_model.proofs.laws.members_stand_next.Goals as goal

pub returns : goal.returns
returns c = places_next
