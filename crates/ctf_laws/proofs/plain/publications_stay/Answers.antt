use Rattle.ctf_laws.proofs.Staying.{publications_stay}
use Rattle.ctf_laws.proofs.plain.publications_stay.Goals as goal

pub returns : goal.returns
returns c = publications_stay
