use Rattle.ctf_layout.proofs.Visits.{kept_as_one}
use Rattle.ctf_layout.proofs.filling.kept_by_one.Goals as goal

pub returns-in-None : goal.returns-in-None
returns-in-None c = λ e h. kept_as_one c.args.number.0 c.args.row c.args.one e c.in-None.is h
