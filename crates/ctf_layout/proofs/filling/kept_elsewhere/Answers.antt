use Rattle.ctf_layout.proofs.Visits.{kept_new}
use Rattle.ctf_layout.proofs.filling.kept_elsewhere.Goals as goal

pub returns : goal.returns
returns g c = kept_new (g.T.Types.space c.args.types.now) c.args.number.0 c.elsewhere.result c.new.result c.new.ensures c.elsewhere.ensures
