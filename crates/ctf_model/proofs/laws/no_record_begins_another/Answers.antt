use Rattle.ctf_model.proofs.Prefix.{IsWhole-prefix}
use Rattle.ctf_model.proofs.laws.no_record_begins_another.Goals as goal

pub returns : goal.returns
returns c = λ whole more p q. IsWhole-prefix whole more p q
