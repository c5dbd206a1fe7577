use Rattle.std.proofs.Common.{refl}
use Rattle.ctf_model.proofs.Cut.{read, one_cut}
use Rattle.ctf_model.proofs.laws.records_are_a_cut.Goals as goal

pub returns : goal.returns
returns c = record { read = read; one = λ bytes parts others rest other p q. one_cut parts others bytes bytes rest other refl p q }
