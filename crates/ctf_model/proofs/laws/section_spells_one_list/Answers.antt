use Rattle.std.proofs.Common.{refl}
use Rattle.ctf_model.proofs.Unique.{one_list}
use Rattle.ctf_model.proofs.laws.section_spells_one_list.Goals as goal

pub returns : goal.returns
returns c = λ t bytes xs ys p q. one_list t bytes bytes xs ys refl p q
