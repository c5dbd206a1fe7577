use Rattle.ctf_names.proofs.Pointing.{ordered}
use Rattle.ctf_names.proofs.pointers.in_order.Goals as goal

pub returns-clause-same : goal.returns-clause-same
returns-clause-same c = λ terms base slots has. ordered terms base slots c.args.outside.items _ has c.arrange.ensures.permutation
