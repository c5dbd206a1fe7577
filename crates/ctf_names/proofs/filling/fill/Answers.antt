use Rattle.std.proofs.Common.{arith}
use Rattle.ctf_check.specs.CheckedView.{lists_of}
use Rattle.ctf_space.proofs.Few.{few_terms}
use Rattle.ctf_names.proofs.filling.fill.Goals as goal

pub enter_name-requires-clause-few : goal.enter_name-requires-clause-few
enter_name-requires-clause-few c =
    let few = few_terms (lists_of c.args.dictionary.now) c.args.dictionary.now.faultless in
    omega (arith, few, c.count-count.ensures)

pub enter_pointer-requires : goal.enter_pointer-requires
enter_pointer-requires c =
    let few = few_terms (lists_of c.args.dictionary.now) c.args.dictionary.now.faultless in
    omega (arith, few, c.count-count.ensures)
