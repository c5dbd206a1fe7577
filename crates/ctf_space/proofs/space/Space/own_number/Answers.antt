use Rattle.std.proofs.Common.{arith}
use Rattle.ctf_space.specs.SpaceView.{own_lists}
use Rattle.ctf_space.proofs.Few.{few_terms}
use Rattle.ctf_space.proofs.space.Space.own_number.Goals as goal

pub number_of-requires : goal.number_of-requires
number_of-requires c =
    let few = few_terms (own_lists c.args.self.now) c.args.self.now.own.faultless in
    omega (arith, few, c.requires)
