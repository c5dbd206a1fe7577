use Rattle.ctf_space.specs.SpaceView.{space_of}
use Rattle.ctf_layout.proofs.Few.{space_few}
use Rattle.ctf_layout.proofs.layout.Layout.build.Goals as goal

pub returns-clause-bounded : goal.returns-clause-bounded
returns-clause-bounded c = space_few c.of_space.result (space_of c.args.space.now) c.of_space.ensures.steps
