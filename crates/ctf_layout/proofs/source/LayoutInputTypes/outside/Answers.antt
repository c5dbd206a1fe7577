use Rattle.ctf_space.specs.SpaceView.{space_of}
use Rattle.ctf_layout.proofs.Tables.{in_no_table, in_parents_table}
use Rattle.ctf_layout.proofs.source.LayoutInputTypes.outside.Goals as goal

pub returns-in-Some : goal.returns-in-Some
returns-in-Some g c = λ n at.
    let s = space_of c.args.self.now.space in
    let over = rw c.in-Some.is at c.args.self.now.over in
    in_parents_table s _ over n c.args.i at c.at.result c.at.ensures

pub returns-in-None : goal.returns-in-None
returns-in-None g c = λ n at.
    let s = space_of c.args.self.now.space in
    let over = rw c.in-None.is at c.args.self.now.over in
    in_no_table s over n c.refused.result c.refused.ensures
