use Rattle.ctf_model.specs.format.Section.{records}
use Rattle.ctf_chains.proofs.Edges.{places_count}
use Rattle.ctf_chains.proofs.types.TypesGraph.len.Goals as goal

pub returns : goal.returns
returns l c =
    let g = c.args.self.now in
    places_count g.chain g.child (records g.bytes.now) g.starts.now g.whole g.begin
