use Rattle.std.proofs.Common.{length, map, sym, ap, ◌∙◌, arith}
use Rattle.ctf_model.specs.format.Section.{records}
use Rattle.ctf_model.specs.rules.Chains.{own_index}
use Rattle.ctf_records.specs.RecordView.{piece}
use Rattle.ctf_chains.proofs.Edges.{places_count, places_are}
use Rattle.ctf_chains.proofs.types.TypesGraph.open.Goals as goal

pub record_started-requires-clause-inside : goal.record_started-requires-clause-inside
record_started-requires-clause-inside l c =
    let g = c.args.self.now in
    omega (arith, places_count g.chain g.child (records g.bytes.now) g.starts.now g.whole g.begin)

pub returns-clause-opened : goal.returns-clause-opened
returns-clause-opened l c =
    let g = c.args.self.now in
    ap (map (own_index g.child (length (records g.bytes.now)))) c.places.ensures
    ∙ sym (places_are g.chain g.child (records g.bytes.now) c.args.i (piece c.record_started.result) c.record_started.ensures)
