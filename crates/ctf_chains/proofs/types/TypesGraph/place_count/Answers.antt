use Rattle.std.proofs.Common.{length, sym, ◌∙◌}
use Rattle.std.proofs.lemmas.List.{length-map}
use Rattle.ctf_model.specs.rules.Chains.{own_index}
use Rattle.ctf_model.specs.format.Section.{records}
use Rattle.ctf_records.specs.ListedView.{numbers_listed}
use Rattle.ctf_chains.proofs.types.TypesGraph.place_count.Goals as goal

pub returns : goal.returns
returns l c =
    let g = c.args.self.now in
    c.count.ensures ∙ sym (length-map (numbers_listed c.args.opened) (own_index g.child (length (records g.bytes.now))))
