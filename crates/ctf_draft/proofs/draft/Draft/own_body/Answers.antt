use Rattle.std.proofs.Common.{map, refl, arith}
use Rattle.std.proofs.lemmas.List.{length-map}
use Rattle.ctf_draft.specs.ParentView.{parent_in}
use Rattle.ctf_draft.specs.TypeView.{type_of}
use Rattle.ctf_draft.proofs.Pending.{taken_at}
use Rattle.ctf_draft.proofs.Views.{all_terms}
use Rattle.ctf_draft.proofs.draft.Draft.own_body.Goals as goal

pub returns : goal.returns
returns c =
    let d = c.self.inside in
    let terms = map type_of d.types.items in
    let all = all_terms d.parname d.parlabel (parent_in d.parent) d.model d.updated d.updated_labels terms d.labels in
    let lt = rw (← c.self.view_is, all) at c.requires in
    let same = length-map d.types.items type_of in
    rw (← c.self.view_is, all, taken_at d.types.items c.args.i c.index.result.now (omega (arith, lt, same)) c.index.ensures) refl
