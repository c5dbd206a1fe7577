use Rattle.std.proofs.Common.{◌≡◌, length, map, sym, ◌∙◌, arith}
use Rattle.std.proofs.lemmas.List.{length-map}
use Rattle.ctf_draft.specs.ParentView.{parent_in}
use Rattle.ctf_draft.specs.TypeView.{type_of}
use Rattle.ctf_draft.proofs.Views.{counted}
use Rattle.ctf_draft.proofs.draft.Draft.pending.Goals as goal

pub overflow_add-result : goal.overflow_add-result
overflow_add-result c = let few = c.self.invariant.2 in omega arith

pub returns : goal.returns
returns c =
    let d = c.self.inside in
    let types : c.len.result ≡ length (map type_of d.types.items) = c.len.ensures ∙ d.types.ok.0 ∙ sym (length-map d.types.items type_of) in
    rw (← c.self.view_is, types, c.len-2.ensures.len) (counted d.parname d.parlabel (parent_in d.parent) d.model d.updated d.updated_labels (map type_of d.types.items) d.labels)
