use Rattle.std.proofs.Common.{◌≡◌, ℕ, length, map, sym, ap, subst, ◌∙◌, arith}
use Rattle.std.proofs.lemmas.List.{length-map}
use Rattle.ctf_model.specs.drafts.DraftLaws.{IsSound}
use Rattle.ctf_model.specs.drafts.Drafts.{commit}
use Rattle.ctf_model.proofs.SoundDrafts.{life_sound}
use Rattle.ctf_draft.specs.DraftView.{made_of}
use Rattle.ctf_draft.specs.ParentView.{parent_in}
use Rattle.ctf_draft.specs.TypeView.{type_of}
use Rattle.ctf_draft.proofs.Known.{terms_known}
use Rattle.ctf_draft.proofs.Views.{seen, settled_is}
use Rattle.ctf_draft.proofs.Holding.{terms_bounded}
use Rattle.ctf_draft.proofs.draft.Draft.settle.Goals as goal

pub invariant_of-self : goal.invariant_of-self
invariant_of-self c =
    let d = c.self.inside in
    let parent = parent_in d.parent in
    let terms = map type_of d.types.items in
    let types : c.len-self-inside.result ≡ length terms = c.len-self-inside.ensures ∙ d.types.ok.0 ∙ sym (length-map d.types.items type_of) in
    let labels : c.len-self-inside-2.result ≡ length d.labels = c.len-self-inside-2.ensures.len in
    let whole : made_of d.parname d.parlabel parent d.model c.len-self-inside.result c.len-self-inside-2.result terms d.labels ≡ commit (seen d.parname d.parlabel parent d.model d.updated d.updated_labels terms d.labels) =
    ap (λ (n : ℕ). made_of d.parname d.parlabel parent d.model n c.len-self-inside-2.result terms d.labels) types
    ∙ ap (λ (n : ℕ). made_of d.parname d.parlabel parent d.model (length terms) n terms d.labels) labels
    ∙ settled_is d.parname d.parlabel parent d.model d.updated d.updated_labels terms d.labels in
    (omega (arith, c.len-self-inside.ensures), omega (arith, labels), c.self.invariant.2, c.self.invariant.3, subst IsSound (sym whole) (life_sound (seen d.parname d.parlabel parent d.model d.updated d.updated_labels terms d.labels) c.self.invariant.4).1, terms_known d.parname d.parlabel parent d.model d.marks d.updated d.updated_labels c.len-self-inside.result c.len-self-inside-2.result terms d.labels d.labels c.self.invariant.5, terms_bounded d.parname d.parlabel parent d.model d.depths d.updated d.updated_labels c.len-self-inside.result c.len-self-inside-2.result terms d.labels d.labels (omega (arith, c.len-self-inside.ensures, c.self.invariant.0)) (omega (arith, types)) c.self.invariant.6)
