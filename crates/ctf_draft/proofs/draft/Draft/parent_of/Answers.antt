use Rattle.std.proofs.Common.{ap, sym, ◌∙◌}
use Rattle.std.specs.Prelude.{is_some}
use Rattle.ctf_draft.specs.ParentView.{parent_in}
use Rattle.ctf_draft.proofs.Figuring.{named_by_none, named_nowhere}
use Rattle.ctf_draft.proofs.draft.Draft.parent_of.Goals as goal

pub returns-in_default : goal.returns-in_default
returns-in_default c =
    let d = c.args.self.now.draft in
    let child = sym (ap (λ o. is_some o.draft.parent) c.self.view_is) ∙ ap (λ p. is_some (parent_in p)) c.in-Some.is in
    named_nowhere d c.args.n.0 child (λ i at. c.in_default.not-Parents i (c.place.ensures ∙ at)) c.requires.some c.requires.not_own

pub returns-in-None : goal.returns-in-None
returns-in-None c =
    let d = c.args.self.now.draft in
    let none = sym (ap (λ o. o.draft.parent) c.self.view_is) ∙ ap parent_in c.in-None.is in
    named_by_none d c.args.n.0 none c.requires.some c.requires.not_own
