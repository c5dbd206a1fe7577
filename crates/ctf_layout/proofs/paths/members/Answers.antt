use Rattle.std.proofs.Common.{sym, ap, ◌∙◌}
use Rattle.ctf_model.specs.figures.Paths.{members_found}
use Rattle.ctf_model.specs.format.Shown.{members_in}
use Rattle.ctf_check.specs.TypedView.{term_in}
use Rattle.ctf_views.specs.VariantView.{shown_of}
use Rattle.ctf_views.specs.declared.variants.Variant.{Variant}
use Rattle.ctf_layout.proofs.FoundMembers.{found_members, not_members}
use Rattle.ctf_layout.proofs.paths.members.Goals as goal

pub returns-in-Members : goal.returns-in-Members
returns-in-Members c =
    let said = found_members (term_in c.in-Ok.found) (shown_of c.variant.result) c.variant.ensures in
    sym (ap members_found (sym (rw c.in-Ok.is at c.term.ensures)) ∙ said ∙ ap (λ (v : Variant). members_in (shown_of v)) c.in-Members.is)

pub returns-in_default : goal.returns-in_default
returns-in_default c =
    let said = found_members (term_in c.in-Ok.found) (shown_of c.variant.result) c.variant.ensures in
    sym (ap members_found (sym (rw c.in-Ok.is at c.term.ensures)) ∙ said ∙ not_members c.variant.result c.in_default.not-Members)
