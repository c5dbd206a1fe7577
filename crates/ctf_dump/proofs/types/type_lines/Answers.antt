use Rattle.std.proofs.Common.{sym, ap, ◌∙◌}
use Rattle.std.proofs.lemmas.Result.{err_from_is_err_and, IfErr-weaker, on_ok_weaker}
use Rattle.ctf_check.specs.FactsView.{facts_view}
use Rattle.ctf_check.specs.TypedView.{term_in}
use Rattle.ctf_space.specs.SpaceView.{space_of}
use Rattle.ctf_space.specs.TypeView.{type_found}
use Rattle.ctf_views.specs.VariantView.{shown_of}
use Rattle.ctf_dump.proofs.Progress.{not_begun}
use Rattle.ctf_dump.proofs.TypeLines.{type_begun, type_lines_are}
use Rattle.ctf_dump.proofs.types.type_lines.Goals as goal

pub returns-clause-written : goal.returns-clause-written
returns-clause-written g c fits x e =
    let found = sym (ap type_found c.in-Ok.is) ∙ c.term.ensures ∙ e in
    on_ok_weaker c.list_of_lines.result
    (λ second. type_lines_are _ _ _ (space_of c.args.space.now) c.args.number.0 (term_in c.in-Ok.found) (facts_view c.facts.result) (shown_of c.variant.result) x found c.facts.ensures c.variant.ensures ((rw c.requires.known at c.in_ok-type_line.ensures.written) fits) second)
    c.list_of_lines.ensures.written

pub returns-clause-begun : goal.returns-clause-begun
returns-clause-begun g c fits x e =
    let found = sym (ap type_found c.in-Ok.is) ∙ c.term.ensures ∙ e in
    IfErr-weaker c.list_of_lines.result _ _
    (λ f begun memory. type_begun _ _ _ (space_of c.args.space.now) c.args.number.0 (term_in c.in-Ok.found) (facts_view c.facts.result) (shown_of c.variant.result) x found c.facts.ensures c.variant.ensures ((rw c.requires.known at c.in_ok-type_line.ensures.written) fits) (begun memory))
    c.list_of_lines.ensures.begun

pub returns-in_err-type_line-clause-begun : goal.returns-in_err-type_line-clause-begun
returns-in_err-type_line-clause-begun g c fits x e =
    let p = err_from_is_err_and c.from_residual.result c.from_residual.ensures.1 in
    rw (p.1, p.2) (λ memory. not_begun _ _ _ (c.in_err-type_line.ensures.quiet memory))
