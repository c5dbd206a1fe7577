use Rattle.std.proofs.Common.{Some, ap, ◌∙◌, sym, bytes_eq}
use Rattle.ctf_check.specs.TypedView.{term_in}
use Rattle.ctf_model.specs.declared.faults.TheConstants.Fault.{NO_MEMBER}
use Rattle.ctf_model.specs.format.Term.{Enumerator}
use Rattle.ctf_model.specs.symbols.SymbolQuestions.{or_refused}
use Rattle.ctf_views.specs.VariantView.{shown_of}
use Rattle.ctf_c.proofs.names.Asked.{asked_by, names_of_enum, passing}
use Rattle.ctf_c.proofs.names.asking.with_name.Goals as goal

pub first_named-requires : goal.first_named-requires
first_named-requires c = names_of_enum (term_in c.args.found.now) _ _ (c.variant.ensures ∙ ap (λ v. Some (shown_of v)) c.in-Enumerators.is) c.in-Some.ensures.names

pub returns-in-Enumerators : goal.returns-in-Enumerators
returns-in-Enumerators c =
    let test = λ (e : Enumerator). bytes_eq c.args.name.now e.name in
    asked_by test (term_in c.args.found.now) (shown_of c.variant.result) _ c.variant.ensures (c.or_no_member.ensures ∙ ap (λ o. or_refused NO_MEMBER o) c.first_named.ensures ∙ ap (λ v. passing test (shown_of v)) (sym c.in-Enumerators.is))
