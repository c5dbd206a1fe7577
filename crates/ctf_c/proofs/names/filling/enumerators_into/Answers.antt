use Rattle.std.proofs.Common.{Ok, Err, Some, ap, refl, subst, sym, ◌∙◌}
use Rattle.ctf_check.specs.CheckedView.{lists_of, tables_of}
use Rattle.ctf_check.specs.TypedView.{dictionary_in, term_in}
use Rattle.ctf_model.specs.format.Shown.{enumerators_in}
use Rattle.ctf_views.specs.VariantView.{shown_of}
use Rattle.ctf_c.proofs.names.Asked.{names_of_enum}
use Rattle.ctf_c.proofs.names.Into.{into_list, into_unnamed, no_enumerators}
use Rattle.ctf_c.specs.names.Filling.{Fills, TellsEnumerator}
use Rattle.ctf_c.proofs.names.filling.enumerators_into.Goals as goal

pub fill_enumerators-requires-clause-names : goal.fill_enumerators-requires-clause-names
fill_enumerators-requires-clause-names c = names_of_enum (term_in c.args.found.now) _ _ (c.variant.ensures ∙ ap (λ v. Some (shown_of v)) c.in-Enumerators.is) c.in-Some.ensures.names

pub fill_enumerators-requires-clause-tables : goal.fill_enumerators-requires-clause-tables
fill_enumerators-requires-clause-tables c = c.in-Some.ensures.tables ∙ ap (λ d. tables_of d) (sym c.dictionary.ensures)

pub returns-in-Enumerators : goal.returns-in-Enumerators
returns-in-Enumerators c =
    let fills = subst (λ d. Fills (TellsEnumerator (Some (lists_of d))) c.in-Enumerators.enumerators c.args.from c.args.rows.now c.fill_enumerators.new.rows) c.dictionary.ensures c.fill_enumerators.ensures in
    into_list enumerators_in (TellsEnumerator (Some (lists_of (dictionary_in c.args.found.now)))) c.args.from _ _ _ (term_in c.args.found.now) (shown_of c.variant.result) c.in-Enumerators.enumerators c.variant.ensures (ap (λ v. enumerators_in (shown_of v)) c.in-Enumerators.is) (ap (λ n. Ok n) c.len.ensures.value) fills

pub returns-in_default : goal.returns-in_default
returns-in_default c = into_unnamed enumerators_in (TellsEnumerator (Some (lists_of (dictionary_in c.args.found.now)))) c.args.from _ _ _ no_enumerators (term_in c.args.found.now) c.in_default.ensures.names (ap (λ f. Err f) c.placeless.ensures) refl
