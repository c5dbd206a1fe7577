use Rattle.std.proofs.Common.{◌≡◌, ap, subst, sym, ◌∙◌, find, w32}
use Rattle.std.proofs.Math.Facts.{to_z-of_z}
use Rattle.std.specs.Option.{option_map}
use Rattle.std.specs.Ordering.{int_eq}
use Rattle.ctf_check.specs.TypedView.{term_in}
use Rattle.ctf_model.specs.declared.faults.TheConstants.Fault.{NO_MEMBER}
use Rattle.ctf_model.specs.format.Term.{Enumerator}
use Rattle.ctf_model.specs.symbols.SymbolQuestions.{or_refused}
use Rattle.ctf_views.specs.ItemsView.{enumerator as enumerator_view}
use Rattle.ctf_views.specs.VariantView.{shown_of}
use Rattle.ctf_c.proofs.names.Asked.{asked_by, passing}
use Rattle.ctf_c.proofs.names.asking.with_value.Goals as goal

pub returns-in-Enumerators : goal.returns-in-Enumerators
returns-in-Enumerators c =
    let test = λ (e : Enumerator). int_eq e.value c.args.value in
    let same = to_z-of_z {w = w32} {z = c.args.value} c.ranges.value in
    let found = subst (λ v. option_map enumerator_view c.first_valued.result ≡ find (λ (e : Enumerator). int_eq e.value v) c.in-Enumerators.enumerators) same c.first_valued.ensures in
    asked_by test (term_in c.args.found.now) (shown_of c.variant.result) _ c.variant.ensures (c.or_no_member.ensures ∙ ap (λ o. or_refused NO_MEMBER o) found ∙ ap (λ v. passing test (shown_of v)) (sym c.in-Enumerators.is))
