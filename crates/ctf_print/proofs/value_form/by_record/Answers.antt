use Rattle.std.proofs.Common.{◌≡◌, ◌-◌, ◌∙◌, sym, ap, arith}
use Rattle.std.proofs.lemmas.Result.{err_from_is_err_and}
use Rattle.ctf_check.specs.FactsView.{shape_view}
use Rattle.ctf_check.specs.TypedView.{term_in}
use Rattle.ctf_model.specs.figures.Figures.{incomplete}
use Rattle.ctf_model.specs.values.Pieces.{ends}
use Rattle.ctf_print.specs.ImageView.{memory_of, shows, types_of}
use Rattle.ctf_print.specs.ShowRules.{text_by_rule}
use Rattle.ctf_print.proofs.Placings.{told_is}
use Rattle.ctf_print.proofs.Tellings.{no_type_shown, none_shown, too_deep, type_shown}
use Rattle.ctf_print.proofs.value_form.by_record.Goals as goal
use Rattle.ctf_print.proofs.value_form.by_record.Goals.{then-nesting-eq0-via-then-nesting-eq0, then-nesting-eq0-via-else-nesting-eq0+then-number-eq0}

pub returns-then-nesting-eq0-clause-fault : goal.returns-then-nesting-eq0-clause-fault
returns-then-nesting-eq0-clause-fault c p =
    let is : shows c.args.image.now c.args.nesting c.args.number.0 p ≡ ends incomplete =
    elim c.then-nesting-eq0.branch [ then-nesting-eq0-via-then-nesting-eq0 w ↦ too_deep (types_of c.args.image.now) (memory_of c.args.image.now) c.args.nesting c.args.number.0 p w.if-nesting-eq0.true | then-nesting-eq0-via-else-nesting-eq0+then-number-eq0 w ↦ none_shown (types_of c.args.image.now) (memory_of c.args.image.now) c.args.nesting c.args.number.0 p w.if-number-eq0.true ] in
    rw c.placeless.ensures is

pub returns-clause-found : goal.returns-clause-found
returns-clause-found c = record {
  rule = told_is (types_of c.args.image.now) c.args.number.0 (term_in c.in_ok-term.term) (shape_view c.shape.result) (rw c.in_ok-term.was at c.term.ensures) c.shape.ensures ∙ sym c.rule_by.ensures;
  fewer = omega (arith, c.if-nesting-eq0.false);
  shown = λ p. type_shown (types_of c.args.image.now) (memory_of c.args.image.now) c.args.nesting c.args.number.0 p (term_in c.in_ok-term.term) (shape_view c.shape.result) c.if-nesting-eq0.false c.if-number-eq0.false (rw c.in_ok-term.was at c.term.ensures) c.shape.ensures ∙ ap (text_by_rule (types_of c.args.image.now) (memory_of c.args.image.now) (shows c.args.image.now (c.args.nesting - 1)) p) (sym c.rule_by.ensures);
}

pub returns-in_err-term-clause-fault : goal.returns-in_err-term-clause-fault
returns-in_err-term-clause-fault c =
    let p = err_from_is_err_and c.from_residual.result c.from_residual.ensures.1 in
    rw (p.1, p.2) (λ at. no_type_shown (types_of c.args.image.now) (memory_of c.args.image.now) c.args.nesting c.args.number.0 at c.in_err-term.field-0.0 c.if-nesting-eq0.false c.if-number-eq0.false (rw c.in_err-term.was at c.term.ensures))
