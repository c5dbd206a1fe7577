use Rattle.std.proofs.Common.{length, sym, ◌∙◌, codes}
use Rattle.std.proofs.lemmas.Bool.{eqb-false, eqb-true}
use Rattle.std.proofs.lemmas.Result.{err_from_is_err_and}
use Rattle.ctf_model.specs.values.Pieces.{piece}
use Rattle.ctf_print.proofs.Writes.{label_none, label_some, next_ok, refused_first, later_refused}
use Rattle.ctf_print.proofs.text.Text.put_name.Goals as goal

pub returns-then-is_empty-clause-ok : goal.returns-then-is_empty-clause-ok
returns-then-is_empty-clause-ok c =
    let none = label_none c.args.name.now (eqb-true (length c.args.name.now) 0 (sym c.is_empty.ensures ∙ c.if-is_empty.true)) in
    rw none c.put_nothing.ensures.ok

pub returns-then-is_empty-clause-err : goal.returns-then-is_empty-clause-err
returns-then-is_empty-clause-err c =
    let none = label_none c.args.name.now (eqb-true (length c.args.name.now) 0 (sym c.is_empty.ensures ∙ c.if-is_empty.true)) in
    rw none c.put_nothing.ensures.err

pub returns-in_err-put-clause-err : goal.returns-in_err-put-clause-err
returns-in_err-put-clause-err c =
    let p = err_from_is_err_and c.from_residual.result c.from_residual.ensures.1 in
    let some = label_some c.args.name.now (eqb-false (length c.args.name.now) 0 (sym c.is_empty.ensures ∙ c.if-is_empty.false)) in
    rw (p.1, p.2) (rw some (refused_first c.args.self.now _ _ _ c.in_err-put.ensures.err))

pub returns-clause-ok : goal.returns-clause-ok
returns-clause-ok c =
    let some = label_some c.args.name.now (eqb-false (length c.args.name.now) 0 (sym c.is_empty.ensures ∙ c.if-is_empty.false)) in
    rw (some, next_ok c.args.self.now c.put.new.self (piece c.args.name.now) (piece (codes " = ")) c.in_ok-put.ensures.ok) c.put_short.ensures.ok

pub returns-clause-err : goal.returns-clause-err
returns-clause-err c =
    let some = label_some c.args.name.now (eqb-false (length c.args.name.now) 0 (sym c.is_empty.ensures ∙ c.if-is_empty.false)) in
    rw some (later_refused c.put_short.result _ _ _ _ (next_ok c.args.self.now c.put.new.self (piece c.args.name.now) (piece (codes " = ")) c.in_ok-put.ensures.ok) c.put_short.ensures.err)
