use Rattle.std.proofs.Common.{inl}
use Rattle.std.specs.Prelude.{option_copied}
use Rattle.std.proofs.lemmas.Result.{err_from_is_err_and}
use Rattle.ctf_check.specs.ListsView.{given}
use Rattle.ctf_open.proofs.Late.{none_before}
use Rattle.ctf_c.proofs.opening.opened_lent.Goals as goal

pub returns-in_err-to_box-clause-late : goal.returns-in_err-to_box-clause-late
returns-in_err-to_box-clause-late c =
    let p = err_from_is_err_and c.from_residual-in_err-to_box.result c.from_residual-in_err-to_box.ensures.1 in
    rw (p.1, p.2) (inl (none_before (given c.args.ctf.now (option_copied c.args.sym) (option_copied c.args.strs)) c.in_ok-dictionary.ensures.exact_ok))
