use Rattle.std.proofs.lemmas.Result.{err_from_is_err_and, IfErr-weaker, on_ok_weaker}
use Rattle.ctf_check.specs.CheckedView.{dictionary_of}
use Rattle.ctf_space.specs.SpaceView.{space_of}
use Rattle.ctf_dump.proofs.AllLines.{at_labels, at_symbols, at_types, dump_is}
use Rattle.ctf_dump.proofs.Progress.{not_begun}
use Rattle.ctf_dump.proofs.dumping.dump.Goals as goal

pub returns-clause-written : goal.returns-clause-written
returns-clause-written g c fits =
    on_ok_weaker c.all_type_lines.result
    (λ types. dump_is (space_of c.args.space.now) (dictionary_of c.dictionary-dictionary.result) _ _ _ _ _ c.dictionary-dictionary.ensures.own c.in_ok-head_line.ensures.written c.in_ok-label_lines.ensures.written c.in_ok-symbol_lines.ensures.written types)
    (c.all_type_lines.ensures.written fits)

pub returns-clause-begun : goal.returns-clause-begun
returns-clause-begun g c fits =
    IfErr-weaker c.all_type_lines.result _ _
    (λ f types memory. at_types (space_of c.args.space.now) (dictionary_of c.dictionary-dictionary.result) _ _ _ _ _ c.dictionary-dictionary.ensures.own c.in_ok-head_line.ensures.written c.in_ok-label_lines.ensures.written c.in_ok-symbol_lines.ensures.written (types memory))
    (c.all_type_lines.ensures.begun fits)

pub returns-in_err-head_line-clause-begun : goal.returns-in_err-head_line-clause-begun
returns-in_err-head_line-clause-begun g c fits =
    let p = err_from_is_err_and c.from_residual.result c.from_residual.ensures.1 in
    rw (p.1, p.2) (λ memory. not_begun _ _ _ (c.in_err-head_line.ensures.quiet memory))

pub returns-in_err-label_lines-clause-begun : goal.returns-in_err-label_lines-clause-begun
returns-in_err-label_lines-clause-begun g c fits =
    let p = err_from_is_err_and c.from_residual-in_err-label_lines.result c.from_residual-in_err-label_lines.ensures.1 in
    rw (p.1, p.2) (λ memory. at_labels (space_of c.args.space.now) (dictionary_of c.dictionary-dictionary.result) _ _ _ c.dictionary-dictionary.ensures.own c.in_ok-head_line.ensures.written (c.in_err-label_lines.ensures.begun memory))

pub returns-in_err-symbol_lines-clause-begun : goal.returns-in_err-symbol_lines-clause-begun
returns-in_err-symbol_lines-clause-begun g c fits =
    let p = err_from_is_err_and c.from_residual-in_err-symbol_lines.result c.from_residual-in_err-symbol_lines.ensures.1 in
    rw (p.1, p.2) (λ memory. at_symbols (space_of c.args.space.now) (dictionary_of c.dictionary-dictionary.result) _ _ _ _ c.dictionary-dictionary.ensures.own c.in_ok-head_line.ensures.written c.in_ok-label_lines.ensures.written (c.in_err-symbol_lines.ensures.begun memory))
