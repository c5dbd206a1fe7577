use Rattle.std.proofs.Common.{sym, ◌∙◌, arith}
use Rattle.std.proofs.lemmas.Result.{err_from_is_err_and}
use Rattle.ctf_check.specs.ListsView.{lists_in}
use Rattle.ctf_check.proofs.SymbolStages.{at_entries, at_table, entries_fault_is, past_table}
use Rattle.ctf_check.proofs.symbols.judge_symbols.Goals as goal

pub returns-in_err-judge_entries-clause-err : goal.returns-in_err-judge_entries-clause-err
returns-in_err-judge_entries-clause-err c =
    let p = err_from_is_err_and c.from_residual.result c.from_residual.ensures.1 in
    let s = lists_in c.args.lists in
    let same = entries_fault_is s _ _ _ _ _ _ _ c.new-symbols.ensures c.new.ensures c.table_of-sym.ensures c.bytes_in-objects.ensures.bytes c.bytes_in-functions.ensures.bytes c.requires.child c.requires.count in
    rw (p.1, p.2) (at_entries s c.in_err-judge_entries.field-0.0 (sym same ∙ c.in_err-judge_entries.ensures.err))

pub returns-then-sym-ne0-clause-err : goal.returns-then-sym-ne0-clause-err
returns-then-sym-ne0-clause-err c =
    let s = lists_in c.args.lists in
    let same = entries_fault_is s _ _ _ _ _ _ _ c.new-symbols.ensures c.new.ensures c.table_of-sym.ensures c.bytes_in-objects.ensures.bytes c.bytes_in-functions.ensures.bytes c.requires.child c.requires.count in
    rw c.placeless.ensures (at_table s _ (sym same ∙ c.in_ok-judge_entries.ensures.ok) c.table_of-sym.ensures (omega (arith, c.if-sym-ne0.true)))

pub returns-clause-ok : goal.returns-clause-ok
returns-clause-ok c =
    let s = lists_in c.args.lists in
    let same = entries_fault_is s _ _ _ _ _ _ _ c.new-symbols.ensures c.new.ensures c.table_of-sym.ensures c.bytes_in-objects.ensures.bytes c.bytes_in-functions.ensures.bytes c.requires.child c.requires.count in
    past_table s _ (sym same ∙ c.in_ok-judge_entries.ensures.ok) c.table_of-sym.ensures (omega (arith, c.if-sym-ne0.false))
