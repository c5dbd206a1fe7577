use Rattle.std.proofs.Common.{Some}
use Rattle.ctf_c.proofs.names.Filled.{IsFilled}
use Rattle.ctf_c.specs.ItemRows.{TellsSymbol, symbol_numbers}
use Rattle.ctf_model.specs.opened.Open.{own_in}
use Rattle.ctf_c.proofs.symbol_rows.symbols_into.Given as goal

abbrev pub invariant-loop-i : goal.invariant-loop-i
invariant-loop-i l = IsFilled (TellsSymbol (Some l.dictionary)) (symbol_numbers (own_in l.dictionary)) l.from l.fn.rows l.rows l.i
