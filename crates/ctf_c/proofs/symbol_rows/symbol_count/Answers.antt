use Rattle.std.proofs.Common.{ℕ, ap, min, ◌∙◌}
use Rattle.ctf_check.specs.CheckedView.{lists_of}
use Rattle.ctf_c.proofs.names.SymbolRows.{symbols_counted}
use Rattle.ctf_c.proofs.symbol_rows.symbol_count.Goals as goal

pub returns : goal.returns
returns c = c.min.ensures ∙ ap (λ (n : ℕ). min n 4294967296) (symbols_counted (lists_of c.args.dictionary.now) c.symbol_parts-parts.result.sym.now c.symbol_parts-parts.ensures.sym)
