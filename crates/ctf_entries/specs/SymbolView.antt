-- What a lent symbol shows.
use Rattle.std.specs.Prelude.{ℕ}
use Rattle.std.specs.List.{before_first}
use Rattle.ctf_model.specs.format.Name.{is_zero}
use Rattle.ctf_model.specs.symbols.Symbols.{Symbol}
use Rattle.ctf_entries.specs.declared.symbol.Symbol as lent
use Rattle.ctf_entries.specs.declared.considered.Numbered.{Numbered}

-- its name ends at the first zero byte
abbrev pub symbol : lent.Symbol → Symbol
symbol x =
    record {
      name = before_first is_zero x.text.now;
      sort = x.sort;
      section = x.section;
      value = x.value;
    }

abbrev pub numbered_symbol : ℕ → lent.Symbol → ℕ × Symbol
numbered_symbol n x = (n, symbol x)

-- a lent symbol with its number
abbrev pub number_and_symbol : Numbered → ℕ × Symbol
number_and_symbol x = numbered_symbol x.number x.symbol
