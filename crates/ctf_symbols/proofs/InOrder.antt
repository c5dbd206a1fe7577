-- The orders that a map is built from are those of its dictionary.
use Rattle.std.proofs.Common.{◌≡◌, ℕ, List, [], Option, ◌∙◌}
use Rattle.std.specs.Prelude.{unwrap_or}
use Rattle.ctf_model.specs.format.Lists.{Lists}
use Rattle.ctf_model.specs.symbols.Symbols.{with_types, symbols, symbols_of}
use Rattle.ctf_order.specs.Holding.{Fits}
use Rattle.ctf_order.specs.Naming.{Naming}
use Rattle.ctf_order.specs.declared.entries.NamedItem.{NamedItem}
use Rattle.ctf_order.specs.declared.order.Order.{Order}
use Rattle.ctf_symbols.specs.Named.{AreItems, SymbolsInOrder, called_symbol, program_names}

pub symbols_ordered : (s : Lists) (strings strs : Option (List ℕ)) (table : List ℕ) (names : Naming) (items : List NamedItem) (o : Order) → strings ≡ strs → strs ≡ s.strs → table ≡ unwrap_or s.sym [] → names ≡ program_names strs
    → AreItems (program_names strings) called_symbol (with_types (symbols_of strings table)) items → Fits names items o → SymbolsInOrder s o
unfolding symbols
symbols_ordered s strings strs table names items o n e t by each fits =
    let all : strings ≡ s.strs = n ∙ e in
    ∣ record { items = items; each = rw (all, t) at each; fits = rw (by, e) at fits } ∣₁
