-- When a symbol map fits a dictionary. Source: ours.
use Rattle.std.specs.Prelude.{◌≡◌}
use Rattle.ctf_model.specs.format.Lists.{Lists}
use Rattle.ctf_symbols.specs.Kept.{lefts_of}
use Rattle.ctf_symbols.specs.Named.{SymbolsInOrder, LabelsInOrder}
use Rattle.ctf_symbols.specs.declared.map.SymbolMap.{SymbolMap}

-- the map belongs to these lists: the starts of symbols' entries, and considered symbols and labels
-- in the order of their names
pub record Fits (s : Lists) (m : SymbolMap) : Type 0 where
  pub places : m.lefts.items ≡ lefts_of s
  pub symbols : SymbolsInOrder s m.symbols
  pub labels : LabelsInOrder s m.labels
