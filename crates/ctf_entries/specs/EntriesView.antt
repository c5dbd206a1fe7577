-- What lent entries show.
use Rattle.std.specs.Option.{option_map}
use Rattle.ctf_model.specs.symbols.Entries.{Entry, SymbolInfo}
use Rattle.ctf_model.specs.symbols.Entries as info
use Rattle.ctf_entries.specs.FunctionView.{signature}
use Rattle.ctf_entries.specs.SymbolView.{symbol}
use Rattle.ctf_entries.specs.declared.entries.Entry as lent_entry
use Rattle.ctf_entries.specs.declared.entries.SymbolInfo as lent_told
use Rattle.ctf_entries.specs.declared.entries.SymbolInfo.TheVariants as lent

abbrev pub info_in : lent_told.SymbolInfo → SymbolInfo
info_in (lent.Object t) = info.object (option_map (λ n. n.0) t)
info_in (lent.Function f) = info.function (option_map signature f)

abbrev pub entry : lent_entry.Entry → Entry
entry e = record { number = e.number; name = (symbol e.symbol).name; info = info_in e.info }
