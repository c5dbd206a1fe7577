-- What a symbol shows that was looked up by name.
use Rattle.std.specs.Prelude.{ℕ, List}
use Rattle.ctf_model.specs.symbols.Entries.{Owner}
use Rattle.ctf_symbols.specs.declared.named.NamedSymbol.{NamedSymbol}

-- the owner of an entry, with the name of the look-up
abbrev pub owner_named : List ℕ → NamedSymbol → Owner
owner_named name x = record { number = x.number; name = name; class = x.class }
