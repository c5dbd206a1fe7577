-- What rows with names show.
use Rattle.std.specs.Prelude.{ℕ, List}
use Rattle.ctf_model.specs.format.Name.{Tables}
use Rattle.ctf_sections.specs.StringsView.{tables}
use Rattle.ctf_views.specs.Lists.{items_in}
use Rattle.ctf_c.specs.names.Names.{name_at}
use Rattle.ctf_c.specs.declared.names.named_rows.NameRows.{NameRows}

-- the tables with the names
abbrev pub tables_for : NameRows → Tables
tables_for r = tables r.strings

-- the names of all rows
abbrev pub names_in : NameRows → List (List ℕ)
names_in r = items_in (name_at (tables r.strings)) r.width r.count r.bytes.now
