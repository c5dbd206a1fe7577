-- What `NameEnds` shows.
use Rattle.ctf_model.specs.format.Name.{Tables}
use Rattle.ctf_sections.specs.StringsView.{tables}
use Rattle.ctf_check.specs.declared.ends.NameEnds.{NameEnds}

-- its string tables
abbrev pub tables_in : NameEnds → Tables
tables_in n = tables n.strings
