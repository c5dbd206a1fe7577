-- What rows of members show.
use Rattle.std.specs.Prelude.{List}
use Rattle.ctf_model.specs.format.Name.{Tables}
use Rattle.ctf_model.specs.format.Record.{member_len}
use Rattle.ctf_model.specs.format.Spelling.{member_of}
use Rattle.ctf_model.specs.format.Term.{Member}
use Rattle.ctf_sections.specs.StringsView.{tables}
use Rattle.ctf_views.specs.Lists.{items_in}
use Rattle.ctf_c.specs.declared.names.members.MemberRows.{MemberRows}

-- the tables with the names
abbrev pub tables_behind : MemberRows → Tables
tables_behind r = tables r.strings

-- the members of all rows
abbrev pub members_at : MemberRows → List Member
members_at r =
    items_in (member_of r.size (tables r.strings)) (member_len r.size) r.count r.bytes.now
