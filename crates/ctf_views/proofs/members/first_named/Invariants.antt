use Rattle.std.proofs.Common.{◌≡◌, drop}
use Rattle.ctf_model.specs.figures.Paths.{member_named}
use Rattle.ctf_model.specs.format.Record.{member_len as len_of_member}
use Rattle.ctf_model.specs.format.Spelling.{member_of}
use Rattle.ctf_sections.specs.StringsView.{tables}
use Rattle.ctf_views.specs.Lists.{items_in}
use Rattle.ctf_views.proofs.members.first_named.Given as goal

abbrev pub invariant-loop-index : goal.invariant-loop-index
invariant-loop-index l =
    let members = items_in (member_of l.row.size (tables l.row.strings)) (len_of_member l.row.size) l.count l.bytes in
    member_named l.name (drop l.index members) ≡ member_named l.name members
