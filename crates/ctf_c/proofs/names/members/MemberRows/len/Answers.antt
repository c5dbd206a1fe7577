use Rattle.std.proofs.Common.{sym}
use Rattle.ctf_model.specs.format.Record.{member_len}
use Rattle.ctf_model.specs.format.Spelling.{member_of}
use Rattle.ctf_sections.specs.StringsView.{tables}
use Rattle.ctf_views.proofs.Items.{items_in_length}
use Rattle.ctf_c.proofs.names.members.MemberRows.len.Goals as goal

pub returns : goal.returns
returns c = let r = c.args.self.now in sym (items_in_length (member_of r.size (tables r.strings)) (member_len r.size) r.count r.bytes.now r.good)
