use Rattle.std.proofs.Common.{ap, ◌∙◌}
use Rattle.ctf_views.specs.ItemsView.{member as member_view}
use Rattle.ctf_lines.proofs.MemberTexts.{member_text}
use Rattle.ctf_lines.proofs.Walks.{as_text}
use Rattle.ctf_lines.specs.Rows.{member_row}
use Rattle.ctf_lines.proofs.items.put_plain_member.Goals as goal

pub returns : goal.returns
returns g c =
    let member = c.args.member in
    let number = ap (member_row member.name.now member.offset) c.from.ensures in
    as_text (g.P.TextSink.Took) (number ∙ member_text (member_view member) c.requires) c.put_member.ensures
