use Rattle.ctf_views.specs.ItemsView.{member as member_view}
use Rattle.ctf_lines.proofs.MemberTexts.{member_parts}
use Rattle.ctf_lines.proofs.Walks.{as_text}
use Rattle.ctf_lines.proofs.items.put_parts_of_member.Goals as goal

pub returns : goal.returns
returns g c =
    let join = g.met.P.TextSink.joined in
    let number = rw (c.from.ensures) at c.put_numbered-2.ensures in
    as_text (g.P.TextSink.Took) (member_parts (member_view c.args.member))
    (join _ _ _ _ _ c.put.ensures
    (join _ _ _ _ _ c.put_quoted.ensures
    (join _ _ _ _ _ c.put_numbered.ensures number)))
