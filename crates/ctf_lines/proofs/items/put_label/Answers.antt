use Rattle.ctf_views.specs.ItemsView.{label as label_view}
use Rattle.ctf_lines.proofs.MemberTexts.{label_parts}
use Rattle.ctf_lines.proofs.Walks.{as_text}
use Rattle.ctf_lines.proofs.items.put_label.Goals as goal

pub returns : goal.returns
returns g c =
    let join = g.met.P.TextSink.joined in
    as_text (g.P.TextSink.Took) (label_parts (label_view c.args.label))
    (join _ _ _ _ _ (rw (c.from.ensures) at c.put_numbered.ensures)
    (join _ _ _ _ _ c.put_quoted.ensures c.put_one.ensures))
