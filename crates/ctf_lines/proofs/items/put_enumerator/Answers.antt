use mir.Val.{SFits}
use Rattle.std.proofs.Common.{rules, w32}
use Rattle.std.proofs.Math.Facts.{to_z-of_z}
use Rattle.ctf_views.specs.ItemsView.{enumerator as enumerator_view}
use Rattle.ctf_lines.proofs.MemberTexts.{enumerator_parts}
use Rattle.ctf_lines.proofs.Walks.{as_text}
use Rattle.ctf_lines.proofs.items.put_enumerator.Goals as goal

pub returns : goal.returns
returns g c =
    let join = g.met.P.TextSink.joined in
    let fits : SFits w32 c.args.enumerator.value = search rules in
    let same = to_z-of_z {w = w32} {z = c.args.enumerator.value} fits in
    as_text (g.P.TextSink.Took) (enumerator_parts (enumerator_view c.args.enumerator))
    (join _ _ _ _ _ c.put.ensures
    (join _ _ _ _ _ c.put_quoted.ensures
    (join _ _ _ _ _ c.put-2.ensures
    (join _ _ _ _ _ (rw same at c.put_signed.ensures) c.put_one.ensures))))
