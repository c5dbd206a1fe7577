use Rattle.std.specs.Prelude.{decimal}
use Rattle.std.proofs.Common.{codes}
use Rattle.ctf_protocol.specs.answers.Answers.{says, truth}
use Rattle.ctf_protocol.specs.lines.ReplyLines.{field_text, quote}
use Rattle.ctf_protocol.specs.lines.Text.{text_of}
use Rattle.ctf_lines.proofs.InfoText.{info_text}
use Rattle.ctf_lines.proofs.Walks.{as_text}
use Rattle.ctf_lines.proofs.info_fields.put_info.Goals as goal

pub returns : goal.returns
returns g c =
    let join = g.met.P.TextSink.joined in
    let told = c.args.told.now in
    as_text (g.P.TextSink.Took)
    (info_text (field_text (says (codes "child") (truth told.child))) (field_text (says (codes "draft") (truth told.draft))) (field_text (says (codes "imported") (truth told.imported)))
    (decimal told.labels) (quote (text_of told.parlabel.now)) (quote (text_of told.parname.now)) (decimal told.pending) (decimal told.types))
    (join _ _ _ _ _ c.put_child.ensures
    (join _ _ _ _ _ c.put_draft.ensures
    (join _ _ _ _ _ c.put_imported.ensures
    (join _ _ _ _ _ c.put_numbered.ensures
    (join _ _ _ _ _ c.put_quoted.ensures
    (join _ _ _ _ _ c.put.ensures
    (join _ _ _ _ _ c.put_quoted-2.ensures
    (join _ _ _ _ _ c.put_numbered-2.ensures c.put_numbered-3.ensures))))))))
