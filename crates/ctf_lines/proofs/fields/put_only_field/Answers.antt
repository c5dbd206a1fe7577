use Rattle.std.proofs.Common.{append-nil, sym}
use Rattle.ctf_answers.specs.AnswerContent.{entry_view}
use Rattle.ctf_protocol.specs.lines.ReplyLines.{field_text}
use Rattle.ctf_lines.proofs.Walks.{as_text}
use Rattle.ctf_lines.proofs.fields.put_only_field.Goals as goal

pub returns : goal.returns
returns g c =
    let join = g.met.P.TextSink.joined in
    as_text (g.P.TextSink.Took) (sym (append-nil (field_text (entry_view c.args.field.now)))) (join _ _ _ _ _ c.put_key.ensures c.put_single.ensures)
