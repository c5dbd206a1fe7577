use Rattle.std.proofs.Common.{sym, ◌∙◌}
use Rattle.std.proofs.lemmas.List.{take_all}
use Rattle.ctf_protocol.specs.lines.Text.{text_of_byte}
use Rattle.ctf_lines.proofs.Plain.{plain-more}
use Rattle.ctf_lines.proofs.Walks.{all_walked}
use Rattle.ctf_lines.proofs.escapes.is_plain_piece.Goals as goal

pub loop-byte-preserved : goal.loop-byte-preserved
loop-byte-preserved c = plain-more c.args.piece.now c.loop-byte.byte-index c.loop-byte.plain c.is_plain-plain.result c.loop-byte-test.true c.is_plain-plain.ensures c.loop-byte.invariant

pub returns : goal.returns
returns c t =
    sym (all_walked text_of_byte c.args.piece.now c.loop-byte.byte-index c.loop-byte-test.false)
    ∙ c.loop-byte.invariant t
    ∙ take_all c.loop-byte.byte-index c.args.piece.now c.loop-byte-test.false
