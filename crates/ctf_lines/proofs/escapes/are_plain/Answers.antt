use Rattle.std.proofs.Common.{sym, ◌∙◌}
use Rattle.std.proofs.lemmas.List.{take_all}
use Rattle.ctf_protocol.specs.lines.Text.{text_of_byte}
use Rattle.ctf_lines.proofs.Plain.{plain-next}
use Rattle.ctf_lines.proofs.Walks.{all_walked}
use Rattle.ctf_lines.proofs.escapes.are_plain.Goals as goal

pub loop-byte-preserved : goal.loop-byte-preserved
loop-byte-preserved c = plain-next c.args.text.now c.loop-byte.byte-index c.loop-byte-test.true (sym c.is_plain.ensures ∙ c.if-not-is_plain.false) c.loop-byte.invariant

pub returns : goal.returns
returns c _ =
    sym (all_walked text_of_byte c.args.text.now c.loop-byte.byte-index c.loop-byte-test.false)
    ∙ c.loop-byte.invariant
    ∙ take_all c.loop-byte.byte-index c.args.text.now c.loop-byte-test.false
