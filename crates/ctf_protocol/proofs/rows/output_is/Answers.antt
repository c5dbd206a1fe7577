use Rattle.std.proofs.Common.{refl}
use Rattle.std.specs.Str.{is_utf8, chars}
use Rattle.std.specs.Fmt.{digits}
use Rattle.hex.proofs.OnLiterals.{hex_on_literals}
use Rattle.serde_json.proofs.OnLiterals.{serde_json_on_literals}
use Rattle.ctf_model.specs.rules.FaultNames.{name_of_fault}
use Rattle.ctf_protocol.specs.lines.Ask.{ask}
use Rattle.ctf_protocol.specs.words.Words.{words}
use Rattle.ctf_protocol.specs.sessions.Charges.{charge}
use Rattle.ctf_protocol.specs.sessions.Steps.{change_step}
use Rattle.ctf_protocol.specs.lines.ReplyLines.{fitting_line}
use Rattle.ctf_protocol.proofs.rows.output_is.Goals as goal

pub returns : goal.returns
unfolding digits ask words is_utf8 chars hex_on_literals serde_json_on_literals change_step charge name_of_fault fitting_line
returns c = record { written = refl; marked = refl }
