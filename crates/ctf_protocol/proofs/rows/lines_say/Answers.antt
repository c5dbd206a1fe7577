use Rattle.std.proofs.Common.{refl}
use Rattle.std.specs.Fmt.{digits}
use Rattle.ctf_model.specs.rules.FaultNames.{name_of_fault}
use Rattle.ctf_protocol.specs.lines.ReplyLines.{fitting_line}
use Rattle.ctf_protocol.proofs.rows.lines_say.Goals as goal

pub returns : goal.returns
unfolding digits name_of_fault fitting_line
returns c = record { length = refl; opened = refl; kind = refl; done = refl; refusal = refl; last_session = refl; at_place = refl; cut = refl; ended = refl; none = refl }
