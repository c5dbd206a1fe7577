use Rattle.ctf_protocol.proofs.EachChange.{refusals}
use Rattle.ctf_protocol.proofs.TableSteps.{bad_lines}
use Rattle.ctf_protocol.proofs.session_laws.refusals_are_in_the_table.Goals as goal

pub returns : goal.returns
returns c = record { requests = refusals; lines = bad_lines }
