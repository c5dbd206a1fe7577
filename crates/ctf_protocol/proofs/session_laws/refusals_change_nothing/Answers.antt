use Rattle.ctf_protocol.proofs.EachChange.{refusals_keep}
use Rattle.ctf_protocol.proofs.session_laws.refusals_change_nothing.Goals as goal

pub returns : goal.returns
returns c = refusals_keep
