use Rattle.ctf_protocol.proofs.SessionRuns.{unreached}
use Rattle.ctf_protocol.proofs.session_laws.unreached_sessions_do_not_matter.Goals as goal

pub returns : goal.returns
returns c = unreached
