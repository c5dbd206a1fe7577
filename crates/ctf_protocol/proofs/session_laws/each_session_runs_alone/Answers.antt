use Rattle.ctf_protocol.proofs.SessionRuns.{each_alone}
use Rattle.ctf_protocol.proofs.session_laws.each_session_runs_alone.Goals as goal

pub returns : goal.returns
returns c = each_alone
