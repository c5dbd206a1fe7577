use Rattle.ctf_protocol.proofs.SessionRuns.{each_step_happens}
use Rattle.ctf_protocol.proofs.session_laws.steps_happen.Goals as goal

pub returns : goal.returns
returns c = each_step_happens
