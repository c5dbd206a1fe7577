use Rattle.ctf_protocol.proofs.SessionRuns.{same_given}
use Rattle.ctf_protocol.proofs.session_laws.same_given_same_replies.Goals as goal

pub returns : goal.returns
returns c = same_given
