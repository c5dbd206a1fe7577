use Rattle.ctf_protocol.proofs.EachChange.{within_quota}
use Rattle.ctf_protocol.proofs.session_laws.requests_stay_within_quota.Goals as goal

pub returns : goal.returns
returns c = within_quota
