use Rattle.ctf_wire.proofs.Alone.{serves_alone}
use Rattle.ctf_wire.proofs.serving.serves_each_session_alone.Goals as goal

pub returns : goal.returns
returns c = serves_alone
