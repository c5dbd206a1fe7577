use Rattle.std.proofs.Common.{ap, Option}
use Rattle.std.specs.Prelude.{unwrap_or}
use Rattle.ctf_laws.proofs.Runs.{loads_among}
use Rattle.ctf_protocol.specs.sessions.State.{State, empty_state}
use Rattle.ctf_broker.proofs.broker.Broker.load.Goals as goal

pub returns-clause-good : goal.returns-clause-good
returns-clause-good c = λ g. loads_among _ _ _ _ _ c.publish.ensures.own (λ other ne. ap (λ (o : Option State). unwrap_or o empty_state) (c.publish.ensures.others other ne)) c.keeps_rules.ensures g
