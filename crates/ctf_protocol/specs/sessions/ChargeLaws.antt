-- Laws of charges. Each is the contract of a function of src/session_laws.rt.
use Rattle.std.specs.Prelude.{◌≤◌, Option}
use Rattle.ctf_model.specs.spaces.Kept.{Kept}
use Rattle.ctf_protocol.specs.sessions.Charges.{charge}
use Rattle.ctf_protocol.specs.sessions.State.{State}
use Rattle.ctf_protocol.specs.sessions.Outcomes.{quota}
use Rattle.ctf_protocol.specs.sessions.Steps.{step}
use Rattle.ctf_protocol.specs.declared.requests.Request.{Request}

-- no request makes a library exceed its quota
abbrev pub RequestsStayWithinQuota : Type 0
RequestsStayWithinQuota =
    (state : State) (request : Request) (found : Option Kept) → charge state ≤ quota
    → charge (step state request found).state ≤ quota
