-- Laws of refusals. Each is the contract of a function of src/session_laws.rt.
use Rattle.std.specs.Prelude.{◌≡◌, ◌==◌, ℕ, Bool, true, List, Option, Err}
use Rattle.std.specs.List.{list_any}
use Rattle.ctf_model.specs.rules.FaultNames.{fault_names}
use Rattle.ctf_model.specs.spaces.Kept.{Kept}
use Rattle.ctf_model.specs.declared.faults.Fault.{Fault}
use Rattle.ctf_protocol.specs.lines.Ask.{ask}
use Rattle.ctf_protocol.specs.sessions.State.{State}
use Rattle.ctf_protocol.specs.sessions.Steps.{step}
use Rattle.ctf_protocol.specs.declared.requests.Request.{Request}

-- a refused request leaves the library as it was
abbrev pub RefusalsChangeNothing : Type 0
RefusalsChangeNothing =
    (state : State) (request : Request) (found : Option Kept) (fault : Fault)
    → (step state request found).reply.outcome ≡ Err fault
    → (step state request found).state ≡ state

-- the code is in the table of faults
abbrev pub has_row : ℕ → Bool
has_row code = list_any (λ row. row.0 == code) fault_names

-- every refusal of a request has a code in the table
abbrev pub RefusalsAreInTheTable : Type 0
RefusalsAreInTheTable =
    (state : State) (request : Request) (found : Option Kept) (fault : Fault)
    → (step state request found).reply.outcome ≡ Err fault
    → has_row fault.code ≡ true

-- so has every refusal of a line without a request
abbrev pub BadLinesAreInTheTable : Type 0
BadLinesAreInTheTable =
    (line : List ℕ) (session : ℕ) (fault : Fault)
    → ask line ≡ Err (session, fault)
    → has_row fault.code ≡ true
