-- Facts of a step carry over if the library that it left is dropped from the table.
use Rattle.std.proofs.Common.{◌≡◌, ◌≢◌, ℕ, ◌∙◌, ◌⊎◌, inl, inr}
use Rattle.ctf_protocol.specs.answers.Answers.{Reply}
use Rattle.ctf_protocol.specs.declared.requests.Request.{Request}
use Rattle.ctf_protocol.specs.sessions.Runs.{IsGranted, IsRefused, Steps}
use Rattle.ctf_protocol.specs.sessions.State.{State}

pub granted_on : (old between new : ℕ → State) (s : ℕ) (request : Request) (reply : Reply) → new s ≡ between s → IsGranted old s request reply between → IsGranted old s request reply new
granted_on old between new s request reply same granted = (granted.0, same ∙ granted.1)

own_on : (old between new : ℕ → State) (s : ℕ) (request : Request) (reply : Reply) → new s ≡ between s → IsGranted old s request reply between ⊎ IsRefused old s reply between
    → IsGranted old s request reply new ⊎ IsRefused old s reply new
own_on old between new s request reply same (inl granted) = inl (granted_on old between new s request reply same granted)
own_on old between new s request reply same (inr refused) = inr (refused.0, same ∙ refused.1)

pub steps_on : (old between new : ℕ → State) (s : ℕ) (request : Request) (reply : Reply) → new s ≡ between s → ((other : ℕ) → other ≢ s → new other ≡ between other) → Steps old s request reply between → Steps old s request reply new
steps_on old between new s request reply same others steps =
    record { own = own_on old between new s request reply same steps.own; others = λ other ne. others other ne ∙ steps.others other ne }
