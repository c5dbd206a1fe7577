-- Refusals. Source: ours.
use Rattle.std.specs.Prelude.{ℕ}
use Rattle.ctf_model.specs.declared.faults.Fault.{Fault}
use Rattle.ctf_model.specs.declared.faults.TheConstants.Fault.{MEMORY}

-- a refusal without a place
abbrev pub placeless : ℕ → Fault
placeless code = record { code = code; place = 0 }

-- an allocation failed
abbrev pub out_of_memory : Fault
out_of_memory = placeless MEMORY
