-- What `Types` shows of its section.
use Rattle.std.specs.Prelude.{Bool, List, Result}
use Rattle.ctf_model.specs.format.Section.{Piece, records}
use Rattle.ctf_model.specs.declared.faults.Fault.{Fault}
use Rattle.ctf_chains.specs.declared.chain.Chain.{Chain}
use Rattle.ctf_chains.specs.declared.types.Types.{Types}

-- its records
abbrev pub records_in : Types → List (Result Piece Fault)
records_in g = records g.bytes.now

-- whether low type numbers belong to a parent
abbrev pub is_child : Types → Bool
is_child g = g.child

-- the sort of chain
abbrev pub chain_in : Types → Chain
chain_in g = g.chain
