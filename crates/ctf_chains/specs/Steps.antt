-- Steps from type to type, for both sorts of chains. Source: ours.
use Rattle.std.specs.Prelude.{ℕ, ◌+◌, List, [], ◌∷◌, length, sum_by, Result, Ok, Err, IsSome}
use Rattle.ctf_model.specs.rules.Chains.{by_value, declarator}
use Rattle.ctf_model.specs.format.Name.{Tables}
use Rattle.ctf_model.specs.format.Section.{Piece}
use Rattle.ctf_model.specs.format.Spelling.{term_of}
use Rattle.ctf_model.specs.format.Term.{Body, Term}
use Rattle.ctf_model.specs.declared.faults.Fault.{Fault}
use Rattle.ctf_chains.specs.declared.chain.Chain.{Chain}
use Rattle.ctf_chains.specs.declared.chain.Chain.TheVariants.{ByValue, Declarator}

-- the type numbers that steps of a sort lead to
abbrev pub steps : Chain → Body → List ℕ
steps ByValue = by_value
steps Declarator = declarator

-- the work for these types: 1 for each, and 1 for each number that its steps lead to
abbrev pub steps_work : (Body → List ℕ) → List Term → ℕ
steps_work steps types = sum_by (λ x. 1 + length (steps x.body)) types

-- each record spells a type
abbrev pub AreSpelled : Tables → List (Result Piece Fault) → Type 0
AreSpelled t [] = Unit {0}
AreSpelled t (Ok piece ∷ rest) = IsSome (term_of t piece.bytes) × AreSpelled t rest
AreSpelled t (Err f ∷ rest) = AreSpelled t rest
