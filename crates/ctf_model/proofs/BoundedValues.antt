-- In a dictionary that breaks no rule, chains of steps by value are short.
use Rattle.std.proofs.Common.{◌≡◌, ℕ, ◌+◌, Bool, true, false, List, Option, Some, None, refl, arith}
use Rattle.std.specs.Prelude.{MatchOption}
use Rattle.ctf_model.specs.rules.Chains.{by_value, edges, longest_chain, within, IsWithin}
use Rattle.ctf_model.specs.format.Dictionary.{said_by}
use Rattle.ctf_model.specs.rules.Faults.{first_fault}
use Rattle.ctf_model.specs.figures.FigureLaws.{FaultlessValuesAreBounded}
use Rattle.ctf_model.specs.format.Laws.{KeepsEveryRule}
use Rattle.ctf_model.specs.format.Lists.{Lists}
use Rattle.ctf_model.specs.rules.Rules.{IsDeepBy, IsFirstFault}
use Rattle.ctf_model.specs.format.Term.{Body}
use Rattle.ctf_model.specs.declared.faults.Fault.{Fault}
use Rattle.ctf_model.proofs.ChainRules.{within_true}
use Rattle.ctf_model.proofs.ChainSteps.{chain_begins}
use Rattle.ctf_model.proofs.Judge.{least_fault}
use Rattle.ctf_model.proofs.SpelledSection.{section_spelled}

-- lists without a first fault keep every rule
pub keeps_all : (s : Lists) → first_fault s ≡ None → KeepsEveryRule s
keeps_all s e = at (first_fault s) e (least_fault s)
  where
    at : (o : Option Fault) → o ≡ None → MatchOption o (KeepsEveryRule s) (IsFirstFault s) → KeepsEveryRule s
    at None e h = h
    at (Some f) e h = absurd cc

-- if no chain of such steps is too long, every chain is within the bound
pub bounded : (steps : Body → List ℕ) (s : Lists) → KeepsEveryRule s → ((p : ℕ) → IsDeepBy steps s p → ⊥) → (i : ℕ) → IsWithin (edges steps (said_by s).child (said_by s).terms) longest_chain i
unfolding said_by
bounded steps s keeps none i = at (within (edges steps (said_by s).child (said_by s).terms) longest_chain i) refl
  where
    at : (b : Bool) → within (edges steps (said_by s).child (said_by s).terms) longest_chain i ≡ b → IsWithin (edges steps (said_by s).child (said_by s).terms) longest_chain i
    at true e = within_true (edges steps (said_by s).child (said_by s).terms) longest_chain i e
    at false e =
        absurd (none (i + 1)
        ((said_by s).terms, (section_spelled s 15 (omega arith) (λ n lt. keeps n)).0, i, chain_begins steps (said_by s).child (said_by s).terms longest_chain i e, refl))

pub values_bounded : FaultlessValuesAreBounded
values_bounded s e = record { each = λ i lt. bounded by_value s (keeps_all s e) (keeps_all s e 15) i }
