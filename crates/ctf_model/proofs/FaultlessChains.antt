-- In a dictionary that breaks no rule, chains of steps are short; in one that is no child, they
-- stay inside.
use Rattle.std.proofs.Common.{◌≡◌, ℕ, ◌<◌, false, List, None}
use Rattle.std.specs.List.{AllByRecursion}
use Rattle.ctf_model.specs.rules.ChainLaws.{FaultlessChainsAreShort, HasShortChains, IsShortParent, ShortWhereFaultless}
use Rattle.ctf_model.specs.rules.Chains.{by_value, declarator}
use Rattle.ctf_model.specs.format.Dictionary.{said_by}
use Rattle.ctf_model.specs.rules.Faults.{first_fault, types}
use Rattle.ctf_model.specs.format.Lists.{Lists, tables}
use Rattle.ctf_model.specs.rules.References.{references}
use Rattle.ctf_model.specs.rules.Rules.{IsDeepBy}
use Rattle.ctf_model.specs.format.Section.{terms_in}
use Rattle.ctf_model.specs.format.Term.{Term, Body}
use Rattle.ctf_model.specs.format.Term as term
use Rattle.ctf_model.proofs.Anywhere.{all_map}
use Rattle.ctf_model.proofs.BoundedParents.{IsLow, all_low, values_named}
use Rattle.ctf_model.proofs.BoundedValues.{bounded, keeps_all}

-- the types of declarator steps are among those that the type refers to
declarators_named : (P : ℕ → Type 0) (body : Body) → AllByRecursion P (references body) → AllByRecursion P (declarator body)
declarators_named P (term.pointer t) a = a
declarators_named P (term.typedef t) a = a
declarators_named P (term.volatile t) a = a
declarators_named P (term.const t) a = a
declarators_named P (term.restrict t) a = a
declarators_named P (term.function ret ts) a = (a.0, tt)
declarators_named P (term.array e) a = (a.0, tt)
declarators_named P (term.integer x) a = tt
declarators_named P (term.float x) a = tt
declarators_named P (term.struct size ms) a = tt
declarators_named P (term.union size ms) a = tt
declarators_named P (term.enum size es) a = tt
declarators_named P (term.forward t) a = tt
declarators_named P term.unknown a = tt

short_parent : (steps : Body → List ℕ) → ((P : ℕ → Type 0) (body : Body) → AllByRecursion P (references body) → AllByRecursion P (steps body))
    → (s : Lists) → first_fault s ≡ None → (said_by s).child ≡ false → HasShortChains steps (said_by s) → IsShortParent steps (said_by s)
unfolding said_by
short_parent steps named s e plain short =
    record { plain = plain; short = short; low = all_map IsLow (λ (x : Term). AllByRecursion (λ t. t < 0x8000) (steps x.body)) (λ x a. named (λ t. t < 0x8000) x.body a) (terms_in (tables s) (types s.ctf)) (all_low s e plain) }

short_by : (steps : Body → List ℕ) → ((P : ℕ → Type 0) (body : Body) → AllByRecursion P (references body) → AllByRecursion P (steps body))
    → ((s : Lists) → first_fault s ≡ None → (p : ℕ) → IsDeepBy steps s p → ⊥) → ShortWhereFaultless steps
short_by steps named none =
    record { own = own; parent = λ s e plain. short_parent steps named s e plain (own s e) }
  where
    own : (s : Lists) → first_fault s ≡ None → HasShortChains steps (said_by s)
    own s e = record { each = λ i lt. bounded steps s (keeps_all s e) (none s e) i }

pub faultless_short : FaultlessChainsAreShort
faultless_short = record {
  values = short_by by_value values_named (λ s e. keeps_all s e 15);
  declarators = short_by declarator declarators_named (λ s e. keeps_all s e 16);
}
