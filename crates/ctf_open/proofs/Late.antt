-- Faultless lists have no fault before the rules of chains.
use Rattle.std.proofs.Common.{◌≡◌, ℕ, zero, suc, ◌+◌, List, [], ◌∷◌, take, Option, None, Some, refl}
use Rattle.ctf_check.specs.Stages.{fault_before_chains}
use Rattle.ctf_model.specs.format.Lists.{Lists}
use Rattle.ctf_model.specs.rules.Faults.{first_broken, first_fault, or_later, rules}
use Rattle.ctf_model.specs.declared.faults.Fault.{Fault}

-- the rule is kept, and so are the later ones
both_kept : (code : ℕ) (place : Option ℕ) (later : Option Fault) → or_later code place later ≡ None → (place ≡ None) × (later ≡ None)
both_kept code None later none = (refl, none)
both_kept code (Some place) later none = absurd cc

-- the first rules are kept if all are
front_kept : (n code : ℕ) (rules : List (Lists → Option ℕ)) (s : Lists) → first_broken code rules s ≡ None → first_broken code (take n rules) s ≡ None
front_kept zero code rs s none = refl
front_kept (suc n) code [] s none = refl
front_kept (suc n) code (rule ∷ rs) s none =
    let both = both_kept code (rule s) (first_broken (code + 1) rs s) none in
    rw both.0 (front_kept n (code + 1) rs s both.1)

pub none_before : (s : Lists) → first_fault s ≡ None → fault_before_chains s ≡ None
unfolding first_fault fault_before_chains
none_before s none = front_kept 14 1 rules s none
