-- Whether a type is deep, and the plan for a member of it.
use Rattle.std.proofs.Common.{◌≡◌, ℕ, zero, suc, ◌≤◌, Bool, true, false, List, [], ◌∷◌, Option, Some, None, Result, Ok, Err, is_some, refl, sym, ap, ◌∙◌, arith, ◌⊎◌, inr}
use Rattle.std.specs.Prelude.{IfOk, IfErr, MatchOption, not}
use Rattle.std.specs.List.{AllByRecursion, list_all}
use Rattle.ctf_chains.proofs.Depths.{IsWithin-more}
use Rattle.ctf_model.specs.drafts.Adders.{is_deep, is_deep_from}
use Rattle.ctf_model.specs.rules.Chains.{IsWithin, longest_chain, own_index, targets, within}
use Rattle.ctf_model.specs.drafts.Drafts.{Draft, count_of, content, space_of}
use Rattle.ctf_model.specs.figures.FigureLaws.{value_edges}
use Rattle.ctf_model.specs.figures.Figures.{align, aligning, comes_to, parents_figure}
use Rattle.ctf_model.proofs.Settled.{most_is}
use Rattle.ctf_model.specs.rules.Refusals.{placeless, out_of_memory}
use Rattle.ctf_model.specs.declared.faults.Fault.{Fault}
use Rattle.ctf_model.proofs.ChainRules.{within_true}
use Rattle.ctf_draft.specs.Planning.{planned, planned_shallow}
use Rattle.ctf_draft.specs.Bounding.{IsBounded, bound}
use Rattle.ctf_draft.specs.Reaching.{IsFound}
use Rattle.ctf_draft.specs.declared.depths.Depths.{Depths}
use Rattle.ctf_draft.proofs.Bounded.{within_bound}
use Rattle.ctf_draft.specs.declared.plan.Plan.{Plan}
use Rattle.ctf_draft.specs.declared.reach.Reach.{Reach}
use Rattle.ctf_draft.proofs.Reaches.{named_is}

-- ---- deep types

from_all : (test : ℕ → Bool) (P : ℕ → Type 0) → ((j : ℕ) → P j → test j ≡ true) → (xs : List ℕ) → AllByRecursion P xs → list_all test xs ≡ true
from_all test P h [] a = refl
from_all test P h (x ∷ xs) a = let first = h x a.0 in rw first (from_all test P h xs a.1)

true_within : (es : List (List ℕ)) (k i : ℕ) → IsWithin es k i → within es k i ≡ true
unfolding within IsWithin
true_within es zero i h = rw h refl
true_within es (suc k) i h = from_all (within es k) (IsWithin es k) (true_within es k) (targets es i) h

pub shallow : (d : Draft) (n i : ℕ) (r : Reach) → own_index (is_some d.parent) (count_of d) n ≡ Some i → IsFound d i longest_chain r → (is_deep d n ≡ false) × (r.align ≡ align (space_of d) n)
shallow d n i r own h =
    let short = true_within (value_edges (content d)) longest_chain i (IsWithin-more (value_edges (content d)) r.depth longest_chain i h.affordable h.reach.depth.within) in
    (ap (is_deep_from (content d)) own ∙ ap not short, named_is d n i r own h.reach)

pub deep : (d : Draft) (n i : ℕ) → own_index (is_some d.parent) (count_of d) n ≡ Some i → ¬ IsWithin (value_edges (content d)) longest_chain i → is_deep d n ≡ true
deep d n i own h = ap (is_deep_from (content d)) own ∙ at (within (value_edges (content d)) longest_chain i) refl
  where
    at : (b : Bool) → within (value_edges (content d)) longest_chain i ≡ b → not b ≡ true
    at true e = absurd (h (within_true (value_edges (content d)) longest_chain i e))
    at false e = refl

-- ---- plans

pub plan_of_deep : (d : Draft) (n tnum : ℕ) (offset : Option ℕ) → is_deep d tnum ≡ true → planned d n tnum offset ≡ Err (placeless 44)
unfolding planned
plan_of_deep d n tnum offset h = rw h refl

plan_of_shallow : (d : Draft) (n tnum : ℕ) (offset : Option ℕ) → is_deep d tnum ≡ false → planned d n tnum offset ≡ planned_shallow d n tnum offset
unfolding planned
plan_of_shallow d n tnum offset h = rw h refl

pub plan_ok : (d : Draft) (n tnum : ℕ) (offset : Option ℕ) (r : Result Plan Fault) → is_deep d tnum ≡ false → r ≡ planned_shallow d n tnum offset → IfOk r (λ p. planned d n tnum offset ≡ Ok p)
plan_ok d n tnum offset (Ok p) h e = plan_of_shallow d n tnum offset h ∙ sym e
plan_ok d n tnum offset (Err f) h e = tt

pub plan_err : (d : Draft) (n tnum : ℕ) (offset : Option ℕ) (r : Result Plan Fault) → is_deep d tnum ≡ false → r ≡ planned_shallow d n tnum offset → IfErr r (λ f. (f ≡ out_of_memory) ⊎ (planned d n tnum offset ≡ Err f))
plan_err d n tnum offset (Ok p) h e = tt
plan_err d n tnum offset (Err f) h e = inr (plan_of_shallow d n tnum offset h ∙ sym e)

-- ---- by bounds

-- a type with a known bound is not deep
pub bounded_shallow : (d : Draft) (x : Depths) → IsBounded d x → (n i : ℕ) → own_index (is_some d.parent) (count_of d) n ≡ Some i → bound x.bounds.items i ≤ 512 → is_deep d n ≡ false
bounded_shallow d x ok n i own low =
    let short = true_within (value_edges (content d)) longest_chain i (within_bound d x ok longest_chain i low (omega arith)) in
    ap (is_deep_from (content d)) own ∙ ap not short

pub found_shallow : (d : Draft) (n : ℕ) (found : Option (Result ℕ Fault)) → is_deep d n ≡ false → MatchOption found (Unit {0}) (λ a. a ≡ comes_to (aligning d.model) (parents_figure (aligning d.model) d.parent) (content d) 514 n) → MatchOption found (Unit {0}) (λ a. (is_deep d n ≡ false) × (a ≡ align (space_of d) n))
found_shallow d n None short h = tt
found_shallow d n (Some a) short h = (short, h ∙ ap (λ (k : ℕ). comes_to (aligning d.model) (parents_figure (aligning d.model) d.parent) (content d) k n) (sym most_is))
