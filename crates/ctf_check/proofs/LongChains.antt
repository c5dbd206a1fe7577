-- The first type with a chain that is too long, as it is searched and as the rule states it.
use Rattle.std.proofs.Common.{◌≡◌, ℕ, ◌+◌, ◌<◌, Bool, List, length, Option, Some, None, Result, refl, sym, ap, subst, ◌∙◌, arith}
use Rattle.std.specs.List.{filter_map}
use Rattle.std.specs.Prelude.{IfSome}
use Rattle.std.specs.Option.{option_map}
use Rattle.std.proofs.lemmas.List.{length-map}
use Rattle.std.proofs.lemmas.Option.{same_Some}
use Rattle.ctf_model.proofs.ChainRules.{DeepFrom, deep_agrees}
use Rattle.ctf_model.proofs.FirstFault.{Agrees}
use Rattle.ctf_model.specs.rules.Chains.{edges, own_index, longest_chain}
use Rattle.ctf_model.specs.declared.faults.Fault.{Fault}
use Rattle.ctf_model.specs.rules.Faults.{first_deep, walk_fault}
use Rattle.ctf_model.specs.format.Name.{Tables}
use Rattle.ctf_model.specs.format.Section.{Piece, terms_in}
use Rattle.ctf_model.specs.format.Term.{Body, Term}
use Rattle.ctf_chains.specs.Deep.{IsLeastDeep, IsLeastDeepType}
use Rattle.ctf_chains.specs.Steps.{AreSpelled, steps}
use Rattle.ctf_chains.specs.declared.chain.Chain.{Chain}
use Rattle.ctf_check.specs.Stages.{chain_place}
use Rattle.ctf_check.proofs.Terms.{each_spelled, terms_length}

-- the least deep type, counted from 1, is the rule's place
deep_place : (es : List (List ℕ)) (r : Option ℕ) (found : Option ℕ) → Agrees r (DeepFrom es 0 (length es)) → IsLeastDeep es longest_chain found → r ≡ option_map (λ i. i + 1) found
deep_place es None None h d = refl
deep_place es None (Some i) h d = let inside = d.inside in absurd (h (i + 1) (i, omega arith, omega arith, d.deep, refl))
deep_place es (Some p) None h d = let high = h.0.2 in absurd (h.0.3 (d.each h.0.0 (omega arith)))
deep_place es (Some p) (Some i) h d = ap (λ (n : ℕ). Some n) same
  where
    not_less : h.0.0 < i → ⊥
    not_less lt = h.0.3 (d.before.each h.0.0 lt)

    not_more : i + 1 < p → ⊥
    not_more lt = let inside = d.inside in h.1 (i + 1) lt (i, omega arith, omega arith, d.deep, refl)

    same : p ≡ i + 1
    same = let is = h.0.4 in omega (arith, not_less, not_more)

-- the graph of steps has as many types
edges_length : (step : Body → List ℕ) (child : Bool) (xs : List Term) → length (edges step child xs) ≡ length xs
unfolding edges
edges_length step child xs = length-map xs (λ (x : Term). filter_map (own_index child (length xs)) (step x.body))

-- the type found is at the rule's place
pub found_place : (chain : Chain) (child : Bool) (t : Tables) (xs : List (Result Piece Fault)) (o found : Option ℕ) → o ≡ found → walk_fault xs ≡ None → IsLeastDeepType chain child xs o → AreSpelled t xs → chain_place chain t child xs ≡ option_map (λ i. i + 1) found
found_place chain child t xs o found same whole least spelled =
    let es = edges (steps chain) child (terms_in t xs) in
    let all = each_spelled t xs whole spelled in
    let len : length es ≡ length xs = edges_length (steps chain) child (terms_in t xs) ∙ terms_length t xs all in
    let d = subst (IsLeastDeep es longest_chain) same (least t spelled) in
    ap (λ (n : ℕ). first_deep es 0 n) (sym len) ∙ deep_place es (first_deep es 0 (length es)) found (deep_agrees es 0 (length es)) d

-- the place is that of a record
pub found_inside : (o : Option ℕ) (i n : ℕ) → o ≡ Some i → IfSome o (λ j. j < n) → i < n
found_inside None i n e h = absurd cc
found_inside (Some j) i n e h = let same : j ≡ i = same_Some j i e in subst (λ (k : ℕ). k < n) same h
