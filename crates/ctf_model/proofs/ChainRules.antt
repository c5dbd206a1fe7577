-- The rules of chains agree with their facts.
use Rattle.std.proofs.Common.{◌≡◌, ℕ, zero, suc, ◌+◌, ◌<◌, ◌≤◌, Bool, true, false, cond, eqb, List, [], ◌∷◌, length, Option, Some, None, refl, sym, subst, arith}
use Rattle.std.specs.List.{list_all, AllByRecursion}
use Rattle.std.proofs.lemmas.Bool.{eqb-true, eqb-false, false_from_ne_true, and_parts}
use Rattle.std.proofs.lemmas.List.{nil_from_length}
use Rattle.ctf_model.specs.rules.Chains.{by_value, declarator, edges, targets, IsWithin, BeginsChain, within, longest_chain}
use Rattle.ctf_model.specs.declared.sections.Section.TheVariants.{STypes}
use Rattle.ctf_model.specs.rules.Faults.{types, first_deep, edges_by, value_deep, decl_deep}
use Rattle.ctf_model.specs.format.Header.{fields, is_child, section}
use Rattle.ctf_model.specs.format.Lists.{Lists, tables}
use Rattle.ctf_model.specs.rules.Rules.{IsBroken, IsDeepBy, Keeps}
use Rattle.ctf_model.specs.format.Section.{terms_in}
use Rattle.ctf_model.specs.format.Term.{Body, Term}
use Rattle.ctf_model.specs.spaces.TypePlaces.{place}
use Rattle.ctf_model.proofs.ChainSteps.{chain_begins, chain_past, chain_inside}
use Rattle.ctf_model.proofs.FirstFault.{Agrees, agrees_as}
use Rattle.ctf_model.proofs.SpelledSection.{section_spelled}
use Rattle.ctf_model.proofs.Unique.{one_list}

-- ---- one type

-- every item passes the test, so the fact holds of each
all_from : (test : ℕ → Bool) (P : ℕ → Type 0) → ((j : ℕ) → test j ≡ true → P j) → (xs : List ℕ) → list_all test xs ≡ true → AllByRecursion P xs
all_from test P h [] e = tt
all_from test P h (x ∷ xs) e = let both = and_parts (test x) (list_all test xs) e in (h x both.0, all_from test P h xs both.1)

-- the fact holds of every item, so each passes the test
from_all : (test : ℕ → Bool) (P : ℕ → Type 0) → ((j : ℕ) → P j → test j ≡ true) → (xs : List ℕ) → AllByRecursion P xs → list_all test xs ≡ true
from_all test P h [] a = refl
from_all test P h (x ∷ xs) a = let first = h x a.0 in rw first (from_all test P h xs a.1)

pub within_true : (es : List (List ℕ)) (k i : ℕ) → within es k i ≡ true → IsWithin es k i
unfolding within IsWithin
within_true es zero i e = nil_from_length (targets es i) (eqb-true (length (targets es i)) 0 e)
within_true es (suc k) i e = all_from (within es k) (IsWithin es k) (within_true es k) (targets es i) e

true_within : (es : List (List ℕ)) (k i : ℕ) → IsWithin es k i → within es k i ≡ true
unfolding within IsWithin
true_within es zero i h = rw h refl
true_within es (suc k) i h = from_all (within es k) (IsWithin es k) (true_within es k) (targets es i) h

-- if the fact fails, so does the test
deep_false : (es : List (List ℕ)) (k i : ℕ) → ¬ IsWithin es k i → within es k i ≡ false
deep_false es k i deep = false_from_ne_true (within es k i) (λ e. deep (within_true es k i e))

-- ---- the types in order

-- type number `place`, among `n` types from index `i` on, begins a chain that is too long
abbrev pub DeepFrom : List (List ℕ) → ℕ → ℕ → ℕ → Type 0
DeepFrom es i n place = (j : ℕ) × (i ≤ j) × (j < i + n) × (¬ IsWithin es longest_chain j) × (place ≡ j + 1)

pub deep_agrees : (es : List (List ℕ)) (i n : ℕ) → Agrees (first_deep es i n) (DeepFrom es i n)
unfolding first_deep
deep_agrees es i zero = λ p h. let low = h.1 in let high = h.2 in absurd (omega arith)
deep_agrees es i (suc n) = at (within es longest_chain i) refl (first_deep es (i + 1) n) (deep_agrees es (i + 1) n)
  where
    later_only : (p : ℕ) → within es longest_chain i ≡ true → DeepFrom es i (suc n) p → DeepFrom es (i + 1) n p
    later_only p e h = go (eqb h.0 i) refl
      where
        go : (b : Bool) → eqb h.0 i ≡ b → DeepFrom es (i + 1) n p
        go true same = let is : h.0 ≡ i = eqb-true h.0 i same in absurd (h.3 (subst (IsWithin es longest_chain) (sym is) (within_true es longest_chain i e)))
        go false other = let low = h.1 in let high = h.2 in let later = eqb-false h.0 i other in (h.0, omega (arith, later), omega arith, h.3, h.4)

    at : (b : Bool) → within es longest_chain i ≡ b → (later : Option ℕ) → Agrees later (DeepFrom es (i + 1) n) → Agrees (cond b later (Some (i + 1))) (DeepFrom es i (suc n))
    at false e later h = ((i, omega arith, omega arith, λ w. let hit = true_within es longest_chain i w in absurd cc, refl), λ q lt a. let low = a.1 in let is = a.4 in absurd (omega arith))
    at true e None h = λ p a. h p (later_only p e a)
    at true e (Some p) h = let low = h.0.1 in let high = h.0.2 in ((h.0.0, omega arith, omega arith, h.0.3, h.0.4), λ q lt a. h.1 q lt (later_only q e a))

-- ---- the rules

-- if the earlier rules are kept, a rule of chains agrees with its fact
whole_agrees : (steps : Body → List ℕ) (s : Lists) (n : ℕ) → 14 < n → Keeps s n → Agrees (first_deep (edges_by steps s) 0 (length (types s.ctf))) (IsDeepBy steps s)
unfolding edges_by
whole_agrees steps s n lt keeps = agrees_as _ (DeepFrom es 0 (length (types s.ctf))) (IsDeepBy steps s) to from (deep_agrees es 0 (length (types s.ctf)))
  where
    all : List Term
    all = terms_in (tables s) (types s.ctf)

    es : List (List ℕ)
    es = edges steps (is_child (fields s.ctf)) all

    to : (p : ℕ) → DeepFrom es 0 (length (types s.ctf)) p → IsDeepBy steps s p
    to p h = (all, (section_spelled s n lt keeps).0, h.0, chain_begins steps (is_child (fields s.ctf)) all longest_chain h.0 (deep_false es longest_chain h.0 h.3), h.4)

    from : (p : ℕ) → IsDeepBy steps s p → DeepFrom es 0 (length (types s.ctf)) p
    from p h =
        let spelled = section_spelled s n lt keeps in
        let same : h.0 ≡ all = one_list (tables s) (section s.ctf STypes) (section s.ctf STypes) h.0 all refl h.1 spelled.0 in
        let chain = subst (λ (xs : List Term). BeginsChain steps (is_child (fields s.ctf)) xs (suc longest_chain) h.2) same h.3 in
        let inside = chain_inside steps (is_child (fields s.ctf)) all longest_chain h.2 chain in
        (h.2, omega arith, omega (arith, spelled.1), chain_past steps (is_child (fields s.ctf)) all longest_chain h.2 chain, h.4)

pub value_deep_agrees : (s : Lists) → Keeps s 15 → Agrees (value_deep s) (IsBroken s 15)
value_deep_agrees s keeps = whole_agrees by_value s 15 (omega arith) keeps

pub decl_deep_agrees : (s : Lists) → Keeps s 16 → Agrees (decl_deep s) (IsBroken s 16)
decl_deep_agrees s keeps = whole_agrees declarator s 16 (omega arith) keeps
