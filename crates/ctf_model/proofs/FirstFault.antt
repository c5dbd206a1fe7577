-- A table of computed rules finds the least rule whose fact holds, at its least place.
use Rattle.std.proofs.Common.{◌≡◌, ℕ, ◌+◌, ◌<◌, ◌≤◌, Bool, true, false, List, [], ◌∷◌, length, Option, Some, None, refl, subst, arith, below_more, ⊎_elim}
use Rattle.std.specs.Prelude.{MatchOption}
use Rattle.std.specs.Bool.{Decides}
use Rattle.std.proofs.Math.ListN.{get_or-eq_default}
use Rattle.std.proofs.lemmas.Bool.{cases_lt, false≢true}
use Rattle.std.proofs.lemmas.Option.{same_Some}
use Rattle.ctf_model.specs.rules.Faults.{if_broken, first_broken, or_later}
use Rattle.ctf_model.specs.format.Laws.{KeepsEveryRule}
use Rattle.ctf_model.specs.format.Lists.{Lists}
use Rattle.ctf_model.specs.rules.Rules.{IsBroken, Keeps, IsFirstFault, Never, rules_by_number}
use Rattle.ctf_model.specs.declared.faults.Fault.{Fault}

-- ---- one rule

-- if nothing is computed, the fact holds nowhere; otherwise the computed place is the least where
-- it holds
abbrev pub Agrees : Option ℕ → (ℕ → Type 0) → Type 0
Agrees here Fact = MatchOption here ((p : ℕ) → Fact p → ⊥) (λ p. Fact p × ((q : ℕ) → q < p → Fact q → ⊥))

-- a rule also agrees with an equivalent fact
pub agrees_as : (here : Option ℕ) (Fact Other : ℕ → Type 0) → ((p : ℕ) → Fact p → Other p) → ((p : ℕ) → Other p → Fact p) → Agrees here Fact → Agrees here Other
agrees_as None Fact Other to from h = λ p f. h p (from p f)
agrees_as (Some p) Fact Other to from h = (to p h.0, λ q lt f. h.1 q lt (from q f))

-- the fact holds exactly at the computed place
abbrev pub IsExactly : Option ℕ → (ℕ → Type 0) → Type 0
IsExactly here Fact = ((p : ℕ) → Fact p → here ≡ Some p) × ((p : ℕ) → here ≡ Some p → Fact p)

-- a place that is exact is the least
pub exact_agrees : (here : Option ℕ) (Fact : ℕ → Type 0) → IsExactly here Fact → Agrees here Fact
exact_agrees None Fact h = λ p f. let e = h.0 p f in absurd cc
exact_agrees (Some p) Fact h = (h.1 p refl, λ q lt f. let e = same_Some p q (h.0 q f) in absurd (omega arith))

-- a rule without a place agrees with the fact that its test decides
pub test_agrees : (b : Bool) (P : Type 0) → Decides b P → Agrees (if_broken b) (λ p. (p ≡ 0) × P)
test_agrees true P d = ((refl, d.0 refl), λ q lt f. absurd (omega arith))
test_agrees false P d = λ p f. absurd (false≢true (d.1 f.1))

-- ---- all of them

-- if this rule is kept as well, all rules up to it are kept
pub keeps_next : (s : Lists) (n : ℕ) → Keeps s n → ((place : ℕ) → IsBroken s n place → ⊥) → Keeps s (n + 1)
keeps_next s n keeps here = below_more (λ rule. (place : ℕ) → IsBroken s rule place → ⊥) n keeps here

-- each rule agrees with its fact if the earlier ones are kept
abbrev pub AllAgree : Lists → ℕ → List (Lists → Option ℕ) → Type 0
AllAgree s n [] = Unit {0}
AllAgree s n (rule ∷ more) = (Keeps s n → Agrees (rule s) (IsBroken s n)) × AllAgree s (n + 1) more

-- there is a first fault, or every rule is kept
abbrev Judged : Lists → Option Fault → Type 0
Judged s fault = MatchOption fault (Keeps s 20) (IsFirstFault s)

-- a broken rule is the first fault; a kept one passes on to the later ones
judge : (s : Lists) (n : ℕ) (here : Option ℕ) (later : Option Fault) → Keeps s n → Agrees here (IsBroken s n) → (Keeps s (n + 1) → Judged s later) → Judged s (or_later n here later)
judge s n None later keeps agrees rest = rest (keeps_next s n keeps agrees)
judge s n (Some p) later keeps agrees rest = record { broken = agrees.0; earlier = keeps; least = agrees.1 }

-- the first rule that computes a place is the first fault
pub first_from : (s : Lists) (table : List (Lists → Option ℕ)) (n : ℕ) → n + length table ≡ 20 → Keeps s n → AllAgree s n table → Judged s (first_broken n table s)
first_from s [] n len keeps all = let e : n ≡ 20 = omega arith in subst (λ (m : ℕ). Keeps s m) e keeps
first_from s (rule ∷ more) n len keeps all = judge s n (rule s) (first_broken (n + 1) more s) keeps (all.0 keeps) (λ k. first_from s more (n + 1) (omega arith) k all.1)

-- rule 0 is never broken
pub keeps_none : (s : Lists) → Keeps s 1
keeps_none s = keeps_next s 0 (λ rule lt. absurd (omega arith)) (λ place broken. broken)

-- no rule has a number beyond the last
past_all : (s : Lists) (rule place : ℕ) → 20 ≤ rule → IsBroken s rule place → ⊥
past_all s rule place le broken = subst (λ (F : Lists → ℕ → Type 0). F s place) (get_or-eq_default rules_by_number Never {n = rule} le) broken

-- there are no rules beyond the last
pub keeps_every : (s : Lists) → Keeps s 20 → KeepsEveryRule s
keeps_every s keeps rule place broken = ⊎_elim (λ lt. keeps rule lt place broken) (λ le. past_all s rule place le broken) (cases_lt rule 20)
