-- Enumerators by value. Source: ours.
use Rattle.std.specs.Prelude.{◌≡◌, ℕ, ℤ, suc, List, [], ◌∷◌, Option, Some, None, Result, Ok, Err, if◌then◌else◌}
use Rattle.std.specs.BTreeMap.{BTreeMap, get}
use Rattle.std.specs.Ordering.{int_cmp, int_eq, nat_cmp}
use Rattle.ctf_model.specs.declared.faults.Fault.{Fault}
use Rattle.ctf_model.specs.format.Shown.{shape}
use Rattle.ctf_model.specs.format.Term.{Enumerator, Term}
use Rattle.ctf_model.specs.spaces.Space.{Space, space_type}
use Rattle.ctf_print.specs.ShowRules.{ShowRule, enum, rule_in, not_shown}
use Rattle.ctf_print.specs.declared.places.FirstByValue.{FirstByValue}

-- the index of the first enumerator with this value; the list is counted from `i`
unfoldable pub first_with : ℤ → ℕ → List Enumerator → Option ℕ
first_with value i [] = None
first_with value i (e ∷ es) = if int_eq e.value value then Some i else first_with value (suc i) es

-- each value maps to its first enumerator
unfoldable pub AreFirstByValue : List Enumerator → FirstByValue → Type 0
AreFirstByValue es p = (value : ℤ) → get int_cmp p.first value ≡ first_with value 0 es

-- the rule by which a looked-up type is formatted
abbrev pub rule_of_result : Result Term Fault → ShowRule
rule_of_result (Ok x) = rule_in (shape x.body)
rule_of_result (Err fault) = not_shown

unfoldable pub shown_how : Space → ℕ → ShowRule
shown_how s n = rule_of_result (space_type s n)

abbrev pub enumerators_of : ShowRule → Option (List Enumerator)
enumerators_of (enum said es) = Some es
enumerators_of _ = None

-- the stored maps of enums are correct
unfoldable pub AreKept : Space → BTreeMap ℕ (Option FirstByValue) → Type 0
AreKept s m =
    (q : ℕ) (p : FirstByValue) → get nat_cmp m q ≡ Some (Some p) → (es : List Enumerator)
    → enumerators_of (shown_how s q) ≡ Some es → AreFirstByValue es p

-- `place` is the first enumerator with this value, if type `n` is an enum
unfoldable pub IsFirstOf : Space → ℕ → ℤ → Option ℕ → Type 0
IsFirstOf s n value place =
    (es : List Enumerator) → enumerators_of (shown_how s n) ≡ Some es
    → place ≡ first_with value 0 es
