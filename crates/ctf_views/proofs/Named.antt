-- The first member with a name: one step, and the end.
use Rattle.std.proofs.Common.{◌≡◌, ℕ, zero, suc, ◌+◌, ◌≤◌, Bool, true, false, List, [], ◌∷◌, length, drop, Some, None, refl, sym, ap, arith}
use Rattle.std.specs.Prelude.{slice_get, bytes_eq}
use Rattle.std.specs.Option.{option_map}
use Rattle.std.proofs.lemmas.List.{drop_all}
use Rattle.std.proofs.lemmas.Option.{same_Some}
use Rattle.ctf_model.specs.figures.Paths.{member_named}
use Rattle.ctf_model.specs.format.Term.{Member}

-- whether member `i` has the name
abbrev says : List ℕ → List Member → ℕ → Bool → Type 0
says name ms i b = Some b ≡ option_map (λ (m : Member). bytes_eq name m.name) (slice_get ms i)

pub named_here : (name : List ℕ) (ms : List Member) (i : ℕ) → says name ms i true → member_named name (drop i ms) ≡ slice_get ms i
named_here name [] i h = absurd cc
named_here name (m ∷ ms) zero h = rw (same_Some _ _ (sym h)) refl
named_here name (m ∷ ms) (suc i) h = named_here name ms i h

step_on : (name : List ℕ) (ms : List Member) (i : ℕ) → says name ms i false → member_named name (drop i ms) ≡ member_named name (drop (suc i) ms)
step_on name [] i h = absurd cc
step_on name (m ∷ ms) zero h = rw (same_Some _ _ (sym h)) refl
step_on name (m ∷ ms) (suc i) h = step_on name ms i h

pub named_later : (name : List ℕ) (ms : List Member) (i : ℕ) → says name ms i false → member_named name (drop (i + 1) ms) ≡ member_named name (drop i ms)
named_later name ms i h = let one : suc i ≡ i + 1 = omega arith in rw (← one) (sym (step_on name ms i h))

pub named_nowhere : (name : List ℕ) (ms : List Member) (i : ℕ) → length ms ≤ i → member_named name (drop i ms) ≡ None
named_nowhere name ms i le = ap (member_named name) (drop_all i ms le)
