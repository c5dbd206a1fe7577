-- Following typedefs and qualifiers, one number after another.
use Rattle.std.proofs.Common.{◌≡◌, ℕ, zero, suc, ◌+◌, ◌-◌, ◌<◌, Bool, true, false, cond, eqb, Option, Some, None, Result, Ok, Err, refl, ap, ◌∙◌, arith}
use Rattle.std.specs.Prelude.{slice_get, option_map}
use Rattle.std.proofs.lemmas.Option.{same_Some}
use Rattle.ctf_model.specs.format.Dictionary.{Dictionary}
use Rattle.ctf_model.specs.figures.Figures.{at_place, comes_to, most_numbers, of_found, parents_figure, referred_type, referred_by, resolved_type, resolved_body, resolving}
use Rattle.ctf_model.specs.format.Shown.{Shape, shape}
use Rattle.ctf_model.specs.spaces.Space.{Space, space_type}
use Rattle.ctf_model.specs.format.Term.{Body, Term}
use Rattle.ctf_model.specs.format.Term as term
use Rattle.ctf_model.specs.spaces.TypeNumbers.{no_parent, or_no_type, type_in}
use Rattle.ctf_model.specs.spaces.TypePlaces.{place}
use Rattle.ctf_model.specs.declared.faults.Fault.{Fault}
use Rattle.ctf_model.specs.declared.numbers.Place.{Place}
use Rattle.ctf_model.specs.declared.numbers.Place.TheVariants.{Nowhere, Own, Parents}
use Rattle.ctf_model.proofs.OwnTypes.{not_zero}
use Rattle.ctf_model.proofs.Settled.{most_is, of_parents}
use Rattle.ctf_layout.specs.Following.{at_parents, follow_own, onward, alias_target}

abbrev stays : ℕ → Result ℕ Fault
stays t = Ok t

-- what is left to follow after `step` numbers
abbrev pub left : Dictionary → ℕ → ℕ → Result ℕ Fault
left d step n = comes_to resolving (λ t. Ok t) d (most_numbers - step) n

-- the whole way
pub left_all : (d : Dictionary) (n : ℕ) → follow_own d n ≡ left d 0 n
left_all d n = ap (λ (k : ℕ). comes_to resolving (λ t. Ok t) d k n) whole
  where
    whole : most_numbers ≡ most_numbers - 0
    whole = omega arith

one_more : (step : ℕ) → step < 514 → most_numbers - step ≡ suc (most_numbers - (step + 1))
one_more step lt = omega (arith, most_is)

-- ---- one number

at_next : (d : Dictionary) (step n : ℕ) → step < 514 → left d step n ≡ comes_to resolving (λ t. Ok t) d (suc (most_numbers - (step + 1))) n
at_next d step n lt = ap (λ (k : ℕ). comes_to resolving (λ t. Ok t) d k n) (one_more step lt)

none_case : (d : Dictionary) (k n : ℕ) → n ≡ 0 → comes_to resolving (λ t. Ok t) d (suc k) n ≡ Ok n
unfolding comes_to
none_case d k n zero_is = rw zero_is refl

pub left_none : (d : Dictionary) (step n : ℕ) → step < 514 → n ≡ 0 → left d step n ≡ Ok n
left_none d step n lt is = at_next d step n lt ∙ none_case d (most_numbers - (step + 1)) n is

pub left_parents : (d : Dictionary) (step n i : ℕ) → step < 514 → place d.child n ≡ Parents i → left d step n ≡ Ok n
left_parents d step n i lt at = at_next d step n lt ∙ of_parents resolving (λ t. Ok t) d (most_numbers - (step + 1)) n i at

found_case : (s : Space) (k n : ℕ) → 0 < n → ((i : ℕ) → place s.own.child n ≡ Parents i → ⊥) → comes_to resolving (λ t. Ok t) s.own (suc k) n ≡ of_found resolving (comes_to resolving (λ t. Ok t) s.own k) n (space_type s n)
unfolding comes_to
found_case s k n some other = let positive = not_zero n some in at (place s.own.child n) refl positive
  where
    at : (p : Place) → place s.own.child n ≡ p → eqb n 0 ≡ false → cond (eqb n 0) (Ok 0) (at_place resolving (λ t. Ok t) (comes_to resolving (λ t. Ok t) s.own k) s.own n (place s.own.child n)) ≡ of_found resolving (comes_to resolving (λ t. Ok t) s.own k) n (type_in s.own s.parent (place s.own.child n))
    at Nowhere e z = rw (e, z) refl
    at (Own i) e z = rw (e, z) refl
    at (Parents i) e z = absurd (other i e)

pub left_found : (s : Space) (step n : ℕ) → step < 514 → 0 < n → ((i : ℕ) → place s.own.child n ≡ Parents i → ⊥) → left s.own step n ≡ of_found resolving (left s.own (step + 1)) n (space_type s n)
left_found s step n lt some other = at_next s.own step n lt ∙ found_case s (most_numbers - (step + 1)) n some other

-- the number that a typedef or qualifier leads to; other types lead to themselves
abbrev pub by_renamed : (ℕ → Result ℕ Fault) → ℕ → Option ℕ → Result ℕ Fault
by_renamed f n None = Ok n
by_renamed f n (Some t) = f t

pub renamed_says : (f : ℕ → Result ℕ Fault) (n : ℕ) (body : Body) → resolved_body f n body ≡ by_renamed f n (alias_target (shape body))
renamed_says f n (term.typedef t) = refl
renamed_says f n (term.volatile t) = refl
renamed_says f n (term.const t) = refl
renamed_says f n (term.restrict t) = refl
renamed_says f n (term.array e) = refl
renamed_says f n (term.integer x) = refl
renamed_says f n (term.float x) = refl
renamed_says f n (term.pointer t) = refl
renamed_says f n (term.function r ts) = refl
renamed_says f n (term.struct said ms) = refl
renamed_says f n (term.union said ms) = refl
renamed_says f n (term.enum said xs) = refl
renamed_says f n (term.forward t) = refl
renamed_says f n term.unknown = refl

-- the same for a looked-up type, by its shape
pub found_shape : (f : ℕ → Result ℕ Fault) (n : ℕ) (o : Option Term) (x : Shape) → option_map (λ y. shape y.body) o ≡ Some x → of_found resolving f n (or_no_type o) ≡ by_renamed f n (alias_target x)
found_shape f n None x e = absurd cc
found_shape f n (Some y) x e = renamed_says f n y.body ∙ ap (λ (z : Shape). by_renamed f n (alias_target z)) (same_Some _ _ e)

pub left_out : (d : Dictionary) (step n : ℕ) → step ≡ 514 → left d step n ≡ Err (record { code = 26; place = 0 })
unfolding comes_to
left_out d step n is = ap (λ (k : ℕ). comes_to resolving (λ t. Ok t) d k n) none
  where
    none : most_numbers - step ≡ 0
    none = omega (arith, most_is)

-- ---- continuing in the parent

body_onward : (parents : ℕ → Result ℕ Fault) (d : Dictionary) (k n i : ℕ) → place d.child n ≡ Own i → ((t : ℕ) → comes_to resolving parents d k t ≡ onward parents d (comes_to resolving (λ t. Ok t) d k t)) → (body : Body)
    → resolved_body (comes_to resolving parents d k) n body ≡ onward parents d (resolved_body (comes_to resolving (λ t. Ok t) d k) n body)
body_onward parents d k n i at same (term.typedef t) = same t
body_onward parents d k n i at same (term.volatile t) = same t
body_onward parents d k n i at same (term.const t) = same t
body_onward parents d k n i at same (term.restrict t) = same t
body_onward parents d k n i at same (term.array e) = rw at refl
body_onward parents d k n i at same (term.integer x) = rw at refl
body_onward parents d k n i at same (term.float x) = rw at refl
body_onward parents d k n i at same (term.pointer t) = rw at refl
body_onward parents d k n i at same (term.function r ts) = rw at refl
body_onward parents d k n i at same (term.struct said ms) = rw at refl
body_onward parents d k n i at same (term.union said ms) = rw at refl
body_onward parents d k n i at same (term.enum said xs) = rw at refl
body_onward parents d k n i at same (term.forward t) = rw at refl
body_onward parents d k n i at same term.unknown = rw at refl

onward_case : (parents : ℕ → Result ℕ Fault) (d : Dictionary) (k n : ℕ) → ((t : ℕ) → comes_to resolving parents d k t ≡ onward parents d (comes_to resolving (λ t. Ok t) d k t)) → (none : Bool) → eqb n 0 ≡ none → comes_to resolving parents d (suc k) n ≡ onward parents d (comes_to resolving (λ t. Ok t) d (suc k) n)
unfolding comes_to
onward_case parents d k n same true z = rw z refl
onward_case parents d k n same false z = at (place d.child n) refl
  where
    found : (i : ℕ) → place d.child n ≡ Own i → (o : Option Term) → of_found resolving (comes_to resolving parents d k) n (or_no_type o) ≡ onward parents d (of_found resolving (comes_to resolving (λ t. Ok t) d k) n (or_no_type o))
    found i e None = refl
    found i e (Some y) = body_onward parents d k n i e same y.body

    at : (p : Place) → place d.child n ≡ p → cond (eqb n 0) (Ok 0) (at_place resolving parents (comes_to resolving parents d k) d n (place d.child n)) ≡ onward parents d (cond (eqb n 0) (Ok 0) (at_place resolving (λ t. Ok t) (comes_to resolving (λ t. Ok t) d k) d n (place d.child n)))
    at Nowhere e = rw (e, z) refl
    at (Parents i) e = rw (e, z, e) refl
    at (Own i) e = rw (e, z) (found i e (slice_get d.terms i))

pub onward_is : (parents : ℕ → Result ℕ Fault) (d : Dictionary) (k n : ℕ) → comes_to resolving parents d k n ≡ onward parents d (comes_to resolving (λ t. Ok t) d k n)
unfolding comes_to
onward_is parents d zero n = refl
onward_is parents d (suc k) n = onward_case parents d k n (onward_is parents d k) (eqb n 0) refl

-- resolving a number means following it among own types, and a parent's number in the parent
pub resolved_is : (s : Space) (n : ℕ) → resolved_type s n ≡ onward (parents_figure resolving s.parent) s.own (follow_own s.own n)
resolved_is s n = onward_is (parents_figure resolving s.parent) s.own most_numbers n

-- without an imported parent, a parent's number cannot be resolved
pub resolved_alone : (s : Space) → s.parent ≡ None → (n : ℕ) → resolved_type s n ≡ onward (λ t. Err no_parent) s.own (follow_own s.own n)
resolved_alone s none n = resolved_is s n ∙ ap (λ (p : Option Dictionary). onward (parents_figure resolving p) s.own (follow_own s.own n)) none

pub onward_out : (parents : ℕ → Result ℕ Fault) (d : Dictionary) (n i : ℕ) → place d.child n ≡ Parents i → onward parents d (Ok n) ≡ parents n
onward_out parents d n i at = rw at refl

pub onward_stays : (parents : ℕ → Result ℕ Fault) (d : Dictionary) (n : ℕ) → ((i : ℕ) → place d.child n ≡ Parents i → ⊥) → onward parents d (Ok n) ≡ Ok n
onward_stays parents d n other = go (place d.child n) refl
  where
    go : (p : Place) → place d.child n ≡ p → at_parents parents n p ≡ Ok n
    go Nowhere e = refl
    go (Own i) e = refl
    go (Parents i) e = absurd (other i e)

-- ---- references

pub referred_shape : (o : Option Term) (x : Shape) → option_map (λ y. shape y.body) o ≡ Some x → referred_by (or_no_type o) ≡ referred_type x
referred_shape None x e = absurd cc
referred_shape (Some y) x e = ap referred_type (same_Some _ _ e)
