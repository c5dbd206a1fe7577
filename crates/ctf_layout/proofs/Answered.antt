-- The answer about an existing type is its figure, except for number 0.
use Rattle.std.proofs.Common.{◌≡◌, ℕ, suc, ◌<◌, Bool, false, cond, eqb, Option, Some, None, Result, Ok, Err, refl, sym, ap, ◌∙◌, arith}
use Rattle.std.specs.Option.{ForSome}
use Rattle.ctf_model.specs.figures.FigureLaws.{parent_alone}
use Rattle.ctf_model.specs.figures.Figures.{Figure, at_place, comes_to, figure_in, most_numbers, of_found, parents_figure}
use Rattle.ctf_model.specs.format.Dictionary.{Dictionary}
use Rattle.ctf_model.specs.format.Term.{Term}
use Rattle.ctf_model.specs.opened.Questions.{if_there}
use Rattle.ctf_model.specs.spaces.Space.{Space, space_type}
use Rattle.ctf_model.specs.spaces.TypeNumbers.{no_parent, type_in}
use Rattle.ctf_model.specs.spaces.TypePlaces.{place}
use Rattle.ctf_model.specs.declared.faults.Fault.{Fault}
use Rattle.ctf_model.specs.declared.numbers.Place.{Place}
use Rattle.ctf_model.specs.declared.numbers.Place.TheVariants.{Nowhere, Own, Parents}
use Rattle.ctf_model.proofs.OwnTypes.{not_zero, parents_place, place_of_own}
use Rattle.ctf_model.proofs.Settled.{figure_of_parents, most_is}

-- ---- a number that is not the parent's

found_step : (figure : Figure) (parents : ℕ → Result ℕ Fault) (s : Space) (k n : ℕ) → 0 < n → ((i : ℕ) → place s.own.child n ≡ Parents i → ⊥) → comes_to figure parents s.own (suc k) n ≡ of_found figure (comes_to figure parents s.own k) n (space_type s n)
unfolding comes_to
found_step figure parents s k n some other = let positive = not_zero n some in at (place s.own.child n) refl positive
  where
    at : (p : Place) → place s.own.child n ≡ p → eqb n 0 ≡ false → cond (eqb n 0) figure.of_none (at_place figure parents (comes_to figure parents s.own k) s.own n (place s.own.child n)) ≡ of_found figure (comes_to figure parents s.own k) n (type_in s.own s.parent (place s.own.child n))
    at Nowhere e z = rw (e, z) refl
    at (Own i) e z = rw (e, z) refl
    at (Parents i) e z = absurd (other i e)

refused_own : (figure : Figure) (parents : ℕ → Result ℕ Fault) (s : Space) (n : ℕ) (f : Fault) → 0 < n → ((i : ℕ) → place s.own.child n ≡ Parents i → ⊥) → space_type s n ≡ Err f → comes_to figure parents s.own most_numbers n ≡ Err f
refused_own figure parents s n f some other is =
    ap (λ (y : ℕ). comes_to figure parents s.own y n) most_is
    ∙ found_step figure parents s 513 n some other
    ∙ ap (of_found figure (comes_to figure parents s.own 513) n) is

-- ---- a parent's number

plain_place : (child : Bool) (n i : ℕ) → place child n ≡ Parents i → place false n ≡ Own i
plain_place child n i at = let number = parents_place child n i at in rw number (place_of_own false i)

refused_parents : (figure : Figure) (s : Space) (n i : ℕ) (f : Fault) → place s.own.child n ≡ Parents i → ForSome s.parent (λ p. p.child ≡ false) → (parent : Option Dictionary) → s.parent ≡ parent → type_in s.own parent (Parents i) ≡ Err f → parents_figure figure parent n ≡ Err f
refused_parents figure s n i f at plain None is refusal = let same : no_parent ≡ f = cc in ap Err same
refused_parents figure s n i f at plain (Some p) is refusal =
    let none = plain p is in
    let first : place p.child n ≡ Own i = rw none (plain_place s.own.child n i at) in
    let number = parents_place s.own.child n i at in
    refused_own figure (λ t. Err no_parent) (parent_alone s p) n f (omega arith)
    (λ j other. let clash : Own i ≡ Parents j = sym first ∙ other in absurd cc) (rw first refusal)

-- ---- any number

refused_at : (figure : Figure) (s : Space) (n : ℕ) (f : Fault) → 0 < n → ForSome s.parent (λ p. p.child ≡ false) → space_type s n ≡ Err f → (p : Place) → place s.own.child n ≡ p → figure_in figure s n ≡ Err f
refused_at figure s n f some plain is Nowhere e = refused_own figure (parents_figure figure s.parent) s n f some (λ i other. let clash : Nowhere ≡ Parents i = sym e ∙ other in absurd cc) is
refused_at figure s n f some plain is (Own j) e = refused_own figure (parents_figure figure s.parent) s n f some (λ i other. let clash : Own j ≡ Parents i = sym e ∙ other in absurd cc) is
refused_at figure s n f some plain is (Parents i) e = figure_of_parents figure s n i e ∙ refused_parents figure s n i f e plain s.parent refl (rw e at is)

pub answered : (figure : Figure) (s : Space) (n : ℕ) → 0 < n → ForSome s.parent (λ p. p.child ≡ false) → figure_in figure s n ≡ if_there (figure_in figure s n) (space_type s n)
answered figure s n some plain = go (space_type s n) refl
  where
    go : (r : Result Term Fault) → space_type s n ≡ r → figure_in figure s n ≡ if_there (figure_in figure s n) r
    go (Ok x) is = refl
    go (Err f) is = refused_at figure s n f some plain is (place s.own.child n) refl
