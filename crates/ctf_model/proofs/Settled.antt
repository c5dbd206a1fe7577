-- The figure of a number does not depend on the bound, once that is large enough.
use Rattle.std.proofs.Common.{◌≡◌, ℕ, zero, suc, ◌+◌, ◌≤◌, ◌<◌, Bool, true, false, cond, eqb, List, [], ◌∷◌, length, Option, Some, None, Result, Err, refl, sym, ap, subst, ◌∙◌, arith}
use Rattle.std.specs.Prelude.{slice_get, slice_index_or, MatchOption}
use Rattle.std.specs.List.{AllByRecursion, filter_map}
use Rattle.std.proofs.lemmas.Option.{slice_get-get_or, get_or_from_slice_get, slice_get_within}
use Rattle.ctf_model.specs.rules.Chains.{IsWithin, by_value, longest_chain, own_index}
use Rattle.ctf_model.specs.format.Dictionary.{Dictionary}
use Rattle.ctf_model.specs.figures.FigureLaws.{AsksByValue, HasBoundedValues, ParentsFiguresAreTheirOwn, value_edges, nothing, own_body}
use Rattle.ctf_model.specs.figures.Figures.{Figure, of_found, at_place, comes_to, most_numbers, parents_figure, figure_in}
use Rattle.ctf_model.specs.spaces.Space.{Space}
use Rattle.ctf_model.specs.format.Term.{Term, Body}
use Rattle.ctf_model.specs.spaces.TypeNumbers.{no_type, or_no_type}
use Rattle.ctf_model.specs.spaces.TypePlaces.{own_number, place}
use Rattle.ctf_model.specs.declared.faults.Fault.{Fault}
use Rattle.ctf_model.specs.declared.numbers.Place.{Place}
use Rattle.ctf_model.specs.declared.numbers.Place.TheVariants.{Nowhere, Own, Parents}
use Rattle.ctf_model.proofs.OwnTypes.{each_own, targets_are, own_of, not_zero, place_of_own}

-- ---- where chains end

-- fewer than `k` own types follow one another from `j` on, `j` included
abbrev pub Ends : List (List ℕ) → ℕ → ℕ → Type 0
Ends es zero j = ⊥
Ends es (suc k) j = IsWithin es k j

-- the same for a number, which may name no own type
abbrev pub EndsAt : Dictionary → ℕ → ℕ → Type 0
EndsAt d k n = MatchOption (own_index d.child (length d.terms) n) (Unit {0}) (Ends (value_edges d) k)

pub all_map : (P Q : ℕ → Type 0) → ((t : ℕ) → P t → Q t) → (ts : List ℕ) → AllByRecursion P ts → AllByRecursion Q ts
all_map P Q h [] a = tt
all_map P Q h (t ∷ ts) a = (h t a.0, all_map P Q h ts a.1)

-- from the types that an own type leads to, one fewer follow
pub asked_end : (d : Dictionary) (k i : ℕ) → IsWithin (value_edges d) k i → AllByRecursion (EndsAt d k) (by_value (own_body d i))
unfolding IsWithin
asked_end d zero i w =
    let P : ℕ → Type 0 = λ j. ⊥ in
    let none : [] ≡ filter_map (own_index d.child (length d.terms)) (by_value (own_body d i)) = sym w ∙ targets_are d i in
    each_own P (own_index d.child (length d.terms)) (by_value (own_body d i)) (subst (AllByRecursion P) none tt) (EndsAt d zero) (λ t h. h)
asked_end d (suc k) i w =
    each_own (IsWithin (value_edges d) k) (own_index d.child (length d.terms)) (by_value (own_body d i)) (subst (AllByRecursion (IsWithin (value_edges d) k)) (targets_are d i) w) (EndsAt d (suc k)) (λ t h. h)

-- ---- enough numbers

-- an existing own type with its number and index
pub record Stands (d : Dictionary) (n i : ℕ) (z : Term) : Type 0 where
  pub there : place d.child n ≡ Own i
  pub got : slice_get d.terms i ≡ Some z

settle_case : (figure : Figure) → AsksByValue figure → (parents : ℕ → Result ℕ Fault) (d : Dictionary) (n x y : ℕ)
    → ((i : ℕ) (z : Term) → Stands d n i z → AllByRecursion (λ t. comes_to figure parents d x t ≡ comes_to figure parents d y t) (by_value z.body))
    → comes_to figure parents d (suc x) n ≡ comes_to figure parents d (suc y) n
unfolding comes_to
settle_case figure asks parents d n x y h = ap (λ (r : Result ℕ Fault). cond (eqb n 0) figure.of_none r) (at (place d.child n) refl)
  where
    found : (i : ℕ) → place d.child n ≡ Own i → (o : Option Term) → slice_get d.terms i ≡ o → of_found figure (comes_to figure parents d x) n (or_no_type o) ≡ of_found figure (comes_to figure parents d y) n (or_no_type o)
    found i e None f = refl
    found i e (Some z) f = asks.same (comes_to figure parents d x) (comes_to figure parents d y) n z.body (h i z (record { there = e; got = f }))

    at : (p : Place) → place d.child n ≡ p → at_place figure parents (comes_to figure parents d x) d n p ≡ at_place figure parents (comes_to figure parents d y) d n p
    at Nowhere e = refl
    at (Parents i) e = refl
    at (Own i) e = found i e (slice_get d.terms i) refl

pub stands_inside : (d : Dictionary) (n i : ℕ) (z : Term) → Stands d n i z → own_index d.child (length d.terms) n ≡ Some i
stands_inside d n i z s = own_of d.child (length d.terms) n i s.there (slice_get_within d.terms i z s.got)

pub body_is : (d : Dictionary) (n i : ℕ) (z : Term) → Stands d n i z → own_body d i ≡ z.body
body_is d n i z s = ap (λ (x : Term). x.body) (get_or_from_slice_get d.terms i z nothing s.got)

pub settle : (figure : Figure) → AsksByValue figure → (parents : ℕ → Result ℕ Fault) (d : Dictionary) (k n x y : ℕ) → EndsAt d k n → k + 1 ≤ x → k + 1 ≤ y → comes_to figure parents d x n ≡ comes_to figure parents d y n
settle figure asks parents d k n zero y ends lx ly = absurd (omega arith)
settle figure asks parents d k n (suc x) zero ends lx ly = absurd (omega arith)
settle figure asks parents d zero n (suc x) (suc y) ends lx ly =
    settle_case figure asks parents d n x y (λ i z s. let is = stands_inside d n i z s in absurd (rw is at ends))
settle figure asks parents d (suc k) n (suc x) (suc y) ends lx ly =
    settle_case figure asks parents d n x y
    (λ i z s.
    let is = stands_inside d n i z s in
    let within : IsWithin (value_edges d) k i = rw is at ends in
    let P : Body → Type 0 = λ body. AllByRecursion (λ t. comes_to figure parents d x t ≡ comes_to figure parents d y t) (by_value body) in
    subst P (body_is d n i z s)
    (all_map (EndsAt d k) (λ t. comes_to figure parents d x t ≡ comes_to figure parents d y t)
    (λ t h. settle figure asks parents d k t x y h (omega arith) (omega arith))
    (by_value (own_body d i)) (asked_end d k i within)))

-- ---- own types

own_step : (figure : Figure) (parents : ℕ → Result ℕ Fault) (d : Dictionary) (x i : ℕ) → i < length d.terms → comes_to figure parents d (suc x) (own_number d.child i) ≡ figure.of_type (comes_to figure parents d x) (own_number d.child i) (own_body d i)
unfolding comes_to
own_step figure parents d x i lt =
    let some : 0 < own_number d.child i = number_some d.child i in
    let positive = not_zero (own_number d.child i) some in
    let here = place_of_own d.child i in
    let got : slice_get d.terms i ≡ Some (slice_index_or d.terms i nothing) = slice_get-get_or d.terms i nothing lt in
    rw (here, positive, got) refl
  where
    number_some : (child : Bool) (i : ℕ) → 0 < own_number child i
    number_some true i = omega arith
    number_some false i = omega arith

own_rule : (figure : Figure) → AsksByValue figure → (parents : ℕ → Result ℕ Fault) (d : Dictionary) (k x m i : ℕ) → m ≡ suc x → k + 1 ≤ x → i < length d.terms → IsWithin (value_edges d) k i → comes_to figure parents d m (own_number d.child i) ≡ figure.of_type (comes_to figure parents d m) (own_number d.child i) (own_body d i)
own_rule figure asks parents d k x m i is le lt w =
    ap (λ (y : ℕ). comes_to figure parents d y (own_number d.child i)) is
    ∙ own_step figure parents d x i lt
    ∙ asks.same (comes_to figure parents d x) (comes_to figure parents d m) (own_number d.child i) (own_body d i)
    (all_map (EndsAt d k) (λ t. comes_to figure parents d x t ≡ comes_to figure parents d m t) (λ t h. settle figure asks parents d k t x m h le (omega arith)) (by_value (own_body d i)) (asked_end d k i w))

pub most_is : most_numbers ≡ suc 513
unfolding most_numbers
most_is = refl

-- the figure of an own type follows its rule
pub own_figure : (figure : Figure) → AsksByValue figure → (s : Space) (k i : ℕ) → k ≤ longest_chain → i < length s.own.terms → IsWithin (value_edges s.own) k i → figure_in figure s (own_number s.own.child i) ≡ figure.of_type (figure_in figure s) (own_number s.own.child i) (own_body s.own i)
own_figure figure asks s k i le lt w = own_rule figure asks (parents_figure figure s.parent) s.own k 513 most_numbers i most_is (omega arith) lt w

pub own_figures : (figure : Figure) → AsksByValue figure → (s : Space) → HasBoundedValues s.own → (i : ℕ) → i < length s.own.terms → figure_in figure s (own_number s.own.child i) ≡ figure.of_type (figure_in figure s) (own_number s.own.child i) (own_body s.own i)
own_figures figure asks s bounded i lt = own_figure figure asks s longest_chain i (omega arith) lt (bounded.each i lt)

-- ---- numbers that name no type

none_step : (figure : Figure) (parents : ℕ → Result ℕ Fault) (d : Dictionary) (x : ℕ) → comes_to figure parents d (suc x) 0 ≡ figure.of_none
unfolding comes_to
none_step figure parents d x = refl

-- number 0
pub figure_of_none : (figure : Figure) (s : Space) → figure_in figure s 0 ≡ figure.of_none
figure_of_none figure s = ap (λ (y : ℕ). comes_to figure (parents_figure figure s.parent) s.own y 0) most_is ∙ none_step figure (parents_figure figure s.parent) s.own 513

-- a number without a type
record IsMissing (d : Dictionary) (n : ℕ) : Type 0 where
  pub some : 0 < n
  pub not_parents : (i : ℕ) → place d.child n ≡ Parents i → ⊥
  pub not_own : own_index d.child (length d.terms) n ≡ None

missing_step : (figure : Figure) (parents : ℕ → Result ℕ Fault) (d : Dictionary) (x n : ℕ) → IsMissing d n → comes_to figure parents d (suc x) n ≡ Err no_type
unfolding comes_to
missing_step figure parents d x n h = let positive = not_zero n h.some in at (place d.child n) refl positive
  where
    past : (i : ℕ) → place d.child n ≡ Own i → (o : Option Term) → slice_get d.terms i ≡ o → of_found figure (comes_to figure parents d x) n (or_no_type o) ≡ Err no_type
    past i e None f = refl
    past i e (Some z) f = let own = own_of d.child (length d.terms) n i e (slice_get_within d.terms i z f) in let none = h.not_own in absurd cc

    at : (p : Place) → place d.child n ≡ p → eqb n 0 ≡ false → cond (eqb n 0) figure.of_none (at_place figure parents (comes_to figure parents d x) d n (place d.child n)) ≡ Err no_type
    at Nowhere e z = rw (e, z) refl
    at (Parents i) e z = absurd (h.not_parents i e)
    at (Own i) e z = rw (e, z) (past i e (slice_get d.terms i) refl)

pub figure_of_missing : (figure : Figure) (s : Space) (n : ℕ) → 0 < n → ((i : ℕ) → place s.own.child n ≡ Parents i → ⊥) → own_index s.own.child (length s.own.terms) n ≡ None → figure_in figure s n ≡ Err no_type
figure_of_missing figure s n some not_parents not_own =
    ap (λ (y : ℕ). comes_to figure (parents_figure figure s.parent) s.own y n) most_is
    ∙ missing_step figure (parents_figure figure s.parent) s.own 513 n (record { some = some; not_parents = not_parents; not_own = not_own })

-- ---- a parent's types

-- the figure of a parent's number is computed in the parent
pub of_parents : (figure : Figure) (parents : ℕ → Result ℕ Fault) (d : Dictionary) (x n i : ℕ) → place d.child n ≡ Parents i → comes_to figure parents d (suc x) n ≡ parents n
unfolding comes_to
of_parents figure parents d x n i e = at (eqb n 0) refl
  where
    at : (b : Bool) → eqb n 0 ≡ b → cond b figure.of_none (at_place figure parents (comes_to figure parents d x) d n (place d.child n)) ≡ parents n
    at true z = let no_place : place d.child n ≡ Nowhere = rw z refl in absurd cc
    at false z = rw e refl

pub figure_of_parents : (figure : Figure) (s : Space) (n i : ℕ) → place s.own.child n ≡ Parents i → figure_in figure s n ≡ parents_figure figure s.parent n
figure_of_parents figure s n i e = ap (λ (y : ℕ). comes_to figure (parents_figure figure s.parent) s.own y n) most_is ∙ of_parents figure (parents_figure figure s.parent) s.own 513 n i e

-- a parent's type has the same figure in the parent alone
pub parents_own : ParentsFiguresAreTheirOwn
parents_own figure s parent is n i e = figure_of_parents figure s n i e ∙ ap (λ (p : Option Dictionary). parents_figure figure p n) is
