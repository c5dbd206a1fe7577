-- The figure of a number follows its rule, also over a parent, and so does each step of a path.
use Rattle.std.proofs.Common.{◌≡◌, ℕ, zero, suc, ◌+◌, ◌-◌, ◌<◌, Bool, true, false, cond, eqb, List, Option, Some, None, Result, Ok, Err, refl, sym, ap, ◌∙◌, arith}
use Rattle.std.specs.Prelude.{slice_get}
use Rattle.std.specs.List.{AllByRecursion}
use Rattle.ctf_model.specs.rules.ChainLaws.{HasShortChains, HasShortChainsIn, IsShortParent}
use Rattle.ctf_model.specs.rules.Chains.{by_value}
use Rattle.ctf_model.specs.format.Dictionary.{Dictionary}
use Rattle.ctf_model.specs.figures.FigureLaws.{AsksByValue, parent_alone}
use Rattle.ctf_model.specs.figures.Figures.{Figure, comes_to, figure_in, most_numbers, of_found, parents_figure, resolved_type, resolved_body, resolving}
use Rattle.ctf_model.specs.figures.PathLaws.{FiguresAreTheirRules, StepsAreTheirRules, figure_rule, stands_for, step_found, step_from}
use Rattle.ctf_model.specs.figures.Paths.{members_found, position_among, position_within, step_to}
use Rattle.ctf_model.specs.format.Shown.{members_in, shown}
use Rattle.ctf_model.specs.spaces.Space.{Space, space_type}
use Rattle.ctf_model.specs.format.Term.{Term, Body, Member}
use Rattle.ctf_model.specs.format.Term as term
use Rattle.ctf_model.specs.spaces.TypeNumbers.{or_no_type, type_in}
use Rattle.ctf_model.specs.spaces.TypePlaces.{place}
use Rattle.ctf_model.specs.declared.faults.Fault.{Fault}
use Rattle.ctf_model.specs.declared.numbers.Place.{Place}
use Rattle.ctf_model.specs.declared.numbers.Place.TheVariants.{Nowhere, Own, Parents}
use Rattle.ctf_model.proofs.Alls.{all_got}
use Rattle.ctf_model.proofs.FigureAsks.{figures_ask}
use Rattle.ctf_model.proofs.OwnTypes.{not_zero, own_positive, parents_place}
use Rattle.ctf_model.proofs.Settled.{all_map, figure_of_none, figure_of_parents, most_is, parents_own, settle}
use Rattle.ctf_model.proofs.ShortChains.{EndsBy, ends_short, low_in_child, low_in_parent, one_fewer, parents_number}

-- ---- own types

step_own : (figure : Figure) (s : Space) (x n i : ℕ) → place s.own.child n ≡ Own i
    → comes_to figure (parents_figure figure s.parent) s.own (suc x) n ≡ of_found figure (comes_to figure (parents_figure figure s.parent) s.own x) n (or_no_type (slice_get s.own.terms i))
unfolding comes_to
step_own figure s x n i there = let positive = not_zero n (own_positive s.own.child n i there) in rw (there, positive) refl

found_within : (figure : Figure) → AsksByValue figure → (s : Space) → HasShortChains by_value s.own → (x m n i : ℕ) → m ≡ suc x → 512 < x → place s.own.child n ≡ Own i
    → comes_to figure (parents_figure figure s.parent) s.own m n ≡ of_found figure (comes_to figure (parents_figure figure s.parent) s.own m) n (or_no_type (slice_get s.own.terms i))
found_within figure asks s short x m n i is lt there =
    ap (λ (k : ℕ). comes_to figure parents s.own k n) is ∙ step_own figure s x n i there ∙ at (slice_get s.own.terms i) refl
  where
    parents : ℕ → Result ℕ Fault
    parents = parents_figure figure s.parent

    at : (o : Option Term) → slice_get s.own.terms i ≡ o → of_found figure (comes_to figure parents s.own x) n (or_no_type o) ≡ of_found figure (comes_to figure parents s.own m) n (or_no_type o)
    at None got = refl
    at (Some z) got =
        let f = one_fewer by_value s.own 513 n i z (record { there = there; got = got }) (ends_short by_value s.own short n) in
        let less = f.less in
        asks.same (comes_to figure parents s.own x) (comes_to figure parents s.own m) n z.body
        (all_map (EndsBy by_value s.own f.left) (λ t. comes_to figure parents s.own x t ≡ comes_to figure parents s.own m t)
        (λ t h. settle figure asks parents s.own f.left t x m h (omega (arith, less)) (omega (arith, less, is))) (by_value z.body) f.next)

found_own : (figure : Figure) → AsksByValue figure → (s : Space) → HasShortChains by_value s.own → (n i : ℕ) → place s.own.child n ≡ Own i
    → figure_in figure s n ≡ of_found figure (figure_in figure s) n (or_no_type (slice_get s.own.terms i))
found_own figure asks s short n i there = found_within figure asks s short 513 most_numbers n i most_is (omega arith) there

-- ---- a parent's types

-- the figure of a low number is the same in the parent alone
same_low : (figure : Figure) (s : Space) (parent : Dictionary) → s.parent ≡ Some parent → s.own.child ≡ true → (t : ℕ) → t < 0x8000 → figure_in figure (parent_alone s parent) t ≡ figure_in figure s t
same_low figure s parent is child zero low = figure_of_none figure (parent_alone s parent) ∙ sym (figure_of_none figure s)
same_low figure s parent is child (suc t) low = sym (parents_own figure s parent is (suc t) (suc t - 1) (rw child (low_in_child (suc t) (omega arith) low)))

found_above : (figure : Figure) → AsksByValue figure → (s : Space) → HasShortChainsIn by_value s → (n i : ℕ) → place s.own.child n ≡ Parents i → (o : Option Dictionary) → s.parent ≡ o
    → figure_in figure s n ≡ of_found figure (figure_in figure s) n (type_in s.own o (Parents i))
found_above figure asks s short n i there None is = figure_of_parents figure s n i there ∙ ap (λ (o : Option Dictionary). parents_figure figure o n) is
found_above figure asks s short n i there (Some parent) is =
    parents_own figure s parent is n i there ∙ found_own figure asks (parent_alone s parent) closed.short n i here ∙ at (slice_get parent.terms i) refl
  where
    closed : IsShortParent by_value parent
    closed = short.parent parent is

    number : n ≡ i + 1
    number = parents_place s.own.child n i there

    here : place parent.child n ≡ Own i
    here = rw (closed.plain, number) (low_in_parent (i + 1) (omega arith) ∙ ap Own (omega arith))

    at : (o : Option Term) → slice_get parent.terms i ≡ o → of_found figure (figure_in figure (parent_alone s parent)) n (or_no_type o) ≡ of_found figure (figure_in figure s) n (or_no_type o)
    at None got = refl
    at (Some z) got =
        let child = parents_number s.own.child n i there in
        asks.same (figure_in figure (parent_alone s parent)) (figure_in figure s) n z.body
        (all_map (λ t. t < 0x8000) (λ t. figure_in figure (parent_alone s parent) t ≡ figure_in figure s t) (same_low figure s parent is child.0) (by_value z.body)
        (all_got (λ (x : Term). AllByRecursion (λ t. t < 0x8000) (by_value x.body)) parent.terms i z closed.low got))

-- ---- any number

nowhere : (figure : Figure) (s : Space) (x n : ℕ) → place s.own.child n ≡ Nowhere → comes_to figure (parents_figure figure s.parent) s.own (suc x) n ≡ figure_rule figure s (figure_in figure s) n
unfolding comes_to
nowhere figure s x n there = rw there refl

pub figures_rule : FiguresAreTheirRules
figures_rule figure asks s short n = at (place s.own.child n) refl
  where
    at : (q : Place) → place s.own.child n ≡ q → figure_in figure s n ≡ figure_rule figure s (figure_in figure s) n
    at Nowhere there = ap (λ (k : ℕ). comes_to figure (parents_figure figure s.parent) s.own k n) most_is ∙ nowhere figure s 513 n there
    at (Own i) there = let positive = not_zero n (own_positive s.own.child n i there) in rw (there, positive) (found_own figure asks s short.own n i there)
    at (Parents i) there =
        let number = parents_place s.own.child n i there in
        let positive = not_zero n (omega arith) in
        rw (there, positive) (found_above figure asks s short n i there s.parent refl)

-- ---- paths

-- a step from a type found by resolving
body_step : (s : Space) (step : ℕ) (name : List ℕ) (offset n : ℕ) (body : Body) → members_found (space_type s n) ≡ members_in (shown body)
    → position_within s step name offset (resolved_body (resolved_type s) n body) ≡ step_from (step_to s step name) step name offset body (stands_for body)
body_step s step name offset n (term.typedef t) e = refl
body_step s step name offset n (term.volatile t) e = refl
body_step s step name offset n (term.const t) e = refl
body_step s step name offset n (term.restrict t) e = refl
body_step s step name offset n (term.integer x) e = ap (position_among step name offset) e
body_step s step name offset n (term.float x) e = ap (position_among step name offset) e
body_step s step name offset n (term.pointer t) e = ap (position_among step name offset) e
body_step s step name offset n (term.array x) e = ap (position_among step name offset) e
body_step s step name offset n (term.function r ts) e = ap (position_among step name offset) e
body_step s step name offset n (term.struct said ms) e = ap (position_among step name offset) e
body_step s step name offset n (term.union said ms) e = ap (position_among step name offset) e
body_step s step name offset n (term.enum said es) e = ap (position_among step name offset) e
body_step s step name offset n (term.forward t) e = ap (position_among step name offset) e
body_step s step name offset n term.unknown e = ap (position_among step name offset) e

-- a step from what resolving's rule gives for a number
resolved_step : (s : Space) (step : ℕ) (name : List ℕ) (offset n : ℕ)
    → position_within s step name offset (figure_rule resolving s (resolved_type s) n) ≡ cond (eqb n 0) (position_among step name offset None) (step_found (step_to s step name) step name offset (space_type s n))
resolved_step s step name offset n = at (eqb n 0)
  where
    found : (r : Result Term Fault) → space_type s n ≡ r → position_within s step name offset (of_found resolving (resolved_type s) n r) ≡ step_found (step_to s step name) step name offset r
    found (Err fault) e = refl
    found (Ok z) e = body_step s step name offset n z.body (ap members_found e)

    at : (none : Bool) → position_within s step name offset (cond none (Ok 0) (of_found resolving (resolved_type s) n (space_type s n))) ≡ cond none (position_among step name offset None) (step_found (step_to s step name) step name offset (space_type s n))
    at true = refl
    at false = found (space_type s n) refl

pub steps_rule : StepsAreTheirRules
steps_rule s short step name at =
    ap (position_within s step name at.offset) (figures_rule resolving figures_ask.resolving_asks s short at.tnum)
    ∙ resolved_step s step name at.offset at.tnum
