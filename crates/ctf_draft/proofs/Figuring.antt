-- The figure of a draft's number, step by step.
use Rattle.std.proofs.Common.{◌≡◌, ℕ, suc, ◌+◌, ◌-◌, ◌<◌, Bool, true, false, cond, eqb, length, Option, Some, None, Result, Ok, Err, is_some, refl, sym, ap, ◌∙◌, arith}
use Rattle.std.specs.Prelude.{MatchOption, slice_get, option_map}
use Rattle.std.proofs.lemmas.Option.{slice_get_within}
use Rattle.ctf_model.specs.rules.Chains.{own_index}
use Rattle.ctf_model.specs.format.Dictionary.{Dictionary}
use Rattle.ctf_model.specs.drafts.Drafts.{Draft, count_of, content}
use Rattle.ctf_model.specs.figures.Figures.{Figure, align_body, aligning, at_place, comes_to, figure_in, incomplete, of_found, parents_figure, resolved_body, resolving, size_body, sizing}
use Rattle.ctf_model.specs.format.Term.{Body, Term}
use Rattle.ctf_model.specs.format.Term as term
use Rattle.ctf_model.specs.spaces.TypeNumbers.{no_type, or_no_type}
use Rattle.ctf_model.specs.spaces.TypePlaces.{place}
use Rattle.ctf_model.specs.declared.data_model.DataModel.{DataModel}
use Rattle.ctf_model.specs.declared.faults.Fault.{Fault}
use Rattle.ctf_model.specs.declared.numbers.Place.{Place}
use Rattle.ctf_model.specs.declared.numbers.Place.TheVariants.{Nowhere, Own, Parents}
use Rattle.ctf_model.proofs.OwnTypes.{not_zero, own_inside, own_of, own_positive}
use Rattle.ctf_model.proofs.Settled.{of_parents}
use Rattle.ctf_space.specs.SpaceView.{space_alone}
use Rattle.ctf_draft.specs.Elsewhere.{NamesNone}
use Rattle.ctf_draft.specs.Sizing.{alias_target, size_from}
use Rattle.ctf_draft.specs.declared.sizing.Sizing.{Sizing}

module _ (figure : Figure) (parents : ℕ → Result ℕ Fault) (d : Dictionary) (k n : ℕ) where
  -- number 0
  pub none_step : n ≡ 0 → comes_to figure parents d (suc k) n ≡ figure.of_none
  unfolding comes_to
  none_step zero_is = rw zero_is refl

  -- an own type
  pub own_step : (i : ℕ) (body : Body) → own_index d.child (length d.terms) n ≡ Some i → option_map (λ x. x.body) (slice_get d.terms i) ≡ Some body → comes_to figure parents d (suc k) n ≡ figure.of_type (comes_to figure parents d k) n body
  unfolding comes_to
  own_step i body own got =
      let h = own_inside d.child (length d.terms) n i own in
      let positive = not_zero n (own_positive d.child n i h.0) in
      rw (h.0, positive) (found (slice_get d.terms i) got)
    where
      found : (o : Option Term) → option_map (λ x. x.body) o ≡ Some body → of_found figure (comes_to figure parents d k) n (or_no_type o) ≡ figure.of_type (comes_to figure parents d k) n body
      found None e = absurd cc
      found (Some x) e = let same : x.body ≡ body = cc in ap (λ (b : Body). figure.of_type (comes_to figure parents d k) n b) same

  -- neither an own type nor one of the parent
  pub missing_step : 0 < n → ((i : ℕ) → place d.child n ≡ Parents i → ⊥) → own_index d.child (length d.terms) n ≡ None → comes_to figure parents d (suc k) n ≡ Err no_type
  unfolding comes_to
  missing_step some not_parents not_own = let positive = not_zero n some in at (place d.child n) refl positive
    where
      past : (i : ℕ) → place d.child n ≡ Own i → (o : Option Term) → slice_get d.terms i ≡ o → of_found figure (comes_to figure parents d k) n (or_no_type o) ≡ Err no_type
      past i e None f = refl
      past i e (Some z) f = let own = own_of d.child (length d.terms) n i e (slice_get_within d.terms i z f) in let none = not_own in absurd cc

      at : (p : Place) → place d.child n ≡ p → eqb n 0 ≡ false → cond (eqb n 0) figure.of_none (at_place figure parents (comes_to figure parents d k) d n (place d.child n)) ≡ Err no_type
      at Nowhere e z = rw (e, z) refl
      at (Parents i) e z = absurd (not_parents i e)
      at (Own i) e z = rw (e, z) (past i e (slice_get d.terms i) refl)

-- ---- a bound on the numbers that are followed

module _ (figure : Figure) (parents : ℕ → Result ℕ Fault) (d : Dictionary) (most n : ℕ) where
  pub none_follow : most ≡ 0 → comes_to figure parents d most n ≡ Err incomplete
  unfolding comes_to
  none_follow is = rw is refl

  some_follow : 0 < most → comes_to figure parents d most n ≡ comes_to figure parents d (suc (most - 1)) n
  some_follow lt = let one : most ≡ suc (most - 1) = omega arith in ap (λ (k : ℕ). comes_to figure parents d k n) one

  pub none_at : 0 < most → n ≡ 0 → comes_to figure parents d most n ≡ figure.of_none
  none_at lt is = some_follow lt ∙ none_step figure parents d (most - 1) n is

  pub own_at : 0 < most → (i : ℕ) (body : Body) → own_index d.child (length d.terms) n ≡ Some i → option_map (λ x. x.body) (slice_get d.terms i) ≡ Some body → comes_to figure parents d most n ≡ figure.of_type (comes_to figure parents d (most - 1)) n body
  own_at lt i body own got = some_follow lt ∙ own_step figure parents d (most - 1) n i body own got

  -- before the first of them
  pub at_first : comes_to figure parents d most n ≡ comes_to figure parents d (most - 0) n
  at_first = let same : most ≡ most - 0 = omega arith in ap (λ (k : ℕ). comes_to figure parents d k n) same

  -- after one more of them
  pub one_on : (step : ℕ) → comes_to figure parents d ((most - step) - 1) n ≡ comes_to figure parents d (most - (step + 1)) n
  one_on step = let same : (most - step) - 1 ≡ most - (step + 1) = omega arith in ap (λ (k : ℕ). comes_to figure parents d k n) same

  pub elsewhere_at : 0 < most → (r : Result ℕ Fault) → ((k : ℕ) → r ≡ comes_to figure parents d (suc k) n) → r ≡ comes_to figure parents d most n
  elsewhere_at lt r h = h (most - 1) ∙ sym (some_follow lt)

-- the size, from what it is computed from
pub by_sizing : (said model : DataModel) → said ≡ model → (parents : ℕ → Result ℕ Fault) (d : Dictionary) (most n : ℕ) → 0 < most → (i : ℕ) (body : Body) (s : Sizing) → own_index d.child (length d.terms) n ≡ Some i → option_map (λ x. x.body) (slice_get d.terms i) ≡ Some body → ((f : ℕ → Result ℕ Fault) → size_body said f body ≡ size_from f s) → comes_to (sizing model) parents d most n ≡ size_from (comes_to (sizing model) parents d (most - 1)) s
by_sizing said model same parents d most n lt i body s own got says =
    let f = comes_to (sizing model) parents d (most - 1) in
    own_at (sizing model) parents d most n lt i body own got ∙ ap (λ (m : DataModel). size_body m f body) (sym same) ∙ says f

abbrev pub by_renamed : (ℕ → Result ℕ Fault) → ℕ → Option ℕ → Result ℕ Fault
by_renamed f n None = Ok n
by_renamed f n (Some t) = f t

renamed_says : (f : ℕ → Result ℕ Fault) (n : ℕ) (body : Body) → resolved_body f n body ≡ by_renamed f n (alias_target body)
renamed_says f n (term.typedef t) = refl
renamed_says f n (term.volatile t) = refl
renamed_says f n (term.const t) = refl
renamed_says f n (term.restrict t) = refl
renamed_says f n (term.array e) = refl
renamed_says f n (term.integer x) = refl
renamed_says f n (term.float x) = refl
renamed_says f n (term.pointer t) = refl
renamed_says f n (term.function r ts) = refl
renamed_says f n (term.struct said ms) = refl
renamed_says f n (term.union said ms) = refl
renamed_says f n (term.enum said xs) = refl
renamed_says f n (term.forward t) = refl
renamed_says f n term.unknown = refl

-- the resolved type, from the type that a typedef or qualifier stands for
pub by_renaming : (parents : ℕ → Result ℕ Fault) (d : Dictionary) (most n : ℕ) → 0 < most → (i : ℕ) (body : Body) (t : Option ℕ) → own_index d.child (length d.terms) n ≡ Some i → option_map (λ x. x.body) (slice_get d.terms i) ≡ Some body → t ≡ alias_target body → comes_to resolving parents d most n ≡ by_renamed (comes_to resolving parents d (most - 1)) n t
by_renaming parents d most n lt i body t own got says =
    let f = comes_to resolving parents d (most - 1) in
    own_at resolving parents d most n lt i body own got ∙ renamed_says f n body ∙ ap (by_renamed f n) (sym says)

-- ---- numbers that name no own type

-- a draft without a parent has no parent's numbers
no_parents : (n i : ℕ) → place false n ≡ Parents i → ⊥
no_parents n i e = at (eqb n 0) e
  where
    at : (b : Bool) → cond b Nowhere (Own (n - 1)) ≡ Parents i → ⊥
    at true h = absurd cc
    at false h = absurd cc

pub named_by_none : (d : Draft) (n : ℕ) → d.parent ≡ None → 0 < n → own_index (is_some d.parent) (count_of d) n ≡ None → NamesNone d n
named_by_none d n none some not_own = record {
  refused = λ figure k. missing_step figure (parents_figure figure d.parent) (content d) k n some (λ i at. no_parents n i (rw none at at)) not_own;
}

pub named_nowhere : (d : Draft) (n : ℕ) → is_some d.parent ≡ true → ((i : ℕ) → place true n ≡ Parents i → ⊥) → 0 < n → own_index (is_some d.parent) (count_of d) n ≡ None → NamesNone d n
named_nowhere d n child other some not_own = record {
  refused = λ figure k. missing_step figure (parents_figure figure d.parent) (content d) k n some (λ i at. other i (rw child at at)) not_own;
}

-- the figure of a parent's type is the same in the parent alone
pub parents_step : (d : Draft) (p : Dictionary) (model : DataModel) (figure : Figure) (k n i : ℕ) → d.parent ≡ Some p → place true n ≡ Parents i → comes_to figure (parents_figure figure d.parent) (content d) (suc k) n ≡ figure_in figure (space_alone p model) n
parents_step d p model figure k n i is at =
    let here : place (is_some d.parent) n ≡ Parents i = rw is at in
    of_parents figure (parents_figure figure d.parent) (content d) k n i here ∙ ap (λ (q : Option Dictionary). parents_figure figure q n) is

-- the alignment, from what it is computed from
pub by_aligning : (said model : DataModel) → said ≡ model → (parents : ℕ → Result ℕ Fault) (d : Dictionary) (most n : ℕ) → 0 < most → (i : ℕ) (body : Body) (s : Sizing) → own_index d.child (length d.terms) n ≡ Some i → option_map (λ x. x.body) (slice_get d.terms i) ≡ Some body → ((f : ℕ → Result ℕ Fault) → align_body said f body ≡ size_from f s) → comes_to (aligning model) parents d most n ≡ size_from (comes_to (aligning model) parents d (most - 1)) s
by_aligning said model same parents d most n lt i body s own got says =
    let f = comes_to (aligning model) parents d (most - 1) in
    own_at (aligning model) parents d most n lt i body own got ∙ ap (λ (m : DataModel). align_body m f body) (sym same) ∙ says f

-- equal figures
pub same_found : (found : Option (Result ℕ Fault)) (a b : Result ℕ Fault) → a ≡ b → MatchOption found (Unit {0}) (λ r. r ≡ a) → MatchOption found (Unit {0}) (λ r. r ≡ b)
same_found None a b same h = tt
same_found (Some r) a b same h = h ∙ same
