-- Known reaches stay correct while other types change.
use Rattle.std.proofs.Common.{◌≡◌, ℕ, zero, suc, ◌<◌, cond, eqb, List, [], ◌∷◌, length, Option, Some, None, Result, refl, sym, ap, subst, ◌∙◌}
use Rattle.std.specs.Prelude.{MatchOption, slice_get, option_map}
use Rattle.std.specs.List.{AllByRecursion, cons_option, filter_map}
use Rattle.std.proofs.lemmas.Option.{slice_get-get_or, slice_get_within}
use Rattle.ctf_chains.specs.Search.{IsDepth}
use Rattle.ctf_model.specs.rules.Chains.{IsWithin, by_value, own_index, targets}
use Rattle.ctf_model.specs.format.Dictionary.{Dictionary}
use Rattle.ctf_model.specs.figures.FigureLaws.{AsksByValue, nothing, own_body, value_edges}
use Rattle.ctf_model.specs.figures.Figures.{Figure, at_place, comes_to}
use Rattle.ctf_model.specs.format.Term.{Term}
use Rattle.ctf_model.specs.spaces.TypePlaces.{place}
use Rattle.ctf_model.specs.declared.faults.Fault.{Fault}
use Rattle.ctf_model.specs.declared.numbers.Place.{Place}
use Rattle.ctf_model.specs.declared.numbers.Place.TheVariants.{Nowhere, Own, Parents}
use Rattle.ctf_model.proofs.OwnTypes.{own_of, targets_are}
use Rattle.ctf_model.proofs.Anywhere.{all_map}
use Rattle.ctf_draft.proofs.Figuring.{own_step}

-- ---- two dictionaries that share some own types, which lead only to each other

abbrev own : Dictionary → ℕ → Option ℕ
own d n = own_index d.child (length d.terms) n

-- the number names the same in both, and if that is an own type, a shared one
pub record StaysSame (a b : Dictionary) (Kept : ℕ → Type 0) (n : ℕ) : Type 0 where
  pub same : own b n ≡ own a n
  pub kept : MatchOption (own a n) (Unit {0}) Kept

-- the shared types, from which steps by value lead to no others
pub record Stay (a b : Dictionary) (Kept : ℕ → Type 0) : Type 0 where
  pub child : b.child ≡ a.child
  pub inside : (j : ℕ) → Kept j → (j < length a.terms) × (j < length b.terms)
  pub body : (j : ℕ) → Kept j → own_body b j ≡ own_body a j
  pub closed : (j : ℕ) → Kept j → AllByRecursion (StaysSame a b Kept) (by_value (own_body a j))

module _ (a b : Dictionary) (Kept : ℕ → Type 0) (stay : Stay a b Kept) where
  -- ---- chains

  same_led : (ns : List ℕ) → AllByRecursion (StaysSame a b Kept) ns → filter_map (own b) ns ≡ filter_map (own a) ns
  same_led [] h = refl
  same_led (n ∷ ns) h = rw (h.0.same, same_led ns h.1) refl

  kept_led : (ns : List ℕ) → AllByRecursion (StaysSame a b Kept) ns → AllByRecursion Kept (filter_map (own a) ns)
  kept_led [] h = tt
  kept_led (n ∷ ns) h = at (own a n) h.0.kept (kept_led ns h.1)
    where
      at : (o : Option ℕ) → MatchOption o (Unit {0}) Kept → AllByRecursion Kept (filter_map (own a) ns) → AllByRecursion Kept (cons_option o (filter_map (own a) ns))
      at None k more = more
      at (Some j) k more = (k, more)

  same_targets : (j : ℕ) → Kept j → targets (value_edges b) j ≡ targets (value_edges a) j
  same_targets j k =
      targets_are b j ∙ ap (λ body. filter_map (own b) (by_value body)) (stay.body j k)
      ∙ same_led (by_value (own_body a j)) (stay.closed j k) ∙ sym (targets_are a j)

  kept_targets : (j : ℕ) → Kept j → AllByRecursion Kept (targets (value_edges a) j)
  kept_targets j k = subst (AllByRecursion Kept) (sym (targets_are a j)) (kept_led (by_value (own_body a j)) (stay.closed j k))

  -- a fact of shared types carries over
  each : (P Q : ℕ → Type 0) → ((j : ℕ) → Kept j → P j → Q j) → (js : List ℕ) → AllByRecursion Kept js → AllByRecursion P js → AllByRecursion Q js
  each P Q f [] k h = tt
  each P Q f (j ∷ js) k h = (f j k.0 h.0, each P Q f js k.1 h.1)

  still_within : (m j : ℕ) → Kept j → IsWithin (value_edges a) m j → IsWithin (value_edges b) m j
  unfolding IsWithin
  still_within zero j k w = same_targets j k ∙ w
  still_within (suc m) j k w =
      subst (AllByRecursion (IsWithin (value_edges b) m)) (sym (same_targets j k))
      (each (IsWithin (value_edges a) m) (IsWithin (value_edges b) m) (still_within m) (targets (value_edges a) j) (kept_targets j k) w)

  was_within : (m j : ℕ) → Kept j → IsWithin (value_edges b) m j → IsWithin (value_edges a) m j
  unfolding IsWithin
  was_within zero j k w = sym (same_targets j k) ∙ w
  was_within (suc m) j k w =
      each (IsWithin (value_edges b) m) (IsWithin (value_edges a) m) (was_within m) (targets (value_edges a) j) (kept_targets j k)
      (subst (AllByRecursion (IsWithin (value_edges b) m)) (same_targets j k) w)

  pub same_depth : (j d : ℕ) → Kept j → IsDepth (value_edges a) j d → IsDepth (value_edges b) j d
  same_depth j d k h = record {
    within = still_within d j k h.within;
    least = λ m w. h.least m (was_within m j k w);
  }

  -- ---- figures

  module _ (figure : Figure) (asks : AsksByValue figure) (parents : ℕ → Result ℕ Fault) where
    past_end : (d : Dictionary) (n i : ℕ) → place d.child n ≡ Own i → own d n ≡ None → slice_get d.terms i ≡ None
    past_end d n i e none = at (slice_get d.terms i) refl
      where
        at : (o : Option Term) → slice_get d.terms i ≡ o → o ≡ None
        at None f = refl
        at (Some z) f = let is = own_of d.child (length d.terms) n i e (slice_get_within d.terms i z f) in absurd cc

    -- a number that names no own type
    same_elsewhere : (m n : ℕ) → own a n ≡ None → own b n ≡ None → comes_to figure parents b (suc m) n ≡ comes_to figure parents a (suc m) n
    unfolding comes_to
    same_elsewhere m n x y = ap (λ (r : Result ℕ Fault). cond (eqb n 0) figure.of_none r) (rw stay.child (at (place a.child n) refl))
      where
        at : (p : Place) → place a.child n ≡ p → at_place figure parents (comes_to figure parents b m) b n p ≡ at_place figure parents (comes_to figure parents a m) a n p
        at Nowhere e = refl
        at (Parents i) e = refl
        at (Own i) e = rw (past_end a n i e x, past_end b n i (rw stay.child e) y) refl

    got : (d : Dictionary) (j : ℕ) → j < length d.terms → option_map (λ x. x.body) (slice_get d.terms j) ≡ Some (own_body d j)
    got d j lt = ap (option_map (λ (x : Term). x.body)) (slice_get-get_or d.terms j nothing lt)

    pub same_figure : (m n : ℕ) → StaysSame a b Kept n → comes_to figure parents b m n ≡ comes_to figure parents a m n
    unfolding comes_to
    same_figure zero n h = refl
    same_figure (suc m) n h = at (own a n) refl h.kept (λ t s. same_figure m t s)
      where
        at : (o : Option ℕ) → own a n ≡ o → MatchOption o (Unit {0}) Kept → ((t : ℕ) → StaysSame a b Kept t → comes_to figure parents b m t ≡ comes_to figure parents a m t) → comes_to figure parents b (suc m) n ≡ comes_to figure parents a (suc m) n
        at None e k others = same_elsewhere m n e (h.same ∙ e)
        at (Some j) e k others =
            own_step figure parents b m n j (own_body b j) (h.same ∙ e) (got b j (stay.inside j k).1)
            ∙ ap (figure.of_type (comes_to figure parents b m) n) (stay.body j k)
            ∙ asks.same (comes_to figure parents b m) (comes_to figure parents a m) n (own_body a j)
            (all_map (StaysSame a b Kept) (λ t. comes_to figure parents b m t ≡ comes_to figure parents a m t) others (by_value (own_body a j)) (stay.closed j k))
            ∙ sym (own_step figure parents a m n j (own_body a j) e (got a j (stay.inside j k).0))
