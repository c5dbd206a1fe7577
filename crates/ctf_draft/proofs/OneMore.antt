-- Known reaches stay correct when a type gets a member that does not change its depth and
-- alignment.
use Rattle.std.proofs.Common.{◌≡◌, ℕ, zero, suc, ◌<◌, ◌≤◌, Bool, true, false, List, [], ◌∷◌, ◌++◌, length, map, set, get_or, Option, Some, None, Result, Ok, Err, is_some, refl, sym, ap, subst, ◌∙◌, arith, ◌⊎◌, inl, inr, ◌≢◌}
use Rattle.std.specs.Prelude.{MatchOption, OnErr, OnOk, slice_index_or}
use Rattle.std.specs.List.{AllByRecursion, cons_option, filter_map}
use Rattle.std.proofs.lemmas.List.{get_or-set_other, length-set, map-append}
use Rattle.std.proofs.lemmas.Grind.{get_or-set_at}
use Rattle.ctf_chains.proofs.Depths.{IsWithin-more}
use Rattle.ctf_chains.proofs.Lists.{same_or_not}
use Rattle.ctf_model.specs.drafts.Adders.{with_body, with_member}
use Rattle.ctf_model.specs.drafts.Drafts.{Draft, count_of, content, space_of}
use Rattle.ctf_model.specs.figures.FigureLaws.{nothing, own_body, value_edges}
use Rattle.ctf_model.specs.figures.Figures.{align, align_body, aligning, comes_to, greater, greatest, most_numbers, parents_figure}
use Rattle.ctf_model.specs.format.Dictionary.{Dictionary, Label}
use Rattle.ctf_model.specs.format.Term.{Body, Member, Term}
use Rattle.ctf_model.specs.format.Term as term
use Rattle.ctf_model.specs.rules.Chains.{IsWithin, by_value, longest_chain, own_index}
use Rattle.ctf_model.specs.spaces.TypePlaces.{own_number}
use Rattle.ctf_model.specs.declared.data_model.DataModel.{DataModel}
use Rattle.ctf_model.specs.declared.faults.Fault.{Fault}
use Rattle.ctf_model.proofs.Alls.{all_split}
use Rattle.ctf_model.proofs.Anywhere.{all_map}
use Rattle.ctf_model.proofs.FigureAsks.{figures_ask}
use Rattle.ctf_model.proofs.OwnTypes.{own_inside, targets_are}
use Rattle.ctf_model.proofs.Settled.{Ends, EndsAt, asked_end, own_figure}
use Rattle.ctf_draft.specs.Reaching.{IsBelow, IsKnown, IsKnownAt, IsReach, Knows, Stays, counts_more}
use Rattle.ctf_draft.specs.declared.reach.Reach.{Reach}
use Rattle.ctf_draft.proofs.Bounded.{match_of, with_member_all}
use Rattle.ctf_draft.proofs.Kept.{same_figure}
use Rattle.ctf_draft.proofs.Lifting.{both_of}
use Rattle.ctf_draft.proofs.Views.{all_terms, seen}

-- ---- one more member

-- a fact of all targets holds for the previous ones
front_all : (P : ℕ → Type 0) (m : Member) (size : ℕ) (body : Body) → AllByRecursion P (by_value (with_member m size body)) → AllByRecursion P (by_value body)
front_all P m size (term.struct old ms) h = (all_split P (map (λ (x : Member). x.tnum) ms) (m.tnum ∷ []) (subst (AllByRecursion P) (map-append (λ (x : Member). x.tnum) ms (m ∷ [])) h)).0
front_all P m size (term.union old ms) h = (all_split P (map (λ (x : Member). x.tnum) ms) (m.tnum ∷ []) (subst (AllByRecursion P) (map-append (λ (x : Member). x.tnum) ms (m ∷ [])) h)).0
front_all P m size (term.integer x) h = h
front_all P m size (term.float x) h = h
front_all P m size (term.pointer t) h = h
front_all P m size (term.function r ts) h = h
front_all P m size (term.enum said xs) h = h
front_all P m size (term.forward t) h = h
front_all P m size term.unknown h = h
front_all P m size (term.array e) h = h
front_all P m size (term.typedef t) h = h
front_all P m size (term.volatile t) h = h
front_all P m size (term.const t) h = h
front_all P m size (term.restrict t) h = h

greater_assoc : (a b c : Result ℕ Fault) → greater a (greater b c) ≡ greater (greater a b) c
greater_assoc (Err f) b c = refl
greater_assoc (Ok n) (Err f) c = refl
greater_assoc (Ok n) (Ok m) (Err f) = refl
greater_assoc (Ok n) (Ok m) (Ok k) = ap Ok (omega arith)

greater_unit : (r : Result ℕ Fault) → greater r (Ok 0) ≡ r
greater_unit (Err f) = refl
greater_unit (Ok n) = ap Ok (omega arith)

unit_greater : (r : Result ℕ Fault) → greater (Ok 0) r ≡ r
unit_greater (Err f) = refl
unit_greater (Ok n) = ap Ok (omega arith)

one_greatest : (f : ℕ → Result ℕ Fault) (ms : List Member) (m : Member) → greatest f (ms ++ m ∷ []) ≡ greater (greatest f ms) (f m.tnum)
one_greatest f [] m = greater_unit (f m.tnum) ∙ sym (unit_greater (f m.tnum))
one_greatest f (x ∷ ms) m = rw (one_greatest f ms m) (greater_assoc (f x.tnum) (greatest f ms) (f m.tnum))

true_false : true ≡ false → ⊥
true_false h = cc

-- the alignment is unchanged
same_aligned : (model : DataModel) (f : ℕ → Result ℕ Fault) (m : Member) (size : ℕ) (body : Body) → (counts_more body ≡ false) ⊎ (greater (align_body model f body) (f m.tnum) ≡ align_body model f body) → align_body model f (with_member m size body) ≡ align_body model f body
same_aligned model f m size (term.struct old []) (inl h) = absurd (true_false h)
same_aligned model f m size (term.struct old []) (inr h) = sym (unit_greater (f m.tnum)) ∙ h
same_aligned model f m size (term.struct old (x ∷ ms)) h = refl
same_aligned model f m size (term.union old ms) (inl h) = absurd (true_false h)
same_aligned model f m size (term.union old ms) (inr h) = one_greatest f ms m ∙ h
same_aligned model f m size (term.integer x) h = refl
same_aligned model f m size (term.float x) h = refl
same_aligned model f m size (term.pointer t) h = refl
same_aligned model f m size (term.function r ts) h = refl
same_aligned model f m size (term.enum said xs) h = refl
same_aligned model f m size (term.forward t) h = refl
same_aligned model f m size term.unknown h = refl
same_aligned model f m size (term.array e) h = refl
same_aligned model f m size (term.typedef t) h = refl
same_aligned model f m size (term.volatile t) h = refl
same_aligned model f m size (term.const t) h = refl
same_aligned model f m size (term.restrict t) h = refl

-- ---- where chains end

module _ (x : Dictionary) where
  abbrev own : ℕ → Option ℕ
  own n = own_index x.child (length x.terms) n

  none_end : (ns : List ℕ) → AllByRecursion (EndsAt x zero) ns → filter_map own ns ≡ []
  none_end [] h = refl
  none_end (n ∷ ns) h = at (own n) h.0 (none_end ns h.1)
    where
      at : (o : Option ℕ) → MatchOption o (Unit {0}) (Ends (value_edges x) zero) → filter_map own ns ≡ [] → cons_option o (filter_map own ns) ≡ []
      at None g more = more
      at (Some j) g more = absurd g

  all_end : (k : ℕ) (ns : List ℕ) → AllByRecursion (EndsAt x (suc k)) ns → AllByRecursion (IsWithin (value_edges x) k) (filter_map own ns)
  all_end k [] h = tt
  all_end k (n ∷ ns) h = at (own n) h.0 (all_end k ns h.1)
    where
      at : (o : Option ℕ) → MatchOption o (Unit {0}) (Ends (value_edges x) (suc k)) → AllByRecursion (IsWithin (value_edges x) k) (filter_map own ns) → AllByRecursion (IsWithin (value_edges x) k) (cons_option o (filter_map own ns))
      at None g more = more
      at (Some j) g more = (g, more)

  -- a type is at most one deeper than its targets
  end_within : (k j : ℕ) → AllByRecursion (EndsAt x k) (by_value (own_body x j)) → IsWithin (value_edges x) k j
  unfolding IsWithin
  end_within zero j h = targets_are x j ∙ none_end (by_value (own_body x j)) h
  end_within (suc k) j h = subst (AllByRecursion (IsWithin (value_edges x) k)) (sym (targets_are x j)) (all_end k (by_value (own_body x j)) h)

-- ---- two drafts; in the second, type `i` has one more member

module _ (d e : Draft) (known : List (Option Reach)) (i : ℕ) (m : Member) (size : ℕ) (parent : e.parent ≡ d.parent) (model : e.model ≡ d.model) (count : count_of e ≡ count_of d)
    (others : (j : ℕ) → j ≢ i → own_body (content e) j ≡ own_body (content d) j) (here : own_body (content e) i ≡ with_member m size (own_body (content d) i))
    (knows : Knows d known) (stays : Stays d known i m.tnum) where
  abbrev before : List (List ℕ)
  before = value_edges (content d)

  abbrev after : List (List ℕ)
  after = value_edges (content e)

  own_same : (n : ℕ) → own_index (is_some e.parent) (count_of e) n ≡ own_index (is_some d.parent) (count_of d) n
  own_same n = ap (λ (q : Option Dictionary). own_index (is_some q) (count_of e) n) parent ∙ ap (λ (c : ℕ). own_index (is_some d.parent) c n) count

  one_more : (j : ℕ) → j ≡ i → own_body (content e) j ≡ with_member m size (own_body (content d) j)
  one_more j same = ap (own_body (content e)) same ∙ here ∙ ap (λ (k : ℕ). with_member m size (own_body (content d) k)) (sym same)

  here_known : IsKnown known i
  here_known = ap is_some stays.is

  below_known : IsKnownAt d known m.tnum
  below_known = match_of (IsBelow known stays.reach.depth) (IsKnown known) (λ j b. ap is_some b.is) (own_index (is_some d.parent) (count_of d) m.tnum) stays.below

  found : (o : Option Reach) → is_some o ≡ true → (r : Reach) × (o ≡ Some r)
  found None h = absurd cc
  found (Some r) h = (r, refl)

  closed : (j : ℕ) → IsKnown known j → AllByRecursion (IsKnownAt d known) (by_value (own_body (content d) j))
  closed j k = let it = found (slice_index_or known j None) k in knows.closed j it.0 it.1

  -- a fact of all targets in the second draft: for type `i`
  each_here : (P : ℕ → Type 0) (j : ℕ) → j ≡ i → P m.tnum → AllByRecursion P (by_value (own_body (content d) j)) → AllByRecursion P (by_value (own_body (content e) j))
  each_here P j same new h = subst (λ (b : Body). AllByRecursion P (by_value b)) (sym (one_more j same)) (with_member_all P m size (own_body (content d) j) h new)

  -- for another type
  each_other : (P : ℕ → Type 0) (j : ℕ) → j ≢ i → AllByRecursion P (by_value (own_body (content d) j)) → AllByRecursion P (by_value (own_body (content e) j))
  each_other P j other h = subst (λ (b : Body). AllByRecursion P (by_value b)) (sym (others j other)) h

  -- the same, for the first draft
  each_before : (P : ℕ → Type 0) (j : ℕ) → AllByRecursion P (by_value (own_body (content e) j)) → AllByRecursion P (by_value (own_body (content d) j))
  each_before P j h = at (same_or_not j i)
    where
      at : (j ≡ i) ⊎ (j ≢ i) → AllByRecursion P (by_value (own_body (content d) j))
      at (inl same) = front_all P m size (own_body (content d) j) (subst (λ (b : Body). AllByRecursion P (by_value b)) (one_more j same) h)
      at (inr other) = subst (λ (b : Body). AllByRecursion P (by_value b)) (others j other) h

  -- ---- chains

  abbrev StillEnds : ℕ → Type 0
  StillEnds k = (j : ℕ) → IsKnown known j → Ends before k j → Ends after k j

  abbrev DidEnd : ℕ → Type 0
  DidEnd k = (j : ℕ) → IsKnown known j → Ends after k j → Ends before k j

  still_at : (k n : ℕ) → StillEnds k → IsKnownAt d known n → EndsAt (content d) k n → EndsAt (content e) k n
  still_at k n step is ends = subst (λ (o : Option ℕ). MatchOption o (Unit {0}) (Ends after k)) (sym (own_same n)) (at (own_index (is_some d.parent) (count_of d) n) is ends)
    where
      at : (o : Option ℕ) → MatchOption o (Unit {0}) (IsKnown known) → MatchOption o (Unit {0}) (Ends before k) → MatchOption o (Unit {0}) (Ends after k)
      at None x y = tt
      at (Some j) x y = step j x y

  did_at : (k n : ℕ) → DidEnd k → IsKnownAt d known n → EndsAt (content e) k n → EndsAt (content d) k n
  did_at k n step is ends = at (own_index (is_some d.parent) (count_of d) n) is (subst (λ (o : Option ℕ). MatchOption o (Unit {0}) (Ends after k)) (own_same n) ends)
    where
      at : (o : Option ℕ) → MatchOption o (Unit {0}) (IsKnown known) → MatchOption o (Unit {0}) (Ends after k) → MatchOption o (Unit {0}) (Ends before k)
      at None x y = tt
      at (Some j) x y = step j x y

  -- fewer steps lead from the new member's type
  below_ends : (k : ℕ) → stays.reach.depth ≤ k → EndsAt (content d) k m.tnum
  below_ends k le = match_of (IsBelow known stays.reach.depth) (Ends before k) (λ j b. at k le j b) (own_index (is_some d.parent) (count_of d) m.tnum) stays.below
    where
      at : (k : ℕ) → stays.reach.depth ≤ k → (j : ℕ) → IsBelow known stays.reach.depth j → Ends before k j
      at zero le j b = let less = b.less in absurd (omega (arith, le, less))
      at (suc k) le j b = let less = b.less in IsWithin-more before b.reach.depth k j (omega (arith, le, less)) (knows.right j b.reach b.is).depth.within

  -- the same if type `i` is within that many steps
  below_within : (k : ℕ) → IsWithin before k i → EndsAt (content d) k m.tnum
  below_within k w = below_ends k ((knows.right i stays.reach stays.is).depth.least k w)

  still_case : (k : ℕ) → StillEnds k → (j : ℕ) → IsKnown known j → IsWithin before k j → IsWithin after k j
  still_case k step j is w = at (same_or_not j i)
    where
      each : AllByRecursion (EndsAt (content e) k) (by_value (own_body (content d) j))
      each = both_of (IsKnownAt d known) (EndsAt (content d) k) (EndsAt (content e) k) (λ n x y. still_at k n step x y) (by_value (own_body (content d) j)) (closed j is) (asked_end (content d) k j w)

      at : (j ≡ i) ⊎ (j ≢ i) → IsWithin after k j
      at (inl same) =
          let within : IsWithin before k i = subst (IsWithin before k) same w in
          end_within (content e) k j (each_here (EndsAt (content e) k) j same (still_at k m.tnum step below_known (below_within k within)) each)
      at (inr other) = end_within (content e) k j (each_other (EndsAt (content e) k) j other each)

  still_within : (k j : ℕ) → IsKnown known j → IsWithin before k j → IsWithin after k j
  still_within zero j is w = still_case zero (λ j x y. y) j is w
  still_within (suc k) j is w = still_case (suc k) (still_within k) j is w

  did_case : (k : ℕ) → DidEnd k → (j : ℕ) → IsKnown known j → IsWithin after k j → IsWithin before k j
  did_case k step j is w =
      end_within (content d) k j
      (both_of (IsKnownAt d known) (EndsAt (content e) k) (EndsAt (content d) k) (λ n x y. did_at k n step x y) (by_value (own_body (content d) j)) (closed j is) (each_before (EndsAt (content e) k) j (asked_end (content e) k j w)))

  was_within : (k j : ℕ) → IsKnown known j → IsWithin after k j → IsWithin before k j
  was_within zero j is w = did_case zero (λ j x y. y) j is w
  was_within (suc k) j is w = did_case (suc k) (was_within k) j is w

  -- ---- alignments

  abbrev old : ℕ → Result ℕ Fault
  old n = align (space_of d) n

  abbrev new : ℕ → Result ℕ Fault
  new n = align (space_of e) n

  abbrev number : ℕ → ℕ
  number j = own_number (is_some d.parent) j

  -- a number that names no own type
  new_elsewhere : (n : ℕ) → own_index (is_some d.parent) (count_of d) n ≡ None → new n ≡ old n
  new_elsewhere n none =
      ap (λ (k : DataModel). comes_to (aligning k) (parents_figure (aligning k) e.parent) (content e) most_numbers n) model
      ∙ ap (λ (q : Option Dictionary). comes_to (aligning d.model) (parents_figure (aligning d.model) q) (content e) most_numbers n) parent
      ∙ same_figure (content d) (content e) (λ j. ⊥) (record { child = ap is_some parent; inside = λ j k. absurd k; body = λ j k. absurd k; closed = λ j k. absurd k })
      (aligning d.model) (figures_ask.aligning_asks d.model) (parents_figure (aligning d.model) d.parent) most_numbers n
      (record { same = own_same n; kept = subst (λ (o : Option ℕ). MatchOption o (Unit {0}) (λ j. ⊥)) (sym none) tt })

  own_is : (n j : ℕ) → own_index (is_some d.parent) (count_of d) n ≡ Some j → n ≡ number j
  own_is n j own = let h = own_inside (is_some d.parent) (count_of d) n j own in h.2

  abbrev SameAlign : ℕ → Type 0
  SameAlign k = (j : ℕ) → IsKnown known j → Ends before k j → new (number j) ≡ old (number j)

  number_same : (k n : ℕ) → SameAlign k → IsKnownAt d known n → EndsAt (content d) k n → new n ≡ old n
  number_same k n step is ends = at (own_index (is_some d.parent) (count_of d) n) refl is ends
    where
      at : (o : Option ℕ) → own_index (is_some d.parent) (count_of d) n ≡ o → MatchOption o (Unit {0}) (IsKnown known) → MatchOption o (Unit {0}) (Ends before k) → new n ≡ old n
      at None own x y = new_elsewhere n own
      at (Some j) own x y = ap new (own_is n j own) ∙ step j x y ∙ sym (ap old (own_is n j own))

  inside : (j : ℕ) → IsKnown known j → j < count_of d
  inside j is = let it = found (slice_index_or known j None) is in (knows.right j it.0 it.1).inside

  old_rule : (k j : ℕ) → IsKnown known j → k ≤ longest_chain → IsWithin before k j → old (number j) ≡ align_body d.model old (own_body (content d) j)
  old_rule k j is short w = own_figure (aligning d.model) (figures_ask.aligning_asks d.model) (space_of d) k j short (inside j is) w

  new_rule : (k j : ℕ) → IsKnown known j → k ≤ longest_chain → IsWithin after k j → new (own_number (is_some e.parent) j) ≡ align_body e.model new (own_body (content e) j)
  new_rule k j is short w = let lt = inside j is in own_figure (aligning e.model) (figures_ask.aligning_asks e.model) (space_of e) k j short (omega (arith, lt, count)) w

  -- the alignment of the type does not change
  stays_aligned : (k : ℕ) → k ≤ longest_chain → IsWithin before k i → (counts_more (own_body (content d) i) ≡ false) ⊎ (greater (align_body d.model old (own_body (content d) i)) (old m.tnum) ≡ align_body d.model old (own_body (content d) i))
  stays_aligned k short w =
      let is : stays.reach.align ≡ align_body d.model old (own_body (content d) i) = (knows.right i stays.reach stays.is).aligned ∙ old_rule k i here_known short w in
      subst (λ (r : Result ℕ Fault). (counts_more (own_body (content d) i) ≡ false) ⊎ (greater r (old m.tnum) ≡ r)) is stays.aligned

  align_case : (k : ℕ) → SameAlign k → (j : ℕ) → IsKnown known j → k ≤ longest_chain → IsWithin before k j → new (number j) ≡ old (number j)
  align_case k step j is short w =
      ap (λ (q : Option Dictionary). new (own_number (is_some q) j)) (sym parent)
      ∙ new_rule k j is short (still_within k j is w)
      ∙ ap (λ (x : DataModel). align_body x new (own_body (content e) j)) model
      ∙ (figures_ask.aligning_asks d.model).same new old (number j) (own_body (content e) j) (all (same_or_not j i))
      ∙ last (same_or_not j i)
      ∙ sym (old_rule k j is short w)
    where
      each : AllByRecursion (λ n. new n ≡ old n) (by_value (own_body (content d) j))
      each = both_of (IsKnownAt d known) (EndsAt (content d) k) (λ n. new n ≡ old n) (λ n x y. number_same k n step x y) (by_value (own_body (content d) j)) (closed j is) (asked_end (content d) k j w)

      within : j ≡ i → IsWithin before k i
      within same = subst (IsWithin before k) same w

      all : (j ≡ i) ⊎ (j ≢ i) → AllByRecursion (λ n. new n ≡ old n) (by_value (own_body (content e) j))
      all (inl same) = each_here (λ n. new n ≡ old n) j same (number_same k m.tnum step below_known (below_within k (within same))) each
      all (inr other) = each_other (λ n. new n ≡ old n) j other each

      last : (j ≡ i) ⊎ (j ≢ i) → align_body d.model old (own_body (content e) j) ≡ align_body d.model old (own_body (content d) j)
      last (inl same) =
          ap (align_body d.model old) (one_more j same)
          ∙ same_aligned d.model old m size (own_body (content d) j)
          (subst (λ (x : ℕ). (counts_more (own_body (content d) x) ≡ false) ⊎ (greater (align_body d.model old (own_body (content d) x)) (old m.tnum) ≡ align_body d.model old (own_body (content d) x))) (sym same) (stays_aligned k short (within same)))
      last (inr other) = ap (align_body d.model old) (others j other)

  align_same : (k j : ℕ) → IsKnown known j → k ≤ longest_chain → IsWithin before k j → new (number j) ≡ old (number j)
  align_same zero j is short w = align_case zero (λ j x y. absurd y) j is short w
  align_same (suc k) j is short w = align_case (suc k) (λ j x y. align_same k j x (omega (arith, short)) y) j is short w

  known_at : (n : ℕ) → IsKnownAt d known n → IsKnownAt e known n
  known_at n is = subst (λ (o : Option ℕ). MatchOption o (Unit {0}) (IsKnown known)) (sym (own_same n)) is

  pub still_knows : Knows e known
  still_knows = record { right = λ j r is. right j r is (ap is_some is); closed = λ j r is. all j (knows.closed j r is) (same_or_not j i) }
    where
      right : (j : ℕ) (r : Reach) → slice_index_or known j None ≡ Some r → IsKnown known j → IsReach e j r
      right j r is k =
          let was = knows.right j r is in
          let lt = was.inside in
          record {
            inside = omega (arith, lt, count);
            depth = record { within = still_within r.depth j k was.depth.within; least = λ n w. was.depth.least n (was_within n j k w) };
            short = was.short;
            aligned = was.aligned ∙ sym (align_same r.depth j k was.short was.depth.within) ∙ ap (λ (q : Option Dictionary). new (own_number (is_some q) j)) (sym parent);
          }

      all : (j : ℕ) → AllByRecursion (IsKnownAt d known) (by_value (own_body (content d) j)) → (j ≡ i) ⊎ (j ≢ i) → AllByRecursion (IsKnownAt e known) (by_value (own_body (content e) j))
      all j h (inl same) = each_here (IsKnownAt e known) j same (known_at m.tnum below_known) (all_map (IsKnownAt d known) (IsKnownAt e known) known_at (by_value (own_body (content d) j)) h)
      all j h (inr other) = each_other (IsKnownAt e known) j other (all_map (IsKnownAt d known) (IsKnownAt e known) known_at (by_value (own_body (content d) j)) h)

-- ---- drafts in code

pub by_either : {P : Type 0} (b : Bool) → (b ≡ true → P) → (b ≡ false → P) → P
by_either true f g = f refl
by_either false f g = g refl

set_same : (xs : List Term) (s : ℕ) (x : Term) → s < length xs → get_or xs s nothing ≡ x → set xs s x ≡ xs
set_same [] s x lt is = refl
set_same (y ∷ xs) zero x lt is = ap (λ (z : Term). z ∷ xs) (sym is)
set_same (y ∷ xs) (suc s) x lt is = ap (λ (zs : List Term). y ∷ zs) (set_same xs s x (omega (arith, lt)) is)

module _ (parname parlabel : List ℕ) (parent : Option Dictionary) (model : DataModel) (known : List (Option Reach)) (u v : ℕ) (terms : List Term) (labels : List Label) where
  abbrev made : List Term → Draft
  made ts = seen parname parlabel parent model u v ts labels

  all : (ts : List Term) → (content (made ts)).terms ≡ ts
  all ts = all_terms parname parlabel parent model u v ts labels

  more_known : (s : ℕ) (y : Term) (m : Member) (size : ℕ) → s < length terms → y.body ≡ with_member m size (own_body (content (made terms)) s) → Stays (made terms) known s m.tnum → Knows (made terms) known → Knows (made (set terms s y)) known
  more_known s y m size lt is stays knows =
      still_knows (made terms) (made (set terms s y)) known s m size refl refl
      (ap length (all (set terms s y)) ∙ length-set terms s y ∙ sym (ap length (all terms)))
      (λ j other. ap (λ (ts : List Term). (get_or ts j nothing).body) (all (set terms s y)) ∙ ap (λ (z : Term). z.body) (get_or-set_other terms s j y nothing other) ∙ sym (ap (λ (ts : List Term). (get_or ts j nothing).body) (all terms)))
      (ap (λ (ts : List Term). (get_or ts s nothing).body) (all (set terms s y)) ∙ ap (λ (z : Term). z.body) (get_or-set_at terms s s y nothing refl lt) ∙ is)
      knows stays

  -- one more member, or out of memory
  pub pushed_known : {A E : Type 0} (r : Result A E) (s : ℕ) (x y : Term) (m : Member) (size : ℕ) → s < length terms → get_or terms s nothing ≡ x → OnOk r (y ≡ with_body (with_member m size x.body) x) → OnErr r (y ≡ x) → Stays (made terms) known s m.tnum → Knows (made terms) known → Knows (made (set terms s y)) known
  pushed_known (Ok a) s x y m size lt is done left stays knows =
      let was : own_body (content (made terms)) s ≡ x.body = ap (λ (ts : List Term). (get_or ts s nothing).body) (all terms) ∙ ap (λ (z : Term). z.body) is in
      more_known s y m size lt (ap (λ (z : Term). z.body) done ∙ ap (with_member m size) (sym was)) stays knows
  pushed_known (Err f) s x y m size lt is done left stays knows =
      subst (λ (ts : List Term). Knows (made ts) known) (sym (ap (set terms s) left ∙ set_same terms s x lt is)) knows
