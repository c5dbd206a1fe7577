-- Known reaches of a draft's types stay correct when something is added.
use Rattle.std.proofs.Common.{◌≡◌, ℕ, ◌<◌, ◌≤◌, Bool, true, false, List, [], ◌∷◌, ◌++◌, length, map, set, get_or, Option, Some, None, is_some, refl, sym, ap, subst, ◌∙◌, arith, ◌⊎◌, inl, inr, ◌≢◌, length-append}
use Rattle.std.specs.Prelude.{MatchOption, slice_index_or}
use Rattle.std.specs.List.{AllByRecursion, list_any}
use Rattle.std.proofs.lemmas.Bool.{leb-false, lt-ltb}
use Rattle.std.proofs.lemmas.List.{get_or-set_other, get_or_append_left, length-set}
use Rattle.std.proofs.lemmas.Option.{slice_get-get_or}
use Rattle.ctf_model.specs.rules.Chains.{by_value, own_index, own_index_at}
use Rattle.ctf_model.specs.format.Dictionary.{Dictionary, Label}
use Rattle.ctf_model.specs.drafts.DraftLaws.{IsSound, NamesThere}
use Rattle.ctf_model.specs.drafts.Drafts.{Draft, all_of, count_of, content, is_absent, space_of}
use Rattle.ctf_model.specs.figures.FigureLaws.{nothing, own_body}
use Rattle.ctf_model.specs.figures.Figures.{align, aligning, comes_to, most_numbers, parents_figure}
use Rattle.ctf_model.specs.rules.References.{is_missing_at, references}
use Rattle.ctf_model.specs.format.Term.{Body, Member, Term}
use Rattle.ctf_model.specs.format.Term as term
use Rattle.ctf_model.specs.spaces.TypePlaces.{own_number, place}
use Rattle.ctf_model.specs.declared.data_model.DataModel.{DataModel}
use Rattle.ctf_model.specs.declared.numbers.Place.{Place}
use Rattle.ctf_model.specs.declared.numbers.Place.TheVariants.{Nowhere, Own, Parents}
use Rattle.ctf_model.proofs.Alls.{all_got, none_all}
use Rattle.ctf_model.proofs.Anywhere.{all_map}
use Rattle.ctf_model.proofs.DraftNumbers.{there_not_missing}
use Rattle.ctf_model.proofs.FigureAsks.{figures_ask}
use Rattle.ctf_model.proofs.OwnTypes.{own_of, place_of_own}
use Rattle.ctf_draft.specs.Reaching.{IsKnown, IsKnownAt, Knows}
use Rattle.ctf_draft.specs.declared.reach.Reach.{Reach}
use Rattle.ctf_draft.proofs.Kept.{Stay, StaysSame, same_depth, same_figure}
use Rattle.ctf_draft.proofs.Views.{all_terms, seen}

apart : true ≡ false → ⊥
apart h = cc

-- a fact of every number holds for a list of numbers
all_of_same : (P : ℕ → Type 0) → ((n : ℕ) → P n) → (ns : List ℕ) → AllByRecursion P ns
all_of_same P f [] = tt
all_of_same P f (n ∷ ns) = (f n, all_of_same P f ns)

found : (o : Option Reach) → is_some o ≡ true → (r : Reach) × (o ≡ Some r)
found None h = absurd cc
found (Some r) h = (r, refl)

-- ---- from one draft to another

module _ (d e : Draft) (known : List (Option Reach)) (knows : Knows d known) (parent : e.parent ≡ d.parent) (model : e.model ≡ d.model) where
  -- the number names the same own type in both drafts
  abbrev Same : ℕ → Type 0
  Same n = own_index (is_some e.parent) (count_of e) n ≡ own_index (is_some d.parent) (count_of d) n

  module _ (more : count_of d ≤ count_of e) (bodies : (j : ℕ) → j < count_of d → IsKnown known j → own_body (content e) j ≡ own_body (content d) j) (numbers : (j : ℕ) → j < count_of d → IsKnown known j → AllByRecursion Same (by_value (own_body (content d) j))) where
    inside : (j : ℕ) → IsKnown known j → j < count_of d
    inside j k = let it = found (slice_index_or known j None) k in (knows.right j it.0 it.1).inside

    both : (ns : List ℕ) → AllByRecursion Same ns → AllByRecursion (IsKnownAt d known) ns → AllByRecursion (StaysSame (content d) (content e) (IsKnown known)) ns
    both [] s k = tt
    both (n ∷ ns) s k = (record { same = s.0; kept = k.0 }, both ns s.1 k.1)

    stay : Stay (content d) (content e) (IsKnown known)
    stay = record {
      child = ap is_some parent;
      inside = λ j k. let lt = inside j k in (lt, omega arith);
      body = λ j k. bodies j (inside j k) k;
      closed = λ j k.
          let it = found (slice_index_or known j None) k in
          both (by_value (own_body (content d) j)) (numbers j (inside j k) k) (knows.closed j it.0 it.1);
    }

    own_stays : (j : ℕ) → IsKnown known j → StaysSame (content d) (content e) (IsKnown known) (own_number (is_some d.parent) j)
    own_stays j k =
        let lt = inside j k in
        let here : own_index (is_some d.parent) (count_of d) (own_number (is_some d.parent) j) ≡ Some j = own_of (is_some d.parent) (count_of d) (own_number (is_some d.parent) j) j (place_of_own (is_some d.parent) j) lt in
        let there : own_index (is_some d.parent) (count_of e) (own_number (is_some d.parent) j) ≡ Some j = own_of (is_some d.parent) (count_of e) (own_number (is_some d.parent) j) j (place_of_own (is_some d.parent) j) (omega arith) in
        record {
          same = ap (λ (q : Option Dictionary). own_index (is_some q) (count_of e) (own_number (is_some d.parent) j)) parent ∙ there ∙ sym here;
          kept = rw here k;
        }

    same_align : (j : ℕ) → IsKnown known j → align (space_of e) (own_number (is_some e.parent) j) ≡ align (space_of d) (own_number (is_some d.parent) j)
    same_align j k =
        ap (λ (q : Option Dictionary). align (space_of e) (own_number (is_some q) j)) parent
        ∙ ap (λ (m : DataModel). comes_to (aligning m) (parents_figure (aligning m) e.parent) (content e) most_numbers (own_number (is_some d.parent) j)) model
        ∙ ap (λ (q : Option Dictionary). comes_to (aligning d.model) (parents_figure (aligning d.model) q) (content e) most_numbers (own_number (is_some d.parent) j)) parent
        ∙ same_figure (content d) (content e) (IsKnown known) stay (aligning d.model) (figures_ask.aligning_asks d.model) (parents_figure (aligning d.model) d.parent) most_numbers (own_number (is_some d.parent) j) (own_stays j k)

    pub still_known : Knows e known
    still_known = record {
      right = λ j r is.
          let k : IsKnown known j = ap is_some is in
          let was = knows.right j r is in
          record {
            inside = let lt = was.inside in omega arith;
            depth = same_depth (content d) (content e) (IsKnown known) stay j r.depth k was.depth;
            short = was.short;
            aligned = was.aligned ∙ sym (same_align j k);
          };
      closed = λ j r is.
          let k : IsKnown known j = ap is_some is in
          subst (λ (b : Body). AllByRecursion (IsKnownAt e known) (by_value b)) (sym (bodies j (inside j k) k))
          (all_map (StaysSame (content d) (content e) (IsKnown known)) (IsKnownAt e known) (λ n h. subst (λ (o : Option ℕ). MatchOption o (Unit {0}) (IsKnown known)) (sym h.same) h.kept) (by_value (own_body (content d) j)) (stay.closed j k));
    }

-- ---- references of a sound draft

members_pass : (p : ℕ → Bool) (ns : List ℕ) → list_any p ns ≡ false → AllByRecursion (λ n. p n ≡ false) ns
members_pass p ns h = none_all p (λ n. p n ≡ false) (λ n g. g) ns h

-- a type's targets by value are among its references
pub named_by_value : (p : ℕ → Bool) (x : Body) → list_any p (references x) ≡ false → AllByRecursion (λ n. p n ≡ false) (by_value x)
named_by_value p (term.typedef t) h = members_pass p (t ∷ []) h
named_by_value p (term.volatile t) h = members_pass p (t ∷ []) h
named_by_value p (term.const t) h = members_pass p (t ∷ []) h
named_by_value p (term.restrict t) h = members_pass p (t ∷ []) h
named_by_value p (term.array e) h = let all = members_pass p (e.contents ∷ e.index ∷ []) h in (all.0, tt)
named_by_value p (term.struct said ms) h = members_pass p (map (λ m. m.tnum) ms) h
named_by_value p (term.union said ms) h = members_pass p (map (λ m. m.tnum) ms) h
named_by_value p (term.integer x) h = tt
named_by_value p (term.float x) h = tt
named_by_value p (term.pointer t) h = tt
named_by_value p (term.function r ts) h = tt
named_by_value p (term.enum said xs) h = tt
named_by_value p (term.forward t) h = tt
named_by_value p term.unknown h = tt

index_stays : (a b n : ℕ) (p : Place) → a ≤ b → is_missing_at a n p ≡ false → own_index_at b p ≡ own_index_at a p
index_stays a b n Nowhere le h = refl
index_stays a b n (Parents i) le h = refl
index_stays a b n (Own i) le h =
    let lt : i < a = leb-false a i h in
    let low = lt-ltb i a lt in
    let high = lt-ltb i b (omega arith) in
    rw (low, high) refl

-- an existing number names the same type if more types are added
pub there_stays : (d : Draft) (b n : ℕ) → count_of d ≤ b → is_absent d n ≡ false → own_index (is_some d.parent) b n ≡ own_index (is_some d.parent) (count_of d) n
there_stays d b n le h = index_stays (count_of d) b n (place (is_some d.parent) n) le (there_not_missing d n h)

pub sound_names : (d : Draft) → IsSound d → (j : ℕ) → j < count_of d → AllByRecursion (λ n. is_absent d n ≡ false) (by_value (own_body (content d) j))
sound_names d ok j lt = named_by_value (is_absent d) (own_body (content d) j) (all_got (NamesThere d) (all_of d).terms j (slice_index_or (content d).terms j nothing) ok.all.named (slice_get-get_or (content d).terms j nothing lt))

-- ---- drafts in code

module _ (parname parlabel : List ℕ) (parent : Option Dictionary) (model : DataModel) (known : List (Option Reach)) (u v : ℕ) (terms : List Term) (labels : List Label) where
  abbrev before : Draft
  before = seen parname parlabel parent model u v terms labels

  -- one more type
  pub type_known : (x : Term) → IsSound before → Knows before known → Knows (seen parname parlabel parent model u v (terms ++ x ∷ []) labels) known
  type_known x ok knows =
      let e = seen parname parlabel parent model u v (terms ++ x ∷ []) labels in
      let a = all_terms parname parlabel parent model u v terms labels in
      let b = all_terms parname parlabel parent model u v (terms ++ x ∷ []) labels in
      let ca : count_of before ≡ length terms = ap length a in
      let cb : count_of e ≡ length (terms ++ x ∷ []) = ap length b in
      let len = length-append terms (x ∷ []) in
      let more : count_of before ≤ count_of e = omega (arith, ca, cb, len) in
      still_known before e known knows refl refl more
      (λ j lt k.
      ap (λ (ts : List Term). (get_or ts j nothing).body) b ∙ ap (λ (y : Term). y.body) (get_or_append_left terms (x ∷ []) nothing j (omega (arith, ca, lt))) ∙ sym (ap (λ (ts : List Term). (get_or ts j nothing).body) a))
      (λ j lt k. all_map (λ n. is_absent before n ≡ false) _ (λ n h. there_stays before (count_of e) n more h) (by_value (own_body (content before) j)) (sound_names before ok j lt))

  -- another type at an index without an entry
  pub other_known : (s : ℕ) (y : Term) → slice_index_or known s None ≡ None → Knows before known → Knows (seen parname parlabel parent model u v (set terms s y) labels) known
  other_known s y none knows =
      let e = seen parname parlabel parent model u v (set terms s y) labels in
      let a = all_terms parname parlabel parent model u v terms labels in
      let b = all_terms parname parlabel parent model u v (set terms s y) labels in
      let same : count_of e ≡ count_of before = ap length b ∙ length-set terms s y ∙ sym (ap length a) in
      still_known before e known knows refl refl (omega (arith, same))
      (λ j lt k.
      let other : j ≢ s = λ is. let some = rw is at k in let no : is_some (slice_index_or known s None) ≡ false = ap is_some none in absurd (apart (sym some ∙ no)) in
      ap (λ (ts : List Term). (get_or ts j nothing).body) b ∙ ap (λ (z : Term). z.body) (get_or-set_other terms s j y nothing other) ∙ sym (ap (λ (ts : List Term). (get_or ts j nothing).body) a))
      (λ j lt k. all_of_same (λ n. own_index (is_some parent) (count_of e) n ≡ own_index (is_some parent) (count_of before) n) (λ n. ap (λ (c : ℕ). own_index (is_some parent) c n) same) (by_value (own_body (content before) j)))

-- other labels, or another border between updated and pending items
pub terms_known : (parname parlabel : List ℕ) (parent : Option Dictionary) (model : DataModel) (known : List (Option Reach)) (u v x y : ℕ) (terms : List Term) (labels others : List Label) → Knows (seen parname parlabel parent model u v terms labels) known → Knows (seen parname parlabel parent model x y terms others) known
terms_known parname parlabel parent model known u v x y terms labels others knows =
    let d = seen parname parlabel parent model u v terms labels in
    let e = seen parname parlabel parent model x y terms others in
    let all : (all_of e).terms ≡ (all_of d).terms = all_terms parname parlabel parent model x y terms others ∙ sym (all_terms parname parlabel parent model u v terms labels) in
    let same : count_of e ≡ count_of d = ap length all in
    still_known d e known knows refl refl (omega (arith, same))
    (λ j lt k. ap (λ (ts : List Term). (get_or ts j nothing).body) all)
    (λ j lt k. all_of_same (λ n. own_index (is_some parent) (count_of e) n ≡ own_index (is_some parent) (count_of d) n) (λ n. ap (λ (c : ℕ). own_index (is_some parent) c n) same) (by_value (own_body (content d) j)))

-- ---- tables

-- a table with the same entries
pub same_known : (d : Draft) (a b : List (Option Reach)) → ((j : ℕ) → slice_index_or b j None ≡ slice_index_or a j None) → Knows d a → Knows d b
same_known d a b same knows = record {
  right = λ j r is. knows.right j r (sym (same j) ∙ is);
  closed = λ j r is. all_map (IsKnownAt d a) (IsKnownAt d b) (λ n h. at n (own_index (is_some d.parent) (count_of d) n) h) (by_value (own_body (content d) j)) (knows.closed j r (sym (same j) ∙ is));
}
  where
    at : (n : ℕ) (o : Option ℕ) → MatchOption o (Unit {0}) (IsKnown a) → MatchOption o (Unit {0}) (IsKnown b)
    at n None h = tt
    at n (Some j) h = ap is_some (same j) ∙ h

-- a table with all entries removed
pub none_known : (d : Draft) (b : List (Option Reach)) → ((j : ℕ) → slice_index_or b j None ≡ None) → Knows d b
none_known d b none = record {
  right = λ j r is. let no = none j in absurd cc;
  closed = λ j r is. let no = none j in absurd cc;
}

pub left_known : (d : Draft) (a b : List (Option Reach)) → (b ≡ a) ⊎ ((j : ℕ) → slice_index_or b j None ≡ None) → Knows d a → Knows d b
left_known d a b (inl same) knows = subst (Knows d) (sym same) knows
left_known d a b (inr none) knows = none_known d b none
