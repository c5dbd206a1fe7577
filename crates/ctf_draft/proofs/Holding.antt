-- Drafts in code keep their bounds.
use Rattle.std.proofs.Common.{◌≡◌, ℕ, zero, suc, ◌+◌, ◌<◌, ◌≤◌, Bool, true, false, cond, List, [], ◌∷◌, ◌++◌, length, map, take, set, get_or, Option, Some, None, Result, Ok, Err, is_some, refl, sym, ap, subst, ◌∙◌, arith, ◌⊎◌, inl, inr, ◌≢◌, length-append}
use Rattle.std.specs.Prelude.{MatchOption, OnErr, OnOk}
use Rattle.std.specs.List.{AllByRecursion}
use Rattle.std.proofs.lemmas.List.{get_or-map, get_or-set_other, get_or_append_left, length-map, length-set, length-take, map-set}
use Rattle.std.proofs.lemmas.Grind.{get_or-set_at}
use Rattle.ctf_chains.proofs.Lists.{same_or_not}
use Rattle.ctf_model.specs.drafts.Adders.{against_type, with_body, with_enumerator, with_member}
use Rattle.ctf_model.specs.drafts.DraftLaws.{IsSound}
use Rattle.ctf_model.specs.drafts.Drafts.{Draft, all_of, count_of, content, is_absent}
use Rattle.ctf_model.specs.figures.FigureLaws.{nothing, own_body}
use Rattle.ctf_model.specs.format.Dictionary.{Dictionary, Label}
use Rattle.ctf_model.specs.format.Term.{Body, Term}
use Rattle.ctf_model.specs.format.Term as term
use Rattle.ctf_model.specs.rules.Chains.{by_value, own_index}
use Rattle.ctf_model.specs.rules.Judgements.{Row, first_met}
use Rattle.ctf_model.specs.rules.Refusals.{placeless}
use Rattle.ctf_model.specs.spaces.TypePlaces.{place}
use Rattle.ctf_model.specs.declared.data_model.DataModel.{DataModel}
use Rattle.ctf_model.proofs.Anywhere.{all_map}
use Rattle.ctf_model.proofs.OwnTypes.{own_inside}
use Rattle.ctf_draft.specs.Bounding.{IsBounded, IsNoted, IsNotedAt, IsOver, IsOverAt, IsReady, above_of, bound}
use Rattle.ctf_draft.specs.Pending.{StandsPending}
use Rattle.ctf_draft.specs.TypeView.{type_of}
use Rattle.ctf_draft.specs.declared.depths.Depths.{Depths}
use Rattle.ctf_draft.specs.declared.types.DraftType.{DraftType}
use Rattle.ctf_draft.proofs.Bounded.{SameAt, index_low, low_or_high, match_of, noted_still, over_still, past_end, same_bounded, with_enumerator_by, with_member_all}
use Rattle.ctf_draft.proofs.Known.{named_by_value, sound_names, there_stays}
use Rattle.ctf_draft.proofs.Lifting.{both_of, each_of}
use Rattle.ctf_draft.proofs.Views.{all_terms, seen}

-- ---- lists

get_or_take : {X : Type 0} (n : ℕ) (xs : List X) (k : ℕ) (d : X) → k < n → get_or (take n xs) k d ≡ get_or xs k d
get_or_take zero xs k d lt = absurd (omega arith)
get_or_take (suc n) [] k d lt = refl
get_or_take (suc n) (x ∷ xs) zero d lt = refl
get_or_take (suc n) (x ∷ xs) (suc k) d lt = get_or_take n xs k d (omega arith)

last_one : (terms : List Term) (y : Term) (i : ℕ) → i ≡ length terms → get_or (terms ++ y ∷ []) i nothing ≡ y
last_one [] y zero same = refl
last_one [] y (suc i) same = absurd (omega (arith, same))
last_one (x ∷ terms) y zero same = absurd (omega (arith, same))
last_one (x ∷ terms) y (suc i) same = last_one terms y i (omega (arith, same))

-- ---- references of an accepted type

pub all_unmet : (rows : List Row) → first_met rows ≡ None → AllByRecursion (λ row. row.met ≡ false) rows
all_unmet [] h = tt
all_unmet (row ∷ rows) h = at row.met refl h (all_unmet rows)
  where
    at : (b : Bool) → row.met ≡ b → cond b (Some (placeless row.code)) (first_met rows) ≡ None → (first_met rows ≡ None → AllByRecursion (λ r. r.met ≡ false) rows) → AllByRecursion (λ r. r.met ≡ false) (row ∷ rows)
    at true e g more = absurd cc
    at false e g more = (e, more g)

pub accepted_named : (d : Draft) (x : Term) → first_met (against_type d x) ≡ None → AllByRecursion (λ n. is_absent d n ≡ false) (by_value x.body)
accepted_named d x none = named_by_value (is_absent d) x.body (all_unmet (against_type d x) none).1.1.0

-- ---- drafts in code

module _ (parname parlabel : List ℕ) (parent : Option Dictionary) (model : DataModel) where
  abbrev made : ℕ → ℕ → List Term → List Label → Draft
  made u v terms labels = seen parname parlabel parent model u v terms labels

  all_same : (u v x y : ℕ) (terms : List Term) (labels others : List Label) → (all_of (made x y terms others)).terms ≡ (all_of (made u v terms labels)).terms
  all_same u v x y terms labels others = all_terms parname parlabel parent model x y terms others ∙ sym (all_terms parname parlabel parent model u v terms labels)

  -- other labels, or more updated items
  pub terms_bounded : (d : Depths) (u v x y : ℕ) (terms : List Term) (labels others : List Label) → u ≤ x → x ≤ length terms → IsBounded (made u v terms labels) d → IsBounded (made x y terms others) d
  terms_bounded d u v x y terms labels others le few ok =
      let all = all_same u v x y terms labels others in
      let count : count_of (made x y terms others) ≡ count_of (made u v terms labels) = ap length all in
      same_bounded (made u v terms labels) (made x y terms others) d (omega (arith, length-take u terms, length-take x terms, le, few))
      (λ i. (ap (λ (ts : List Term). by_value (get_or ts i nothing).body) all, each_of (SameAt (made u v terms labels) (made x y terms others)) (λ n. ap (λ (c : ℕ). own_index (is_some parent) c n) count) (by_value (own_body (content (made u v terms labels)) i)))) ok

  module _ (d : Depths) (u v : ℕ) (terms : List Term) (labels : List Label) (s : ℕ) (y : Term) where
    changed : Draft
    changed = made u v (set terms s y) labels

    count_same : count_of (made u v (set terms s y) labels) ≡ count_of (made u v terms labels)
    count_same = ap length (all_terms parname parlabel parent model u v (set terms s y) labels) ∙ length-set terms s y ∙ sym (ap length (all_terms parname parlabel parent model u v terms labels))

    border_same : length (take u terms) ≤ length (take u (set terms s y))
    border_same = omega (arith, length-take u terms, length-take u (set terms s y), length-set terms s y)

    numbers_same : (ns : List ℕ) → AllByRecursion (SameAt (made u v terms labels) (made u v (set terms s y) labels)) ns
    numbers_same ns = each_of (SameAt (made u v terms labels) (made u v (set terms s y) labels)) (λ n. ap (λ (c : ℕ). own_index (is_some parent) c n) count_same) ns

    body_other : (j : ℕ) → j ≢ s → own_body (content (made u v (set terms s y) labels)) j ≡ own_body (content (made u v terms labels)) j
    body_other j other =
        ap (λ (ts : List Term). (get_or ts j nothing).body) (all_terms parname parlabel parent model u v (set terms s y) labels)
        ∙ ap (λ (z : Term). z.body) (get_or-set_other terms s j y nothing other)
        ∙ sym (ap (λ (ts : List Term). (get_or ts j nothing).body) (all_terms parname parlabel parent model u v terms labels))

    body_here : (j : ℕ) → j ≡ s → s < length terms → own_body (content (made u v (set terms s y) labels)) j ≡ y.body
    body_here j same lt =
        ap (λ (ts : List Term). (get_or ts j nothing).body) (all_terms parname parlabel parent model u v (set terms s y) labels)
        ∙ ap (λ (z : Term). z.body) (get_or-set_at terms s j y nothing same lt)

    -- if the targets of the changed type are bounded, all are
    pub changed_bounded : s < length terms → AllByRecursion (IsOverAt (made u v terms labels) d.bounds.items s) (by_value y.body) → AllByRecursion (IsNotedAt (made u v terms labels) (above_of d.above.items) s) (by_value y.body) → IsBounded (made u v terms labels) d → IsBounded (made u v (set terms s y) labels) d
    changed_bounded lt over noted ok = record { over = λ i. over_at i (same_or_not i s); noted = λ i. noted_at i (same_or_not i s) }
      where
        over_at : (i : ℕ) → (i ≡ s) ⊎ (i ≢ s) → AllByRecursion (IsOverAt (made u v (set terms s y) labels) d.bounds.items i) (by_value (own_body (content (made u v (set terms s y) labels)) i))
        over_at i (inl same) = subst (λ (b : Body). AllByRecursion (IsOverAt (made u v (set terms s y) labels) d.bounds.items i) (by_value b)) (sym (body_here i same lt))
            (over_still (made u v terms labels) (made u v (set terms s y) labels) d border_same i (by_value y.body) (numbers_same (by_value y.body)) (subst (λ (k : ℕ). AllByRecursion (IsOverAt (made u v terms labels) d.bounds.items k) (by_value y.body)) (sym same) over))
        over_at i (inr other) = subst (λ (b : Body). AllByRecursion (IsOverAt (made u v (set terms s y) labels) d.bounds.items i) (by_value b)) (sym (body_other i other))
            (over_still (made u v terms labels) (made u v (set terms s y) labels) d border_same i (by_value (own_body (content (made u v terms labels)) i)) (numbers_same (by_value (own_body (content (made u v terms labels)) i))) (ok.over i))

        noted_at : (i : ℕ) → (i ≡ s) ⊎ (i ≢ s) → AllByRecursion (IsNotedAt (made u v (set terms s y) labels) (above_of d.above.items) i) (by_value (own_body (content (made u v (set terms s y) labels)) i))
        noted_at i (inl same) = subst (λ (b : Body). AllByRecursion (IsNotedAt (made u v (set terms s y) labels) (above_of d.above.items) i) (by_value b)) (sym (body_here i same lt))
            (noted_still (made u v terms labels) (made u v (set terms s y) labels) d border_same i (by_value y.body) (numbers_same (by_value y.body)) (subst (λ (k : ℕ). AllByRecursion (IsNotedAt (made u v terms labels) (above_of d.above.items) k) (by_value y.body)) (sym same) noted))
        noted_at i (inr other) = subst (λ (b : Body). AllByRecursion (IsNotedAt (made u v (set terms s y) labels) (above_of d.above.items) i) (by_value b)) (sym (body_other i other))
            (noted_still (made u v terms labels) (made u v (set terms s y) labels) d border_same i (by_value (own_body (content (made u v terms labels)) i)) (numbers_same (by_value (own_body (content (made u v terms labels)) i))) (ok.noted i))

  -- the body of the type at an index
  body_was : (u v : ℕ) (items : List DraftType) (labels : List Label) (s : ℕ) (t : DraftType) → s < length items → t ≡ get_or items s t → own_body (content (made u v (map type_of items) labels)) s ≡ (type_of t).body
  body_was u v items labels s t lt is =
      ap (λ (ts : List Term). (get_or ts s nothing).body) (all_terms parname parlabel parent model u v (map type_of items) labels)
      ∙ ap (λ (x : Term). x.body) (get_or-map type_of items s t nothing lt ∙ ap type_of (sym is))

  -- a pending type's index is in range
  pub place_inside : (u v : ℕ) (items : List DraftType) (labels : List Label) (n i : ℕ) (e : Draft) → made u v (map type_of items) labels ≡ e → StandsPending e n i → i < length items
  place_inside u v items labels n i e view at =
      let inside = (own_inside (is_some e.parent) (count_of e) n i at.own).1 in
      let same : count_of (made u v (map type_of items) labels) ≡ count_of e = ap count_of view in
      let all = ap length (all_terms parname parlabel parent model u v (map type_of items) labels) in
      omega (arith, inside, same, all, length-map items type_of)

  module _ (d : Depths) (u v : ℕ) (items : List DraftType) (labels : List Label) (s : ℕ) (t new : DraftType) (lt : s < length items) (is : t ≡ get_or items s t) (ok : IsBounded (made u v (map type_of items) labels) d) where
    low : s < length (map type_of items)
    low = let e = length-map items type_of in omega (arith, e, lt)

    -- a change that keeps the targets by value
    pub alike_bounded : by_value (type_of new).body ≡ by_value (type_of t).body → IsBounded (made u v (map type_of (set items s new)) labels) d
    alike_bounded same =
        let here : by_value (own_body (content (made u v (map type_of items) labels)) s) ≡ by_value (type_of new).body = ap by_value (body_was u v items labels s t lt is) ∙ sym same in
        subst (λ (ts : List Term). IsBounded (made u v ts labels) d) (sym (map-set type_of items s new))
        (changed_bounded d u v (map type_of items) labels s (type_of new) low
        (subst (AllByRecursion (IsOverAt (made u v (map type_of items) labels) d.bounds.items s)) here (ok.over s))
        (subst (AllByRecursion (IsNotedAt (made u v (map type_of items) labels) (above_of d.above.items) s)) here (ok.noted s)) ok)

    over_new : (n : ℕ) (o : Option ℕ) → o ≡ own_index (is_some parent) (count_of (made u v (map type_of items) labels)) n → IsReady u d s o → IsOverAt (made u v (map type_of items) labels) d.bounds.items s n
    over_new n o own h = match_of (λ j. IsOver d.bounds.items s j × IsNoted u (above_of d.above.items) s j) (IsOver d.bounds.items s) (λ j p. p.0) (own_index (is_some parent) (count_of (made u v (map type_of items) labels)) n) (subst (IsReady u d s) own h)

    noted_new : (n : ℕ) (o : Option ℕ) → u ≤ length items → o ≡ own_index (is_some parent) (count_of (made u v (map type_of items) labels)) n → IsReady u d s o → IsNotedAt (made u v (map type_of items) labels) (above_of d.above.items) s n
    noted_new n o few own h =
        let count : u ≡ length (take u (map type_of items)) = omega (arith, length-take u (map type_of items), length-map items type_of, few) in
        match_of (λ j. IsOver d.bounds.items s j × IsNoted u (above_of d.above.items) s j) (IsNoted (length (take u (map type_of items))) (above_of d.above.items) s) (λ j p. subst (λ (k : ℕ). IsNoted k (above_of d.above.items) s j) count p.1) (own_index (is_some parent) (count_of (made u v (map type_of items) labels)) n) (subst (IsReady u d s) own h)

    -- one more member in a type that is ready for it
    pub member_bounded : (m : term.Member) (size : ℕ) (o : Option ℕ) → u ≤ length items → o ≡ own_index (is_some parent) (count_of (made u v (map type_of items) labels)) m.tnum → IsReady u d s o → type_of new ≡ with_body (with_member m size (type_of t).body) (type_of t) → IsBounded (made u v (map type_of (set items s new)) labels) d
    member_bounded m size o few own ready made_so =
        let was = body_was u v items labels s t lt is in
        let now : (type_of new).body ≡ with_member m size (own_body (content (made u v (map type_of items) labels)) s) = ap (λ (x : Term). x.body) made_so ∙ ap (with_member m size) (sym was) in
        subst (λ (ts : List Term). IsBounded (made u v ts labels) d) (sym (map-set type_of items s new))
        (changed_bounded d u v (map type_of items) labels s (type_of new) low
        (subst (λ (b : Body). AllByRecursion (IsOverAt (made u v (map type_of items) labels) d.bounds.items s) (by_value b)) (sym now) (with_member_all (IsOverAt (made u v (map type_of items) labels) d.bounds.items s) m size (own_body (content (made u v (map type_of items) labels)) s) (ok.over s) (over_new m.tnum o own ready)))
        (subst (λ (b : Body). AllByRecursion (IsNotedAt (made u v (map type_of items) labels) (above_of d.above.items) s) (by_value b)) (sym now) (with_member_all (IsNotedAt (made u v (map type_of items) labels) (above_of d.above.items) s) m size (own_body (content (made u v (map type_of items) labels)) s) (ok.noted s) (noted_new m.tnum o few own ready))) ok)

    -- the same, or out of memory
    pub pushed_bounded : {A E : Type 0} (r : Result A E) (m : term.Member) (size : ℕ) (o : Option ℕ) → u ≤ length items → o ≡ own_index (is_some parent) (count_of (made u v (map type_of items) labels)) m.tnum → IsReady u d s o → OnOk r (type_of new ≡ with_body (with_member m size (type_of t).body) (type_of t)) → OnErr r (type_of new ≡ type_of t) → IsBounded (made u v (map type_of (set items s new)) labels) d
    pushed_bounded (Ok a) m size o few own ready done left = member_bounded m size o few own ready done
    pushed_bounded (Err e) m size o few own ready done left = alike_bounded (ap (λ (x : Term). by_value x.body) left)

    pub enumerated_bounded : {A E : Type 0} (r : Result A E) (e : term.Enumerator) → OnOk r (type_of new ≡ with_body (with_enumerator e (type_of t).body) (type_of t)) → OnErr r (type_of new ≡ type_of t) → IsBounded (made u v (map type_of (set items s new)) labels) d
    enumerated_bounded (Ok a) e done left = alike_bounded (ap (λ (x : Term). by_value x.body) done ∙ with_enumerator_by e (type_of t).body)
    enumerated_bounded (Err f) e done left = alike_bounded (ap (λ (x : Term). by_value x.body) left)

  -- after a discard only the updated part is left, which is bounded by itself
  pub discarded_bounded : (d x : Depths) (u v : ℕ) (terms : List Term) (labels others : List Label) → u ≤ length terms → IsSound (made u v (take u terms) others) → ((k : ℕ) → k < u → bound x.bounds.items k ≡ bound d.bounds.items k) → IsBounded (made u v terms labels) d → IsBounded (made u v (take u terms) others) x
  discarded_bounded d x u v terms labels others few sound front ok = record { over = λ i. over_at i (low_or_high i u); noted = λ i. noted_at i }
    where
      count : count_of (made u v (take u terms) others) ≡ u
      count = ap length (all_terms parname parlabel parent model u v (take u terms) others) ∙ simp length-take (omega arith)

      all : length terms ≡ count_of (made u v terms labels)
      all = sym (ap length (all_terms parname parlabel parent model u v terms labels))

      body : (i : ℕ) → i < u → own_body (content (made u v (take u terms) others)) i ≡ own_body (content (made u v terms labels)) i
      body i lt =
          ap (λ (ts : List Term). (get_or ts i nothing).body) (all_terms parname parlabel parent model u v (take u terms) others)
          ∙ ap (λ (z : Term). z.body) (get_or_take u terms i nothing lt)
          ∙ sym (ap (λ (ts : List Term). (get_or ts i nothing).body) (all_terms parname parlabel parent model u v terms labels))

      over_one : (i n : ℕ) → i < u → (o : Option ℕ) → own_index (is_some parent) (count_of (made u v (take u terms) others)) n ≡ o → MatchOption o (Unit {0}) (IsOver d.bounds.items i) → MatchOption o (Unit {0}) (IsOver x.bounds.items i)
      over_one i n lt None e h = tt
      over_one i n lt (Some j) e h =
          let low = index_low (count_of (made u v (take u terms) others)) j (place (is_some parent) n) e in
          let a = front i lt in
          let b = front j (omega (arith, low, count)) in
          omega (arith, h, a, b)

      over_at : (i : ℕ) → (i < u) ⊎ (u ≤ i) → AllByRecursion (IsOverAt (made u v (take u terms) others) x.bounds.items i) (by_value (own_body (content (made u v (take u terms) others)) i))
      over_at i (inr le) = subst (λ (b : Body). AllByRecursion (IsOverAt (made u v (take u terms) others) x.bounds.items i) (by_value b)) (sym (past_end (all_of (made u v (take u terms) others)).terms i (omega (arith, count, le)))) tt
      over_at i (inl lt) =
          both_of (λ n. is_absent (made u v (take u terms) others) n ≡ false) (IsOverAt (made u v terms labels) d.bounds.items i) (IsOverAt (made u v (take u terms) others) x.bounds.items i)
          (λ n there h. over_one i n lt (own_index (is_some parent) (count_of (made u v (take u terms) others)) n) refl
          (subst (λ (o : Option ℕ). MatchOption o (Unit {0}) (IsOver d.bounds.items i)) (ap (λ (c : ℕ). own_index (is_some parent) c n) (sym all) ∙ there_stays (made u v (take u terms) others) (length terms) n (omega (arith, count, few)) there) h))
          (by_value (own_body (content (made u v (take u terms) others)) i))
          (sound_names (made u v (take u terms) others) sound i (omega (arith, count, lt)))
          (subst (λ (b : Body). AllByRecursion (IsOverAt (made u v terms labels) d.bounds.items i) (by_value b)) (sym (body i lt)) (ok.over i))

      noted_one : (i n : ℕ) (o : Option ℕ) → own_index (is_some parent) (count_of (made u v (take u terms) others)) n ≡ o → MatchOption o (Unit {0}) (IsNoted (length (take u (take u terms))) (above_of x.above.items) i)
      noted_one i n None e = tt
      noted_one i n (Some j) e =
          let low = index_low (count_of (made u v (take u terms) others)) j (place (is_some parent) n) e in
          inl (omega (arith, low, count, length-take u (take u terms), length-take u terms, few))

      noted_at : (i : ℕ) → AllByRecursion (IsNotedAt (made u v (take u terms) others) (above_of x.above.items) i) (by_value (own_body (content (made u v (take u terms) others)) i))
      noted_at i = each_of (IsNotedAt (made u v (take u terms) others) (above_of x.above.items) i) (λ n. noted_one i n (own_index (is_some parent) (count_of (made u v (take u terms) others)) n) refl) (by_value (own_body (content (made u v (take u terms) others)) i))

  -- one more type that is ready
  pub type_bounded : (d : Depths) (u v : ℕ) (terms : List Term) (labels : List Label) (y : Term) (o : Option ℕ) → u ≤ length terms → IsSound (made u v terms labels)
      → AllByRecursion (λ n. own_index (is_some parent) (count_of (made u v terms labels)) n ≡ o) (by_value y.body) → AllByRecursion (λ n. is_absent (made u v terms labels) n ≡ false) (by_value y.body)
      → IsReady u d (length terms) o → IsBounded (made u v terms labels) d → IsBounded (made u v (terms ++ y ∷ []) labels) d
  type_bounded d u v terms labels y o few sound held_so there ready ok = record { over = λ i. over_at i (where_is i); noted = λ i. noted_at i (where_is i) }
    where
      all : count_of (made u v terms labels) ≡ length terms
      all = ap length (all_terms parname parlabel parent model u v terms labels)

      more : count_of (made u v (terms ++ y ∷ []) labels) ≡ length terms + 1
      more = ap length (all_terms parname parlabel parent model u v (terms ++ y ∷ []) labels) ∙ length-append terms (y ∷ [])

      border : length (take u terms) ≤ length (take u (terms ++ y ∷ []))
      border = omega (arith, length-take u terms, length-take u (terms ++ y ∷ []), length-append terms (y ∷ []))

      where_is : (i : ℕ) → ((i < length terms) ⊎ (i ≡ length terms)) ⊎ (length terms + 1 ≤ i)
      where_is i = at (low_or_high i (length terms)) (low_or_high i (length terms + 1))
        where
          at : (i < length terms) ⊎ (length terms ≤ i) → (i < length terms + 1) ⊎ (length terms + 1 ≤ i) → ((i < length terms) ⊎ (i ≡ length terms)) ⊎ (length terms + 1 ≤ i)
          at (inl lt) h = inl (inl lt)
          at (inr le) (inl lt) = inl (inr (omega (arith, le, lt)))
          at (inr le) (inr high) = inr high

      same_numbers : (ns : List ℕ) → AllByRecursion (λ n. is_absent (made u v terms labels) n ≡ false) ns → AllByRecursion (SameAt (made u v terms labels) (made u v (terms ++ y ∷ []) labels)) ns
      same_numbers ns h = all_map (λ n. is_absent (made u v terms labels) n ≡ false) (SameAt (made u v terms labels) (made u v (terms ++ y ∷ []) labels)) (λ n g. there_stays (made u v terms labels) (count_of (made u v (terms ++ y ∷ []) labels)) n (omega (arith, all, more)) g) ns h

      old_body : (i : ℕ) → i < length terms → own_body (content (made u v (terms ++ y ∷ []) labels)) i ≡ own_body (content (made u v terms labels)) i
      old_body i lt =
          ap (λ (ts : List Term). (get_or ts i nothing).body) (all_terms parname parlabel parent model u v (terms ++ y ∷ []) labels)
          ∙ ap (λ (z : Term). z.body) (get_or_append_left terms (y ∷ []) nothing i lt)
          ∙ sym (ap (λ (ts : List Term). (get_or ts i nothing).body) (all_terms parname parlabel parent model u v terms labels))

      new_body : (i : ℕ) → i ≡ length terms → own_body (content (made u v (terms ++ y ∷ []) labels)) i ≡ y.body
      new_body i same = ap (λ (ts : List Term). (get_or ts i nothing).body) (all_terms parname parlabel parent model u v (terms ++ y ∷ []) labels) ∙ ap (λ (z : Term). z.body) (last_one terms y i same)

      no_body : (i : ℕ) → length terms + 1 ≤ i → own_body (content (made u v (terms ++ y ∷ []) labels)) i ≡ term.unknown
      no_body i le = past_end (all_of (made u v (terms ++ y ∷ []) labels)).terms i (omega (arith, more, le))

      over_new : (i n : ℕ) → i ≡ length terms → own_index (is_some parent) (count_of (made u v terms labels)) n ≡ o → IsOverAt (made u v terms labels) d.bounds.items i n
      over_new i n same own = subst (λ (k : ℕ). IsOverAt (made u v terms labels) d.bounds.items k n) (sym same) (subst (λ (q : Option ℕ). MatchOption q (Unit {0}) (IsOver d.bounds.items (length terms))) (sym own) (match_of (λ j. IsOver d.bounds.items (length terms) j × IsNoted u (above_of d.above.items) (length terms) j) (IsOver d.bounds.items (length terms)) (λ j p. p.0) o ready))

      noted_new : (i n : ℕ) → i ≡ length terms → own_index (is_some parent) (count_of (made u v terms labels)) n ≡ o → IsNotedAt (made u v terms labels) (above_of d.above.items) i n
      noted_new i n same own =
          let first : u ≡ length (take u terms) = omega (arith, length-take u terms, few) in
          subst (λ (k : ℕ). IsNotedAt (made u v terms labels) (above_of d.above.items) k n) (sym same) (subst (λ (q : Option ℕ). MatchOption q (Unit {0}) (IsNoted (length (take u terms)) (above_of d.above.items) (length terms))) (sym own) (match_of (λ j. IsOver d.bounds.items (length terms) j × IsNoted u (above_of d.above.items) (length terms) j) (IsNoted (length (take u terms)) (above_of d.above.items) (length terms)) (λ j p. subst (λ (k : ℕ). IsNoted k (above_of d.above.items) (length terms) j) first p.1) o ready))

      over_at : (i : ℕ) → ((i < length terms) ⊎ (i ≡ length terms)) ⊎ (length terms + 1 ≤ i) → AllByRecursion (IsOverAt (made u v (terms ++ y ∷ []) labels) d.bounds.items i) (by_value (own_body (content (made u v (terms ++ y ∷ []) labels)) i))
      over_at i (inr le) = rw (no_body i le) tt
      over_at i (inl (inl lt)) = subst (λ (b : Body). AllByRecursion (IsOverAt (made u v (terms ++ y ∷ []) labels) d.bounds.items i) (by_value b)) (sym (old_body i lt))
          (over_still (made u v terms labels) (made u v (terms ++ y ∷ []) labels) d border i (by_value (own_body (content (made u v terms labels)) i)) (same_numbers (by_value (own_body (content (made u v terms labels)) i)) (sound_names (made u v terms labels) sound i (omega (arith, all, lt)))) (ok.over i))
      over_at i (inl (inr same)) = subst (λ (b : Body). AllByRecursion (IsOverAt (made u v (terms ++ y ∷ []) labels) d.bounds.items i) (by_value b)) (sym (new_body i same))
          (over_still (made u v terms labels) (made u v (terms ++ y ∷ []) labels) d border i (by_value y.body) (same_numbers (by_value y.body) there) (all_map (λ n. own_index (is_some parent) (count_of (made u v terms labels)) n ≡ o) (IsOverAt (made u v terms labels) d.bounds.items i) (λ n own. over_new i n same own) (by_value y.body) held_so))

      noted_at : (i : ℕ) → ((i < length terms) ⊎ (i ≡ length terms)) ⊎ (length terms + 1 ≤ i) → AllByRecursion (IsNotedAt (made u v (terms ++ y ∷ []) labels) (above_of d.above.items) i) (by_value (own_body (content (made u v (terms ++ y ∷ []) labels)) i))
      noted_at i (inr le) = rw (no_body i le) tt
      noted_at i (inl (inl lt)) = subst (λ (b : Body). AllByRecursion (IsNotedAt (made u v (terms ++ y ∷ []) labels) (above_of d.above.items) i) (by_value b)) (sym (old_body i lt))
          (noted_still (made u v terms labels) (made u v (terms ++ y ∷ []) labels) d border i (by_value (own_body (content (made u v terms labels)) i)) (same_numbers (by_value (own_body (content (made u v terms labels)) i)) (sound_names (made u v terms labels) sound i (omega (arith, all, lt)))) (ok.noted i))
      noted_at i (inl (inr same)) = subst (λ (b : Body). AllByRecursion (IsNotedAt (made u v (terms ++ y ∷ []) labels) (above_of d.above.items) i) (by_value b)) (sym (new_body i same))
          (noted_still (made u v terms labels) (made u v (terms ++ y ∷ []) labels) d border i (by_value y.body) (same_numbers (by_value y.body) there) (all_map (λ n. own_index (is_some parent) (count_of (made u v terms labels)) n ≡ o) (IsNotedAt (made u v terms labels) (above_of d.above.items) i) (λ n own. noted_new i n same own) (by_value y.body) held_so))

  -- an empty draft
  pub none_bounded : (d : Depths) (u v : ℕ) (items : List DraftType) (labels : List Label) → items ≡ [] → IsBounded (made u v (map type_of items) labels) d
  none_bounded d u v items labels none = record { over = λ i. rw (leads i) tt; noted = λ i. rw (leads i) tt }
    where
      leads : (i : ℕ) → by_value (own_body (content (made u v (map type_of items) labels)) i) ≡ []
      leads i =
          ap (λ (ts : List Term). by_value (get_or ts i nothing).body) (all_terms parname parlabel parent model u v (map type_of items) labels)
          ∙ ap (λ (xs : List DraftType). by_value (get_or (map type_of xs) i nothing).body) none
