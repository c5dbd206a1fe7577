-- Bounds of a draft's types, and what changes them.
use Rattle.std.proofs.Common.{◌≡◌, ℕ, zero, suc, ◌<◌, ◌≤◌, Bool, true, false, cond, ltb, List, [], ◌∷◌, length, map, Option, Some, None, Vec, is_some, refl, sym, subst, ◌∙◌, arith, ◌⊎◌, inl, inr}
use Rattle.std.specs.Prelude.{MatchOption, slice_index_or}
use Rattle.std.specs.List.{AllByRecursion, cons_option, filter_map}
use Rattle.std.specs.declared.alloc.Global.{Global}
use Rattle.std.proofs.lemmas.List.{map-append}
use Rattle.std.proofs.lemmas.Bool.{ltb-true, ltb-false}
use Rattle.ctf_model.specs.rules.Chains.{IsWithin, by_value, own_index, own_index_at}
use Rattle.ctf_model.specs.drafts.Drafts.{Draft, all_of, count_of, content}
use Rattle.ctf_model.specs.figures.FigureLaws.{nothing, own_body, value_edges}
use Rattle.ctf_model.specs.format.Term.{Body, Term}
use Rattle.ctf_model.specs.format.Term as term
use Rattle.ctf_model.specs.spaces.TypePlaces.{place}
use Rattle.ctf_model.specs.declared.numbers.Place.{Place}
use Rattle.ctf_model.specs.declared.numbers.Place.TheVariants.{Nowhere, Own, Parents}
use Rattle.ctf_model.specs.drafts.Adders.{with_enumerator, with_member}
use Rattle.ctf_model.proofs.Alls.{all_joined}
use Rattle.ctf_model.proofs.Anywhere.{all_map}
use Rattle.ctf_model.proofs.OwnTypes.{targets_are}
use Rattle.ctf_draft.specs.Bounding.{IsAbove, IsBounded, IsLifted, IsNoted, IsNotedAt, IsOver, IsOverAt, above_of, bound}
use Rattle.ctf_draft.specs.declared.depths.Depths.{Depths}
use Rattle.ctf_draft.proofs.Lifting.{both_of, each_of, still_over}

-- a fact of each named own type holds for the number
pub match_of : (P Q : ℕ → Type 0) → ((j : ℕ) → P j → Q j) → (o : Option ℕ) → MatchOption o (Unit {0}) P → MatchOption o (Unit {0}) Q
match_of P Q f None h = tt
match_of P Q f (Some j) h = f j h

match_both : (P Q R : ℕ → Type 0) → ((j : ℕ) → P j → Q j → R j) → (o : Option ℕ) → MatchOption o (Unit {0}) P → MatchOption o (Unit {0}) Q → MatchOption o (Unit {0}) R
match_both P Q R f None h g = tt
match_both P Q R f (Some j) h g = f j h g

-- ---- facts from bounds

module _ (d : Draft) (x : Depths) (ok : IsBounded d x) where
  abbrev own : ℕ → Option ℕ
  own n = own_index (is_some d.parent) (count_of d) n

  none_led : (i : ℕ) (ns : List ℕ) → bound x.bounds.items i ≤ 0 → AllByRecursion (IsOverAt d x.bounds.items i) ns → filter_map own ns ≡ []
  none_led i [] low h = refl
  none_led i (n ∷ ns) low h = at (own n) h.0 (none_led i ns low h.1)
    where
      at : (o : Option ℕ) → MatchOption o (Unit {0}) (IsOver x.bounds.items i) → filter_map own ns ≡ [] → cons_option o (filter_map own ns) ≡ []
      at None g more = more
      at (Some j) g more = absurd (omega (arith, g, low))

  all_led : (i k : ℕ) (ns : List ℕ) → bound x.bounds.items i ≤ suc k → suc k ≤ 512 → ((j : ℕ) → bound x.bounds.items j ≤ k → IsWithin (value_edges (content d)) k j) → AllByRecursion (IsOverAt d x.bounds.items i) ns → AllByRecursion (IsWithin (value_edges (content d)) k) (filter_map own ns)
  all_led i k [] low short below h = tt
  all_led i k (n ∷ ns) low short below h = at (own n) h.0 (all_led i k ns low short below h.1)
    where
      at : (o : Option ℕ) → MatchOption o (Unit {0}) (IsOver x.bounds.items i) → AllByRecursion (IsWithin (value_edges (content d)) k) (filter_map own ns) → AllByRecursion (IsWithin (value_edges (content d)) k) (cons_option o (filter_map own ns))
      at None g more = more
      at (Some j) g more = (below j (omega (arith, g, low, short)), more)

  pub within_bound : (k i : ℕ) → bound x.bounds.items i ≤ k → k ≤ 512 → IsWithin (value_edges (content d)) k i
  unfolding IsWithin
  within_bound zero i low short = targets_are (content d) i ∙ none_led i (by_value (own_body (content d) i)) low (ok.over i)
  within_bound (suc k) i low short =
      subst (AllByRecursion (IsWithin (value_edges (content d)) k)) (sym (targets_are (content d) i))
      (all_led i k (by_value (own_body (content d) i)) low short (λ j l. within_bound k j l (omega (arith, short))) (ok.over i))

-- ---- other bounds of the same types

pub lifted_bounded : (d : Draft) (first : ℕ) (x y : Depths) → length d.updated.terms ≡ first → y.above.items ≡ x.above.items → IsLifted first (above_of x.above.items) x.bounds.items y.bounds.items → IsBounded d x → IsBounded d y
lifted_bounded d first x y count same lifted ok = record {
  over = λ i. both_of (IsOverAt d x.bounds.items i) (IsNotedAt d (above_of x.above.items) i) (IsOverAt d y.bounds.items i)
      (λ n o a. match_both (IsOver x.bounds.items i) (IsNoted (length d.updated.terms) (above_of x.above.items) i) (IsOver y.bounds.items i) (λ j. at i j) (own_index (is_some d.parent) (count_of d) n) o a)
      (by_value (own_body (content d) i)) (ok.over i) (ok.noted i);
  noted = λ i. subst (λ (ls : List (Vec ℕ Global)). AllByRecursion (IsNotedAt d (above_of ls) i) (by_value (own_body (content d) i))) (sym same) (ok.noted i);
}
  where
    at : (i j : ℕ) → IsOver x.bounds.items i j → IsNoted (length d.updated.terms) (above_of x.above.items) i j → IsOver y.bounds.items i j
    at i j over noted =
        let more = lifted.more i in
        still_over first (above_of x.above.items) x.bounds.items y.bounds.items i j lifted (subst (λ (u : ℕ). IsNoted u (above_of x.above.items) i j) count noted) (omega (arith, over, more))

pub noted_bounded : (d : Draft) (x y : Depths) → y.bounds.items ≡ x.bounds.items → ((k p : ℕ) → IsAbove (above_of x.above.items) k p → IsAbove (above_of y.above.items) k p) → IsBounded d x → IsBounded d y
noted_bounded d x y same grows ok = record {
  over = λ i. subst (λ (bs : List ℕ). AllByRecursion (IsOverAt d bs i) (by_value (own_body (content d) i))) (sym same) (ok.over i);
  noted = λ i. all_map (IsNotedAt d (above_of x.above.items) i) (IsNotedAt d (above_of y.above.items) i)
      (λ n. match_of (IsNoted (length d.updated.terms) (above_of x.above.items) i) (IsNoted (length d.updated.terms) (above_of y.above.items) i) (λ j. at i j) (own_index (is_some d.parent) (count_of d) n))
      (by_value (own_body (content d) i)) (ok.noted i);
}
  where
    at : (i j : ℕ) → IsNoted (length d.updated.terms) (above_of x.above.items) i j → IsNoted (length d.updated.terms) (above_of y.above.items) i j
    at i j (inl low) = inl low
    at i j (inr here) = inr (grows j i here)

-- empty bounds are large enough for every type
pub none_over : (bounds : List ℕ) (i j : ℕ) → bounds ≡ [] → IsOver bounds i j
none_over bounds i j none = rw none (omega arith)

pub cleared_bounded : (d : Draft) (x y : Depths) → y.bounds.items ≡ [] → y.above.items ≡ x.above.items → IsBounded d x → IsBounded d y
cleared_bounded d x y none same ok = record {
  over = λ i. each_of (IsOverAt d y.bounds.items i) (λ n. at i (own_index (is_some d.parent) (count_of d) n)) (by_value (own_body (content d) i));
  noted = λ i. subst (λ (ls : List (Vec ℕ Global)). AllByRecursion (IsNotedAt d (above_of ls) i) (by_value (own_body (content d) i))) (sym same) (ok.noted i);
}
  where
    at : (i : ℕ) (o : Option ℕ) → MatchOption o (Unit {0}) (IsOver y.bounds.items i)
    at i None = tt
    at i (Some j) = none_over y.bounds.items i j none

pub index_low : (count j : ℕ) (p : Place) → own_index_at count p ≡ Some j → j < count
index_low count j Nowhere e = absurd cc
index_low count j (Parents i) e = absurd cc
index_low count j (Own i) e = at (ltb i count) refl e
  where
    at : (b : Bool) → ltb i count ≡ b → cond b (Some i) None ≡ Some j → j < count
    at true low h = let same : i ≡ j = cc in let lt : i < count = ltb-true i count low in omega (arith, same, lt)
    at false low h = absurd cc

pub low_or_high : (i n : ℕ) → (i < n) ⊎ (n ≤ i)
low_or_high i n = at (ltb i n) refl
  where
    at : (b : Bool) → ltb i n ≡ b → (i < n) ⊎ (n ≤ i)
    at true h = inl (ltb-true i n h)
    at false h = inr (ltb-false i n h)

-- an index beyond the types has no content
pub past_end : (ts : List Term) (i : ℕ) → length ts ≤ i → (slice_index_or ts i nothing).body ≡ term.unknown
past_end [] i le = refl
past_end (x ∷ ts) zero le = absurd (omega arith)
past_end (x ∷ ts) (suc i) le = past_end ts i (omega arith)

-- bounds that are the same for all existing types
pub front_bounded : (d : Draft) (count : ℕ) (x y : Depths) → count_of d ≡ count → y.above.items ≡ x.above.items → ((k : ℕ) → k < count → bound y.bounds.items k ≡ bound x.bounds.items k) → IsBounded d x → IsBounded d y
front_bounded d count x y all same front ok = record {
  over = λ i. at i (low_or_high i count);
  noted = λ i. subst (λ (ls : List (Vec ℕ Global)). AllByRecursion (IsNotedAt d (above_of ls) i) (by_value (own_body (content d) i))) (sym same) (ok.noted i);
}
  where
    here : (i n : ℕ) → i < count → (o : Option ℕ) → own_index (is_some d.parent) (count_of d) n ≡ o → MatchOption o (Unit {0}) (IsOver x.bounds.items i) → MatchOption o (Unit {0}) (IsOver y.bounds.items i)
    here i n lt None e h = tt
    here i n lt (Some j) e h =
        let low = index_low (count_of d) j (place (is_some d.parent) n) e in
        let a = front i lt in
        let b = front j (omega (arith, all, low)) in
        omega (arith, h, a, b)

    at : (i : ℕ) → (i < count) ⊎ (count ≤ i) → AllByRecursion (IsOverAt d y.bounds.items i) (by_value (own_body (content d) i))
    at i (inl lt) = all_map (IsOverAt d x.bounds.items i) (IsOverAt d y.bounds.items i) (λ n. here i n lt (own_index (is_some d.parent) (count_of d) n) refl) (by_value (own_body (content d) i)) (ok.over i)
    at i (inr le) = subst (λ (b : Body). AllByRecursion (IsOverAt d y.bounds.items i) (by_value b)) (sym (past_end (all_of d).terms i (omega (arith, all, le)))) tt

-- ---- other types

abbrev Over : Draft → Depths → ℕ → Type 0
Over d x i = AllByRecursion (IsOverAt d x.bounds.items i) (by_value (own_body (content d) i))

abbrev Noted : Draft → Depths → ℕ → Type 0
Noted d x i = AllByRecursion (IsNotedAt d (above_of x.above.items) i) (by_value (own_body (content d) i))

-- the number names the same own type in both drafts
abbrev pub SameAt : Draft → Draft → ℕ → Type 0
SameAt d e n = own_index (is_some e.parent) (count_of e) n ≡ own_index (is_some d.parent) (count_of d) n

module _ (d e : Draft) (x : Depths) (border : length d.updated.terms ≤ length e.updated.terms) where
  later : (i j : ℕ) → IsNoted (length d.updated.terms) (above_of x.above.items) i j → IsNoted (length e.updated.terms) (above_of x.above.items) i j
  later i j (inl low) = inl (omega (arith, low, border))
  later i j (inr here) = inr here

  over_same : (i n : ℕ) → SameAt d e n → IsOverAt d x.bounds.items i n → IsOverAt e x.bounds.items i n
  over_same i n same h = subst (λ (o : Option ℕ). MatchOption o (Unit {0}) (IsOver x.bounds.items i)) (sym same) h

  noted_same : (i n : ℕ) → SameAt d e n → IsNotedAt d (above_of x.above.items) i n → IsNotedAt e (above_of x.above.items) i n
  noted_same i n same h = subst (λ (o : Option ℕ). MatchOption o (Unit {0}) (IsNoted (length e.updated.terms) (above_of x.above.items) i)) (sym same)
      (match_of (IsNoted (length d.updated.terms) (above_of x.above.items) i) (IsNoted (length e.updated.terms) (above_of x.above.items) i) (later i) (own_index (is_some d.parent) (count_of d) n) h)

  pub over_still : (i : ℕ) (ns : List ℕ) → AllByRecursion (SameAt d e) ns → AllByRecursion (IsOverAt d x.bounds.items i) ns → AllByRecursion (IsOverAt e x.bounds.items i) ns
  over_still i ns same h = both_of (SameAt d e) (IsOverAt d x.bounds.items i) (IsOverAt e x.bounds.items i) (λ n. over_same i n) ns same h

  pub noted_still : (i : ℕ) (ns : List ℕ) → AllByRecursion (SameAt d e) ns → AllByRecursion (IsNotedAt d (above_of x.above.items) i) ns → AllByRecursion (IsNotedAt e (above_of x.above.items) i) ns
  noted_still i ns same h = both_of (SameAt d e) (IsNotedAt d (above_of x.above.items) i) (IsNotedAt e (above_of x.above.items) i) (λ n. noted_same i n) ns same h

  -- types with the same targets by value
  pub same_bounded : ((i : ℕ) → (by_value (own_body (content e) i) ≡ by_value (own_body (content d) i)) × AllByRecursion (SameAt d e) (by_value (own_body (content d) i))) → IsBounded d x → IsBounded e x
  same_bounded each ok = record {
    over = λ i. let h = each i in subst (AllByRecursion (IsOverAt e x.bounds.items i)) (sym h.0) (over_still i (by_value (own_body (content d) i)) h.1 (ok.over i));
    noted = λ i. let h = each i in subst (AllByRecursion (IsNotedAt e (above_of x.above.items) i)) (sym h.0) (noted_still i (by_value (own_body (content d) i)) h.1 (ok.noted i));
  }

-- ---- members and enumerators by value

pub with_member_all : (P : ℕ → Type 0) (m : term.Member) (size : ℕ) (body : Body) → AllByRecursion P (by_value body) → P m.tnum → AllByRecursion P (by_value (with_member m size body))
with_member_all P m size (term.struct old ms) h p = subst (AllByRecursion P) (sym (map-append (λ (x : term.Member). x.tnum) ms (m ∷ []))) (all_joined P (map (λ (x : term.Member). x.tnum) ms) (m.tnum ∷ []) h (p, tt))
with_member_all P m size (term.union old ms) h p = subst (AllByRecursion P) (sym (map-append (λ (x : term.Member). x.tnum) ms (m ∷ []))) (all_joined P (map (λ (x : term.Member). x.tnum) ms) (m.tnum ∷ []) h (p, tt))
with_member_all P m size (term.integer x) h p = h
with_member_all P m size (term.float x) h p = h
with_member_all P m size (term.pointer t) h p = h
with_member_all P m size (term.function r ts) h p = h
with_member_all P m size (term.enum said xs) h p = h
with_member_all P m size (term.forward t) h p = h
with_member_all P m size term.unknown h p = h
with_member_all P m size (term.array e) h p = h
with_member_all P m size (term.typedef t) h p = h
with_member_all P m size (term.volatile t) h p = h
with_member_all P m size (term.const t) h p = h
with_member_all P m size (term.restrict t) h p = h

pub with_enumerator_by : (e : term.Enumerator) (body : Body) → by_value (with_enumerator e body) ≡ by_value body
with_enumerator_by e (term.enum said xs) = refl
with_enumerator_by e (term.struct old ms) = refl
with_enumerator_by e (term.union old ms) = refl
with_enumerator_by e (term.integer x) = refl
with_enumerator_by e (term.float x) = refl
with_enumerator_by e (term.pointer t) = refl
with_enumerator_by e (term.function r ts) = refl
with_enumerator_by e (term.forward t) = refl
with_enumerator_by e term.unknown = refl
with_enumerator_by e (term.array a) = refl
with_enumerator_by e (term.typedef t) = refl
with_enumerator_by e (term.volatile t) = refl
with_enumerator_by e (term.const t) = refl
with_enumerator_by e (term.restrict t) = refl
