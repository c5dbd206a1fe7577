-- The table of depths and open visits.
use Rattle.std.proofs.Common.{◌≡◌, ℕ, zero, suc, ◌+◌, ◌-◌, ◌≤◌, ◌<◌, ◌⊎◌, inl, inr, List, ◌∷◌, ◌++◌, length, take, drop, Option, Some, None, get_or, set, ◌≢◌, slice_index_or, slice_set, refl, sym, subst, ◌∙◌, arith, is_some, IsTrue, Bool, true, false, cond, eqb, leb}
use Rattle.std.specs.List.{AllByRecursion}
use Rattle.std.proofs.lemmas.Bool.{eqb-false, eqb-true, leb-false, leb-true}
use Rattle.std.proofs.lemmas.Grind.{get_or-set_at}
use Rattle.std.proofs.lemmas.List.{get_or-set_other}
use Rattle.ctf_model.specs.rules.Chains.{targets, IsWithin}
use Rattle.ctf_chains.specs.Deep.{AreWithinBefore}
use Rattle.ctf_chains.specs.Places.{Places, places_at, led_to, steps_between}
use Rattle.ctf_chains.specs.Search.{IsDepth, busy, entry_in, Knows, Leads, OnWay, GoesOn, Visit, Answers}
use Rattle.ctf_chains.specs.declared.entry.VisitState.TheVariants.{Unvisited, Depth, TooDeep}
use Rattle.ctf_chains.proofs.Depths.{IsWithin-more, targets_are, led_at}
use Rattle.ctf_chains.proofs.Lists.{All-at, not_empty, same_or_not}

-- ---- depths in the table

knows_at : (es : List (List ℕ)) (known : List ℕ) (i entry j : ℕ) → i < length known → Knows es known → (1 ≤ entry → entry < busy → IsDepth es i (entry - 1)) → (j ≡ i) ⊎ (j ≢ i) → 1 ≤ get_or (set known i entry) j 0 → get_or (set known i entry) j 0 < busy → IsDepth es j (get_or (set known i entry) j 0 - 1)
knows_at es known i entry j lt a w (inl same) low high =
    let e : get_or (set known i entry) j 0 ≡ entry = get_or-set_at known i j entry 0 same lt in
    let l : 1 ≤ entry = omega arith in
    let h : entry < busy = omega arith in
    rw (e, same) (w l h)
knows_at es known i entry j lt a w (inr other) low high =
    let e : get_or (set known i entry) j 0 ≡ get_or known j 0 = get_or-set_other known i j entry 0 other in
    let l : 1 ≤ get_or known j 0 = omega arith in
    let h : get_or known j 0 < busy = omega arith in
    rw e (a.right j l h)

-- one more correct entry
pub knows_more : (es : List (List ℕ)) (known : List ℕ) (i entry : ℕ) → i < length known → Knows es known → (1 ≤ entry → entry < busy → IsDepth es i (entry - 1)) → Knows es (slice_set known i entry)
knows_more es known i entry lt a w = record { right = λ j l h. knows_at es known i entry j lt a w (same_or_not j i) l h }

-- an empty table has no wrong entry
pub empty_knows : (es : List (List ℕ)) (known : List ℕ) → ((j : ℕ) → slice_index_or known j 0 ≡ 0) → Knows es known
empty_knows es known h = record { right = λ j l u. absurd (omega (arith, h j)) }

-- ---- open visits

-- an entry that is no depth within the budget is greater than it
deep_is : (budget n : ℕ) → TooDeep ≡ entry_in budget n → budget + 1 < n
deep_is budget n e = at (eqb n 0) (leb (n - 1) budget) refl refl e
  where
    at : (none le : Bool) → eqb n 0 ≡ none → leb (n - 1) budget ≡ le → TooDeep ≡ cond none Unvisited (cond le (Depth (n - 1)) TooDeep) → budget + 1 < n
    at true le a b e = absurd cc
    at false true a b e = absurd cc
    at false false a b e = let more : budget < n - 1 = leb-false (n - 1) budget b in omega arith

depth_is : (budget n d : ℕ) → Depth d ≡ entry_in budget n → (n ≡ d + 1) × (d ≤ budget)
depth_is budget n d e = at (eqb n 0) (leb (n - 1) budget) refl refl e
  where
    at : (none le : Bool) → eqb n 0 ≡ none → leb (n - 1) budget ≡ le → Depth d ≡ cond none Unvisited (cond le (Depth (n - 1)) TooDeep) → (n ≡ d + 1) × (d ≤ budget)
    at true le a b e = absurd cc
    at false false a b e = absurd cc
    at false true a b e =
        let same : d ≡ n - 1 = cc in
        let short : n - 1 ≤ budget = leb-true (n - 1) budget b in
        let other = eqb-false n 0 a in
        (omega (arith, other), omega arith)

descends : (es : List (List ℕ)) (i n k : ℕ) → Leads es i i → k < n → IsWithin es k i → ⊥
descends es i zero k a lt w = omega arith
descends es i (suc n) k a lt w =
    let f = a.on k w in
    let less : f.0 < k = f.1 in
    descends es i n f.0 a (omega arith) f.2

-- a record with a visit that leads back to it is too deep
cycle_is_deep : (es : List (List ℕ)) (known : List ℕ) (i k : ℕ) → OnWay es known i → slice_index_or known i 0 ≡ busy → IsWithin es k i → ⊥
cycle_is_deep es known i k a is w = descends es i (suc k) k (a.leads i is) (omega arith) w

-- an entry with a depth
pub known_depth : (es : List (List ℕ)) (known : List ℕ) (i budget d : ℕ) → Knows es known → budget ≤ 512 → Depth d ≡ entry_in budget (slice_index_or known i 0) → Visit es budget i known known d
known_depth es known i budget d a short e =
    let is = depth_is budget (slice_index_or known i 0) d e in
    let number : slice_index_or known i 0 ≡ d + 1 = is.0 in
    let le : d ≤ budget = is.1 in
    let one_less : slice_index_or known i 0 - 1 ≡ d = omega arith in
    let P : ℕ → Type 0 = λ n. IsDepth es i n in
    record {
      depth = subst P one_less (a.right i (omega arith) (omega arith));
      affordable = le;
      entered = omega arith;
      ended = record { was = λ j h. h; stays = λ j h. h };
    }

-- an entry showing that the budget is exceeded
pub known_deep : (es : List (List ℕ)) (known : List ℕ) (i budget : ℕ) → Knows es known → OnWay es known i → slice_index_or known i 0 ≤ busy → TooDeep ≡ entry_in budget (slice_index_or known i 0) → IsWithin es budget i → ⊥
known_deep es known i budget a on_way most e w = at (eqb (slice_index_or known i 0) busy) refl
  where
    at : (way : Bool) → eqb (slice_index_or known i 0) busy ≡ way → ⊥
    at true same = cycle_is_deep es known i budget on_way (eqb-true (slice_index_or known i 0) busy same) w
    at false same =
        let other = eqb-false (slice_index_or known i 0) busy same in
        let more : budget + 1 < slice_index_or known i 0 = deep_is budget (slice_index_or known i 0) e in
        let depth = a.right i (omega arith) (omega (arith, other)) in
        let least : slice_index_or known i 0 - 1 ≤ budget = depth.least budget w in
        omega arith

step_leads : (es : List (List ℕ)) (i : ℕ) (xs : List ℕ) (j : ℕ) (ys : List ℕ) → targets es i ≡ xs ++ (j ∷ ys) → (k : ℕ) → IsWithin es k i → (m : ℕ) × (m < k) × IsWithin es m j
unfolding IsWithin
step_leads es i xs j ys e zero w = absurd (not_empty xs j ys (sym e ∙ w))
step_leads es i xs j ys e (suc k) w =
    let P : List ℕ → Type 0 = λ js. AllByRecursion (IsWithin es k) js in
    (k, omega arith, All-at (IsWithin es k) xs j ys (subst P e w))

leads_more : (es : List (List ℕ)) (h i j : ℕ) → Leads es i j → (h ≡ i) ⊎ Leads es h i → Leads es h j
leads_more es h i j a (inl same) = rw same a
leads_more es h i j a (inr b) = record {
  on = λ k w.
      let f = b.on k w in
      let g = a.on f.0 f.2 in
      let less : f.0 < k = f.1 in
      let lesser : g.0 < f.0 = g.1 in
      (g.0, omega arith, g.2);
}

-- while a record is visited, all open visits lead to its targets
pub on_way_more : (all : Places) (known now : List ℕ) (i k j : ℕ) → k < length (places_at all i) → slice_index_or (places_at all i) k None ≡ Some j → OnWay (steps_between all) known i → GoesOn (slice_set known i busy) now → OnWay (steps_between all) now j
on_way_more all known now i k j lt is a same = record {
  leads = λ h b. leads_more (steps_between all) h i j
      (record { on = step_leads (steps_between all) i (led_to (take k (places_at all i))) j (led_to (drop (suc k) (places_at all i))) (targets_are all i ∙ led_at (places_at all i) k j lt is) })
      (was_on_way h (same_or_not h i) (same.was h b));
}
  where
    was_on_way : (h : ℕ) → (h ≡ i) ⊎ (h ≢ i) → get_or (set known i busy) h 0 ≡ busy → (h ≡ i) ⊎ Leads (steps_between all) h i
    was_on_way h (inl e) b = inl e
    was_on_way h (inr other) b = inr (a.leads h (sym (get_or-set_other known i h busy 0 other) ∙ b))

-- before the first visit, none is open
pub on_way_none : (es : List (List ℕ)) (known : List ℕ) (i : ℕ) → ((j : ℕ) → slice_index_or known j 0 ≡ busy → ⊥) → OnWay es known i
on_way_none es known i h = record { leads = λ j b. absurd (h j b) }

pub none_more : (xs ys zs : List ℕ) → GoesOn xs ys → GoesOn ys zs → GoesOn xs zs
none_more xs ys zs a b = record { was = λ j h. a.was j (b.was j h); stays = λ j h. b.stays j (a.stays j h) }

-- beginning a visit loses no entry
pub begun : (known : List ℕ) (i : ℕ) → i < length known → 1 ≤ slice_index_or (slice_set known i busy) i 0
begun known i lt = let e : get_or (set known i busy) i 0 ≡ busy = get_or-set_at known i i busy 0 refl lt in omega arith

-- ending a visit opens no other, and loses no entry
pub ended : (known now : List ℕ) (i entry : ℕ) → i < length now → 1 ≤ entry → entry < busy → GoesOn (slice_set known i busy) now → GoesOn known (slice_set now i entry)
ended known now i entry lt some low a = record { was = λ j h. ended_at j (same_or_not j i) h; stays = λ j h. stays_at j (same_or_not j i) h }
  where
    stays_at : (j : ℕ) → (j ≡ i) ⊎ (j ≢ i) → 1 ≤ get_or known j 0 → 1 ≤ get_or (set now i entry) j 0
    stays_at j (inl same) h =
        let e : get_or (set now i entry) j 0 ≡ entry = get_or-set_at now i j entry 0 same lt in
        omega arith
    stays_at j (inr other) h =
        let e : get_or (set now i entry) j 0 ≡ get_or now j 0 = get_or-set_other now i j entry 0 other in
        let f : get_or (set known i busy) j 0 ≡ get_or known j 0 = get_or-set_other known i j busy 0 other in
        let was : 1 ≤ get_or (set known i busy) j 0 = omega arith in
        omega (arith, a.stays j was)

    ended_at : (j : ℕ) → (j ≡ i) ⊎ (j ≢ i) → get_or (set now i entry) j 0 ≡ busy → get_or known j 0 ≡ busy
    ended_at j (inl same) h =
        let e : get_or (set now i entry) j 0 ≡ entry = get_or-set_at now i j entry 0 same lt in
        absurd (omega arith)
    ended_at j (inr other) h =
        sym (get_or-set_other known i j busy 0 other) ∙ a.was j (sym (get_or-set_other now i j entry 0 other) ∙ h)

-- ---- the records in sequence

-- the next record is within the limit as well
pub one_more_before : (es : List (List ℕ)) (limit i : ℕ) → AreWithinBefore es limit i → IsWithin es limit i → AreWithinBefore es limit (i + 1)
one_more_before es limit i a w = record { each = λ j lt. before_or_at j lt (same_or_not j i) }
  where
    before_or_at : (j : ℕ) → j < i + 1 → (j ≡ i) ⊎ (j ≢ i) → IsWithin es limit j
    before_or_at j lt (inl same) = rw same w
    before_or_at j lt (inr other) = a.each j (omega arith)

-- the facts after a visit with a depth
pub found : (es : List (List ℕ)) (budget i : ℕ) (before after : List ℕ) (r : Option ℕ) → IsTrue (is_some r) → Answers es budget i before after r → IsWithin es budget i × GoesOn before after × (1 ≤ slice_index_or after i 0)
found es budget i before after None some h = cc
found es budget i before after (Some d) some h = (IsWithin-more es d budget i h.affordable h.depth.within, h.ended, h.entered)

-- the next record has an entry as well
pub one_more_entered : (known now : List ℕ) (i : ℕ) → ((j : ℕ) → j < i → 1 ≤ slice_index_or known j 0) → GoesOn known now → 1 ≤ slice_index_or now i 0 → (j : ℕ) → j < i + 1 → 1 ≤ slice_index_or now j 0
one_more_entered known now i all a here j lt = before_or_at (same_or_not j i)
  where
    before_or_at : (j ≡ i) ⊎ (j ≢ i) → 1 ≤ get_or now j 0
    before_or_at (inl same) = rw same here
    before_or_at (inr other) = let was : j < i = omega arith in a.stays j (all j was)
