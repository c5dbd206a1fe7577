-- The depth of a record, computed from the depths of its targets.
use Rattle.std.proofs.Common.{◌≡◌, ℕ, zero, suc, ◌+◌, ◌-◌, ◌≤◌, ◌<◌, ◌⊎◌, List, [], ◌∷◌, ◌++◌, length, take, drop, Option, Some, None, get_or, slice_index_or, refl, sym, ap, subst, ◌∙◌, arith, zero-add, drop-cons}
use Rattle.std.specs.List.{AllByRecursion}
use Rattle.std.proofs.lemmas.List.{take-append-drop, take_more, take_all, append-nil}
use Rattle.std.proofs.lemmas.List.Elements.{filter_map-append}
use Rattle.std.proofs.Math.ListN as listn
use Rattle.ctf_model.specs.rules.Chains.{targets, IsWithin}
use Rattle.ctf_chains.specs.Places.{Places, places_at, led_to, steps_between}
use Rattle.ctf_chains.specs.Search.{AreWithin, IsLongest, IsDepth}
use Rattle.ctf_chains.proofs.Lists.{All-map, All-at, All-front, All-one_more, not_empty}

-- ---- a longer limit

IsWithin-suc : (es : List (List ℕ)) (k i : ℕ) → IsWithin es k i → IsWithin es (suc k) i
unfolding IsWithin
IsWithin-suc es zero i h = rw h tt
IsWithin-suc es (suc k) i h = All-map (IsWithin es k) (IsWithin es (suc k)) (IsWithin-suc es k) (targets es i) h

IsWithin-plus : (es : List (List ℕ)) (n k i : ℕ) → IsWithin es k i → IsWithin es (n + k) i
IsWithin-plus es zero k i h = let P : ℕ → Type 0 = λ n. IsWithin es n i in subst P (sym (zero-add k)) h
IsWithin-plus es (suc n) k i h =
    let P : ℕ → Type 0 = λ n. IsWithin es n i in
    let e : suc (n + k) ≡ suc n + k = omega arith in
    subst P e (IsWithin-suc es (n + k) i (IsWithin-plus es n k i h))

-- a record within a limit is within any greater limit
pub IsWithin-more : (es : List (List ℕ)) (k m i : ℕ) → k ≤ m → IsWithin es k i → IsWithin es m i
IsWithin-more es k m i le h =
    let e : (m - k) + k ≡ m = omega arith in
    let P : ℕ → Type 0 = λ n. IsWithin es n i in
    subst P e (IsWithin-plus es (m - k) k i h)

AreWithin-more : (es : List (List ℕ)) (k m : ℕ) (js : List ℕ) → k ≤ suc m → AreWithin es k js → AllByRecursion (IsWithin es m) js
unfolding AreWithin
AreWithin-more es zero m js le h = rw h tt
AreWithin-more es (suc k) m js le h = All-map (IsWithin es k) (IsWithin es m) (λ j w. IsWithin-more es k m j (omega arith) w) js h

-- ---- the longest of several chains

pub none_yet : (es : List (List ℕ)) → IsLongest es [] 0
unfolding AreWithin
none_yet es = record { within = refl; least = λ k h. omega arith }

one_more_within : (es : List (List ℕ)) (js : List ℕ) (j d l m : ℕ) → AreWithin es l js → IsWithin es d j → l ≤ m → d + 1 ≤ m → AreWithin es m (js ++ (j ∷ []))
unfolding AreWithin
one_more_within es js j d l zero a w le lt = absurd (omega arith)
one_more_within es js j d l (suc m) a w le lt =
    All-one_more (IsWithin es m) js j (AreWithin-more es l m js le a) (IsWithin-more es d m j (omega arith) w)

front_within : (es : List (List ℕ)) (js : List ℕ) (j k : ℕ) → AreWithin es k (js ++ (j ∷ [])) → AreWithin es k js × ((n : ℕ) × (k ≡ suc n) × IsWithin es n j)
unfolding AreWithin
front_within es js j zero h = absurd (not_empty js j [] h)
front_within es js j (suc k) h = (All-front (IsWithin es k) js (j ∷ []) h, (k, refl, All-at (IsWithin es k) js j [] h))

-- one more record to step to
pub one_more : (es : List (List ℕ)) (js : List ℕ) (j d l m : ℕ) → IsLongest es js l → IsDepth es j d → l ≤ m → d + 1 ≤ m → (m ≡ l) ⊎ (m ≡ d + 1) → IsLongest es (js ++ (j ∷ [])) m
one_more es js j d l m a w le lt one = record {
  within = one_more_within es js j d l m a.within w.within le lt;
  least = λ k h.
      let f = front_within es js j k h in
      let a_le : l ≤ k = a.least k f.0 in
      let d_le : d ≤ f.1.0 = w.least f.1.0 f.1.2 in
      let k_is : k ≡ suc f.1.0 = f.1.1 in
      omega (arith, one);
}

from_are : (es : List (List ℕ)) (k i : ℕ) → AreWithin es k (targets es i) → IsWithin es k i
unfolding AreWithin IsWithin
from_are es zero i h = h
from_are es (suc k) i h = h

to_are : (es : List (List ℕ)) (k i : ℕ) → IsWithin es k i → AreWithin es k (targets es i)
unfolding AreWithin IsWithin
to_are es zero i h = h
to_are es (suc k) i h = h

-- ---- the places of a record

-- the targets of a record are those of its places
pub targets_are : (all : Places) (i : ℕ) → targets (steps_between all) i ≡ led_to (places_at all i)
targets_are all i = listn.get_or-map led_to all i []

-- a place with a target
pub led_at : (ps : List (Option ℕ)) (k j : ℕ) → k < length ps → slice_index_or ps k None ≡ Some j → led_to ps ≡ led_to (take k ps) ++ (j ∷ led_to (drop (suc k) ps))
led_at ps k j lt is =
    let whole : take k ps ++ drop k ps ≡ ps = take-append-drop k ps in
    let here : drop k ps ≡ get_or ps k None ∷ drop (suc k) ps = drop-cons ps k None lt in
    let split : led_to (take k ps ++ drop k ps) ≡ led_to (take k ps) ++ led_to (drop k ps) = filter_map-append (λ s. s) (take k ps) (drop k ps) in
    let rest : led_to (drop k ps) ≡ j ∷ led_to (drop (suc k) ps) = rw (here, is) refl in
    ap led_to (sym whole) ∙ split ∙ ap (λ r. led_to (take k ps) ++ r) rest

-- if the next place has a target, it is added
pub led_more : (ps : List (Option ℕ)) (k j : ℕ) → k < length ps → slice_index_or ps k None ≡ Some j → led_to (take (k + 1) ps) ≡ led_to (take k ps) ++ (j ∷ [])
led_more ps k j lt is =
    let more : take (k + 1) ps ≡ take k ps ++ (get_or ps k None ∷ []) = take_more ps k None lt in
    rw (more, is) (filter_map-append (λ s. s) (take k ps) (Some j ∷ []))

-- if the next place has none, nothing changes
pub led_same : (ps : List (Option ℕ)) (k : ℕ) → k < length ps → slice_index_or ps k None ≡ None → led_to (take (k + 1) ps) ≡ led_to (take k ps)
led_same ps k lt is =
    let more : take (k + 1) ps ≡ take k ps ++ (get_or ps k None ∷ []) = take_more ps k None lt in
    rw (more, is) (filter_map-append (λ s. s) (take k ps) (None ∷ []) ∙ append-nil (led_to (take k ps)))

-- ---- results of a visit

-- once all places are read, the depth is known
pub is_depth : (all : Places) (i k d : ℕ) → length (places_at all i) ≤ k → IsLongest (steps_between all) (led_to (take k (places_at all i))) d → IsDepth (steps_between all) i d
is_depth all i k d le a =
    let e : targets (steps_between all) i ≡ led_to (take k (places_at all i)) = targets_are all i ∙ sym (ap led_to (take_all k (places_at all i) le)) in
    let P : List ℕ → Type 0 = λ js. IsLongest (steps_between all) js d in
    let b : IsLongest (steps_between all) (targets (steps_between all) i) d = subst P (sym e) a in
    record {
      within = from_are (steps_between all) d i b.within;
      least = λ n h. b.least n (to_are (steps_between all) n i h);
    }

no_step_left : (es : List (List ℕ)) (budget i : ℕ) (xs : List ℕ) (j : ℕ) (ys : List ℕ) → targets es i ≡ xs ++ (j ∷ ys) → ((n : ℕ) → budget ≡ suc n → IsWithin es n j → ⊥) → IsWithin es budget i → ⊥
unfolding IsWithin
no_step_left es zero i xs j ys e deep h = not_empty xs j ys (sym e ∙ h)
no_step_left es (suc budget) i xs j ys e deep h =
    let P : List ℕ → Type 0 = λ js. AllByRecursion (IsWithin es budget) js in
    deep budget refl (All-at (IsWithin es budget) xs j ys (subst P e h))

-- a record is too deep if one of its targets is, for one step less
pub deep_target : (all : Places) (budget i k j : ℕ) → k < length (places_at all i) → slice_index_or (places_at all i) k None ≡ Some j → (1 ≤ budget → IsWithin (steps_between all) (budget - 1) j → ⊥) → IsWithin (steps_between all) budget i → ⊥
deep_target all budget i k j lt is deep h =
    no_step_left (steps_between all) budget i (led_to (take k (places_at all i))) j (led_to (drop (suc k) (places_at all i)))
    (targets_are all i ∙ led_at (places_at all i) k j lt is)
    (λ n e w. let le : 1 ≤ budget = omega arith in let m : budget - 1 ≡ n = omega arith in deep le (rw m w)) h
