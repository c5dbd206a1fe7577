-- Increasing bounds, type by type.
use Rattle.std.proofs.Common.{◌≡◌, ℕ, zero, suc, ◌+◌, ◌<◌, ◌≤◌, Bool, true, false, eqb, List, [], ◌∷◌, ◌++◌, length, take, drop, set, get_or, Vec, refl, sym, ap, subst, ◌∙◌, arith, ◌⊎◌, inl, inr, ◌≢◌}
use Rattle.std.specs.Prelude.{◌==◌, ◌||◌, min, slice_index, slice_index_or}
use Rattle.std.specs.List.{AllByRecursion, list_any}
use Rattle.std.proofs.lemmas.List.{get_or-map, get_or-set_other, length-map, map-set, take_more}
use Rattle.std.proofs.lemmas.List.Folds.{list_any-append}
use Rattle.std.proofs.lemmas.Bool.{eqb-false, eqb-true}
use Rattle.std.proofs.lemmas.Grind.{get_or-set_at}
use Rattle.std.specs.declared.alloc.Global.{Global}
use Rattle.std.proofs.Math.Seq.{take-append_seam}
use Rattle.ctf_chains.proofs.Lists.{same_or_not}
use Rattle.ctf_model.proofs.Alls.{all_joined}
use Rattle.ctf_model.proofs.Anywhere.{all_map}
use Rattle.ctf_draft.specs.Bounding.{IsAbove, IsLifted, IsNoted, IsOver, above_of, bound}

-- a fact of every number holds for a list of numbers
pub each_of : (P : ℕ → Type 0) → ((n : ℕ) → P n) → (ns : List ℕ) → AllByRecursion P ns
each_of P f [] = tt
each_of P f (n ∷ ns) = (f n, each_of P f ns)

pub both_of : (P Q R : ℕ → Type 0) → ((n : ℕ) → P n → Q n → R n) → (ns : List ℕ) → AllByRecursion P ns → AllByRecursion Q ns → AllByRecursion R ns
both_of P Q R f [] p q = tt
both_of P Q R f (n ∷ ns) p q = (f n p.0 q.0, both_of P Q R f ns p.1 q.1)

abbrev Enough : List ℕ → List ℕ → ℕ → ℕ → Type 0
Enough old new j p = IsOver new p j ⊎ (bound new j ≡ bound old j)

pub not_lifted : (first : ℕ) (above : List (List ℕ)) (a : List ℕ) → IsLifted first above a a
not_lifted first above a = record {
  more = λ j. omega arith;
  settled = λ j lt. refl;
  enough = λ j. each_of (Enough a a j) (λ p. inr refl) (slice_index_or above j []);
}

-- a greater bound of the container, and the same bound of its content
over_more : (a b : List ℕ) (p j : ℕ) → bound a p ≤ bound b p → bound b j ≡ bound a j → IsOver a p j → IsOver b p j
over_more a b p j le same over = omega (arith, le, same, over)

pub lifted_more : (first : ℕ) (above : List (List ℕ)) (a b c : List ℕ) → IsLifted first above a b → IsLifted first above b c → IsLifted first above a c
lifted_more first above a b c x y = record {
  more = λ j. let l = x.more j in let m = y.more j in omega (arith, l, m);
  settled = λ j lt. y.settled j lt ∙ x.settled j lt;
  enough = λ j. both_of (Enough a b j) (Enough b c j) (Enough a c j) (λ p s t. at j p s t) (slice_index_or above j []) (x.enough j) (y.enough j);
}
  where
    at : (j p : ℕ) → Enough a b j p → Enough b c j p → Enough a c j p
    at j p s (inl over) = inl over
    at j p (inl over) (inr same) = inl (over_more b c p j (y.more p) same over)
    at j p (inr was) (inr same) = inr (same ∙ was)

-- the bounds of all containers of the changed type are large enough
pub one_lifted : (first : ℕ) (above : List (List ℕ)) (a c : List ℕ) (i least : ℕ) → i < length a → first ≤ i → bound a i < least → IsLifted first above (set a i least) c → AllByRecursion (λ p. min 513 (least + 1) ≤ bound c p) (slice_index_or above i []) → IsLifted first above a c
one_lifted first above a c i least inside behind low x done = record {
  more = λ j. let m = x.more j in grown j (same_or_not j i) m;
  settled = λ j lt. let other : j ≢ i = λ is. omega (arith, is) in x.settled j lt ∙ get_or-set_other a i j least 513 other;
  enough = λ j. at j (same_or_not j i);
}
  where
    here : (j : ℕ) → j ≡ i → bound (set a i least) j ≡ least
    here j same = get_or-set_at a i j least 513 same inside

    grown : (j : ℕ) → (j ≡ i) ⊎ (j ≢ i) → bound (set a i least) j ≤ bound c j → bound a j ≤ bound c j
    grown j (inl same) m =
        let h = here j same in
        let e : bound a j ≡ bound a i = ap (bound a) same in
        omega (arith, h, e, m, low)
    grown j (inr other) m = let h = get_or-set_other a i j least 513 other in omega (arith, h, m)

    above_new : (j p : ℕ) → j ≡ i → min 513 (least + 1) ≤ bound c p → Enough (set a i least) c j p → Enough a c j p
    above_new j p same high (inl over) = inl over
    above_new j p same high (inr is) = let h = is ∙ here j same in inl (omega (arith, h, high))

    as_before : (j p : ℕ) → j ≢ i → Enough (set a i least) c j p → Enough a c j p
    as_before j p other (inl over) = inl over
    as_before j p other (inr is) = inr (is ∙ get_or-set_other a i j least 513 other)

    at : (j : ℕ) → (j ≡ i) ⊎ (j ≢ i) → AllByRecursion (Enough a c j) (slice_index_or above j [])
    at j (inl same) =
        both_of (λ p. min 513 (least + 1) ≤ bound c p) (Enough (set a i least) c j) (Enough a c j) (λ p h e. above_new j p same h e) (slice_index_or above j [])
        (subst (λ (k : ℕ). AllByRecursion (λ p. min 513 (least + 1) ≤ bound c p) (slice_index_or above k [])) (sym same) done) (x.enough j)
    at j (inr other) = all_map (Enough (set a i least) c j) (Enough a c j) (λ p e. as_before j p other e) (slice_index_or above j []) (x.enough j)

-- the bound of one more container is large enough
pub one_done : (b c : List ℕ) (least p k : ℕ) (holders : List ℕ) → k < length holders → p ≡ slice_index holders k → min 513 (least + 1) ≤ bound c p → ((j : ℕ) → bound b j ≤ bound c j) → AllByRecursion (λ q. min 513 (least + 1) ≤ bound b q) (take k holders) → AllByRecursion (λ q. min 513 (least + 1) ≤ bound c q) (take (k + 1) holders)
one_done b c least p k holders lt is high more done =
    let P : ℕ → Type 0 = λ q. min 513 (least + 1) ≤ bound c q in
    let one : P (slice_index holders k) = subst P is high in
    let old = all_map (λ q. min 513 (least + 1) ≤ bound b q) P (λ q h. let m = more q in omega (arith, h, m)) (take k holders) done in
    subst (AllByRecursion P) (sym (take_more holders k 0 lt)) (all_joined P (take k holders) (slice_index holders k ∷ []) old (one, tt))

-- ---- containers of a type

pub those_above : (lists : List (Vec ℕ Global)) (i : ℕ) (v : Vec ℕ Global) → i < length lists → v ≡ get_or lists i v → slice_index_or (above_of lists) i [] ≡ v.items
those_above lists i v lt is = get_or-map (λ (w : Vec ℕ Global). w.items) lists i v [] lt ∙ ap (λ (w : Vec ℕ Global). w.items) (sym is)

pub none_above : (lists : List (Vec ℕ Global)) (i : ℕ) → length lists ≤ i → slice_index_or (above_of lists) i [] ≡ []
none_above [] i le = refl
none_above (v ∷ lists) zero le = absurd (omega arith)
none_above (v ∷ lists) (suc i) le = none_above lists i (omega arith)

-- an existing bound
pub bound_is : (xs : List ℕ) (i : ℕ) → i < length xs → bound xs i ≡ slice_index xs i
bound_is [] i lt = absurd (omega (arith, lt))
bound_is (x ∷ xs) zero lt = refl
bound_is (x ∷ xs) (suc i) lt = bound_is xs i (omega (arith, lt))

-- one more empty list
pub empty_more : (lists : List (Vec ℕ Global)) (v : Vec ℕ Global) (k : ℕ) → v.items ≡ [] → slice_index_or (above_of (lists ++ v ∷ [])) k [] ≡ slice_index_or (above_of lists) k []
empty_more [] v zero is = is
empty_more [] v (suc k) is = refl
empty_more (w ∷ lists) v zero is = refl
empty_more (w ∷ lists) v (suc k) is = empty_more lists v k is

kept_there : (xs more : List ℕ) (p : ℕ) → list_any (λ q. q == p) xs ≡ true → list_any (λ q. q == p) (xs ++ more) ≡ true
kept_there xs more p h = rw (list_any-append (λ q. q == p) xs more, h) refl

eqb_same : (n : ℕ) → eqb n n ≡ true
eqb_same n = at (eqb n n) refl
  where
    at : (b : Bool) → eqb n n ≡ b → b ≡ true
    at true e = refl
    at false e = absurd (eqb-false n n e refl)

new_there : (xs : List ℕ) (p : ℕ) → list_any (λ q. q == p) (xs ++ p ∷ []) ≡ true
new_there [] p = let same : (p == p) ≡ true = eqb_same p in rw same refl
new_there (x ∷ xs) p = later (x == p) (new_there xs p)
  where
    later : (b : Bool) → list_any (λ q. q == p) (xs ++ p ∷ []) ≡ true → (b || list_any (λ q. q == p) (xs ++ p ∷ [])) ≡ true
    later true h = refl
    later false h = h

-- one more container of a type
pub longer_above : (lists : List (Vec ℕ Global)) (j : ℕ) (v w : Vec ℕ Global) (more : List ℕ) → j < length lists → v ≡ get_or lists j v → w.items ≡ v.items ++ more → (k p : ℕ) → IsAbove (above_of lists) k p → IsAbove (above_of (set lists j w)) k p
longer_above lists j v w more lt is longer k p h = at (same_or_not k j)
  where
    all : above_of (set lists j w) ≡ set (above_of lists) j w.items
    all = map-set (λ (x : Vec ℕ Global). x.items) lists j w

    inside : j < length (above_of lists)
    inside = let e = length-map lists (λ (x : Vec ℕ Global). x.items) in omega (arith, e, lt)

    at : (k ≡ j) ⊎ (k ≢ j) → IsAbove (above_of (set lists j w)) k p
    at (inl same) =
        let old : slice_index_or (above_of lists) k [] ≡ v.items = ap (λ (n : ℕ). slice_index_or (above_of lists) n []) same ∙ those_above lists j v lt is in
        let new : slice_index_or (above_of (set lists j w)) k [] ≡ v.items ++ more = ap (λ (xs : List (List ℕ)). slice_index_or xs k []) all ∙ get_or-set_at (above_of lists) j k w.items [] same inside ∙ longer in
        ap (list_any (λ q. q == p)) new ∙ kept_there v.items more p (sym (ap (list_any (λ q. q == p)) old) ∙ h)
    at (inr other) =
        ap (λ (xs : List (List ℕ)). list_any (λ q. q == p) (slice_index_or xs k [])) all
        ∙ ap (list_any (λ q. q == p)) (get_or-set_other (above_of lists) j k w.items [] other) ∙ h

pub one_above : (lists : List (Vec ℕ Global)) (j p : ℕ) (w : Vec ℕ Global) (xs : List ℕ) → j < length lists → w.items ≡ xs ++ p ∷ [] → IsAbove (above_of (set lists j w)) j p
one_above lists j p w xs lt longer =
    let e = length-map lists (λ (x : Vec ℕ Global). x.items) in
    let new : slice_index_or (above_of (set lists j w)) j [] ≡ xs ++ p ∷ [] = ap (λ (ys : List (List ℕ)). slice_index_or ys j []) (map-set (λ (x : Vec ℕ Global). x.items) lists j w) ∙ get_or-set_at (above_of lists) j j w.items [] refl (omega (arith, e, lt)) ∙ longer in
    ap (list_any (λ q. q == p)) new ∙ new_there xs p

pub same_above : (a b : List (Vec ℕ Global)) → ((k : ℕ) → slice_index_or (above_of b) k [] ≡ slice_index_or (above_of a) k []) → (k p : ℕ) → IsAbove (above_of a) k p → IsAbove (above_of b) k p
same_above a b same k p h = ap (list_any (λ q. q == p)) (same k) ∙ h

-- a fact of every item of a list holds for one in it
pub at_one : (P : ℕ → Type 0) (p : ℕ) (xs : List ℕ) → list_any (λ q. q == p) xs ≡ true → AllByRecursion P xs → P p
at_one P p [] h a = absurd cc
at_one P p (x ∷ xs) h a = at (eqb x p) refl h (λ g. at_one P p xs g a.1)
  where
    at : (b : Bool) → eqb x p ≡ b → (b || list_any (λ q. q == p) xs) ≡ true → (list_any (λ q. q == p) xs ≡ true → P p) → P p
    at true e g more = subst P (eqb-true x p e) a.0
    at false e g more = more g

-- a bound that was large enough still is
pub still_over : (first : ℕ) (above : List (List ℕ)) (a b : List ℕ) (i j : ℕ) → IsLifted first above a b → IsNoted first above i j → min 513 (bound a j + 1) ≤ bound b i → IsOver b i j
still_over first above a b i j x (inl low) high = let same = x.settled j low in omega (arith, same, high)
still_over first above a b i j x (inr here) high = at (at_one (Enough a b j) i (slice_index_or above j []) here (x.enough j))
  where
    at : Enough a b j i → IsOver b i j
    at (inl over) = over
    at (inr same) = omega (arith, same, high)

-- writing through a slice of the whole list
pub written : (n : ℕ) (ys xs : List ℕ) → length ys ≡ n → take n (ys ++ drop (length ys) xs) ≡ ys
written n ys xs len = ap (λ (m : ℕ). take m (ys ++ drop (length ys) xs)) (sym len) ∙ take-append_seam ys (drop (length ys) xs)

pub lifted_same : (first : ℕ) (lists others : List (Vec ℕ Global)) (a b c e : List ℕ) → others ≡ lists → b ≡ a → e ≡ c → IsLifted first (above_of lists) a c → IsLifted first (above_of others) b e
lifted_same first lists others a b c e x y z h = rw (x, y, z) h

-- the bounds of a prefix, and the one after it
pub front_bound : (n : ℕ) (xs : List ℕ) (k : ℕ) → k < n → bound (take n xs) k ≡ bound xs k
front_bound zero xs k lt = absurd (omega arith)
front_bound (suc n) [] k lt = refl
front_bound (suc n) (x ∷ xs) zero lt = refl
front_bound (suc n) (x ∷ xs) (suc k) lt = front_bound n xs k (omega arith)

pub before_one : (xs : List ℕ) (value k : ℕ) → k < length xs → bound (xs ++ value ∷ []) k ≡ bound xs k
before_one [] value k lt = absurd (omega (arith, lt))
before_one (x ∷ xs) value zero lt = refl
before_one (x ∷ xs) value (suc k) lt = before_one xs value k (omega (arith, lt))

pub one_behind : (xs : List ℕ) (value k : ℕ) → length xs ≡ k → bound (xs ++ value ∷ []) k ≡ value
one_behind [] value zero len = refl
one_behind [] value (suc k) len = absurd (omega (arith, len))
one_behind (x ∷ xs) value zero len = absurd (omega (arith, len))
one_behind (x ∷ xs) value (suc k) len = one_behind xs value k (omega (arith, len))

pub past_bounds : (xs : List ℕ) (k : ℕ) → length xs ≤ k → bound xs k ≡ 513
past_bounds [] k le = refl
past_bounds (x ∷ xs) zero le = absurd (omega arith)
past_bounds (x ∷ xs) (suc k) le = past_bounds xs k (omega arith)
