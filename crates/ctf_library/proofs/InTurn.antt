-- Lists in the order of turns.
use Rattle.std.proofs.Common.{◌≡◌, ℕ, ◌+◌, ◌<◌, ◌≤◌, List, [], ◌∷◌, ◌++◌, Bool, true, false, leb, ltb, sum_by, refl, sym, ap, arith}
use Rattle.std.specs.Prelude.{◌&&◌, filter, nat_le, nat_lt}
use Rattle.std.specs.Cmp.Derive.{both_true}
use Rattle.std.specs.List.{list_all}
use Rattle.std.proofs.lemmas.Bool.{lt-ltb, le-ltb, ltb-true, ltb-false, le-leb, leb-true}
use Rattle.std.proofs.lemmas.List.Sums.{sum_by-cons}
use Rattle.ctf_library.specs.Turns.{in_turn, insert_turn}

pub parts_true : (a b : Bool) → (a && b) ≡ true → (a ≡ true) × (b ≡ true)
parts_true true b h = (refl, h)
parts_true false b h = absurd cc

-- ---- ascending turns

-- the turns ascend from `low` on
abbrev rise_from : {X : Type 0} → (X → ℕ) → ℕ → List X → Bool
rise_from turn low [] = true
rise_from turn low (x ∷ xs) = nat_le low (turn x) && rise_from turn (turn x) xs

lower : {X : Type 0} (turn : X → ℕ) (low least : ℕ) (xs : List X) → least ≤ low → rise_from turn low xs ≡ true → rise_from turn least xs ≡ true
lower turn low least [] le h = refl
lower turn low least (x ∷ xs) le h =
    let p = parts_true (leb low (turn x)) (rise_from turn (turn x) xs) h in
    let above = leb-true low (turn x) p.0 in
    both_true (le-leb least (turn x) (omega (arith, above, le))) p.1

placed_case : {X : Type 0} (turn : X → ℕ) (low : ℕ) (e x : X) (xs : List X) → (turn x ≤ turn e → rise_from turn (turn x) (insert_turn turn e xs) ≡ true) → (t : Bool) → ltb (turn e) (turn x) ≡ t → low ≤ turn e → rise_from turn low (x ∷ xs) ≡ true → rise_from turn low (insert_turn turn e (x ∷ xs)) ≡ true
placed_case turn low e x xs later true t le h =
    let p = parts_true (leb low (turn x)) (rise_from turn (turn x) xs) h in
    let lt = ltb-true (turn e) (turn x) t in
    rw t (both_true (le-leb low (turn e) le) (both_true (le-leb (turn e) (turn x) (omega (arith, lt))) p.1))
placed_case turn low e x xs later false t le h =
    let p = parts_true (leb low (turn x)) (rise_from turn (turn x) xs) h in
    rw t (both_true p.0 (later (ltb-false (turn e) (turn x) t)))

rise_placed : {X : Type 0} (turn : X → ℕ) (low : ℕ) (e : X) (xs : List X) → low ≤ turn e → rise_from turn low xs ≡ true → rise_from turn low (insert_turn turn e xs) ≡ true
rise_placed turn low e [] le h = both_true (le-leb low (turn e) le) refl
rise_placed turn low e (x ∷ xs) le h =
    let p = parts_true (leb low (turn x)) (rise_from turn (turn x) xs) h in
    placed_case turn low e x xs (λ up. rise_placed turn (turn x) e xs up p.1) (ltb (turn e) (turn x)) refl le h

rise_in_turn : {X : Type 0} (turn : X → ℕ) (es : List X) → rise_from turn 0 (in_turn turn es) ≡ true
unfolding in_turn
rise_in_turn turn [] = refl
rise_in_turn turn (e ∷ es) = rise_placed turn 0 e (in_turn turn es) (omega arith) (rise_in_turn turn es)

-- ---- some of the items

placed_first : {X : Type 0} (turn : X → ℕ) (low : ℕ) (e : X) (xs : List X) → turn e < low → rise_from turn low xs ≡ true → insert_turn turn e xs ≡ e ∷ xs
placed_first turn low e [] lt h = refl
placed_first turn low e (x ∷ xs) lt h =
    let p = parts_true (leb low (turn x)) (rise_from turn (turn x) xs) h in
    let above = leb-true low (turn x) p.0 in
    rw (lt-ltb (turn e) (turn x) (omega (arith, above, lt))) refl

rise_filter_case : {X : Type 0} (turn : X → ℕ) (keeps : X → Bool) (low : ℕ) (x : X) (xs : List X) (b : Bool) → keeps x ≡ b → rise_from turn (turn x) (filter keeps xs) ≡ true → rise_from turn low (x ∷ xs) ≡ true → rise_from turn low (filter keeps (x ∷ xs)) ≡ true
rise_filter_case turn keeps low x xs true e later h =
    let p = parts_true (leb low (turn x)) (rise_from turn (turn x) xs) h in
    rw e (both_true p.0 later)
rise_filter_case turn keeps low x xs false e later h =
    let p = parts_true (leb low (turn x)) (rise_from turn (turn x) xs) h in
    rw e (lower turn (turn x) low (filter keeps xs) (leb-true low (turn x) p.0) later)

rise_filter : {X : Type 0} (turn : X → ℕ) (keeps : X → Bool) (low : ℕ) (xs : List X) → rise_from turn low xs ≡ true → rise_from turn low (filter keeps xs) ≡ true
rise_filter turn keeps low [] h = refl
rise_filter turn keeps low (x ∷ xs) h =
    let p = parts_true (leb low (turn x)) (rise_from turn (turn x) xs) h in
    rise_filter_case turn keeps low x xs (keeps x) refl (rise_filter turn keeps (turn x) xs p.1) h

kept_case : {X : Type 0} (turn : X → ℕ) (keeps : X → Bool) (low : ℕ) (e x : X) (xs : List X) → filter keeps (insert_turn turn e xs) ≡ insert_turn turn e (filter keeps xs) → (t b : Bool) → ltb (turn e) (turn x) ≡ t → keeps x ≡ b → keeps e ≡ true → rise_from turn low (x ∷ xs) ≡ true → filter keeps (insert_turn turn e (x ∷ xs)) ≡ insert_turn turn e (filter keeps (x ∷ xs))
kept_case turn keeps low e x xs later true true t b k h = rw (t, k, b) (rw t refl)
kept_case turn keeps low e x xs later true false t b k h =
    let p = parts_true (leb low (turn x)) (rise_from turn (turn x) xs) h in
    rw (t, k, b) (sym (placed_first turn (turn x) e (filter keeps xs) (ltb-true (turn e) (turn x) t) (rise_filter turn keeps (turn x) xs p.1)))
kept_case turn keeps low e x xs later false true t b k h = rw (t, b) (rw t (ap (λ ys. x ∷ ys) later))
kept_case turn keeps low e x xs later false false t b k h = rw (t, b) later

-- an item that is kept has the same position among the kept ones
pub kept_placed : {X : Type 0} (turn : X → ℕ) (keeps : X → Bool) (low : ℕ) (e : X) (xs : List X) → keeps e ≡ true → rise_from turn low xs ≡ true → filter keeps (insert_turn turn e xs) ≡ insert_turn turn e (filter keeps xs)
kept_placed turn keeps low e [] k h = rw k refl
kept_placed turn keeps low e (x ∷ xs) k h =
    let p = parts_true (leb low (turn x)) (rise_from turn (turn x) xs) h in
    kept_case turn keeps low e x xs (kept_placed turn keeps (turn x) e xs k p.1) (ltb (turn e) (turn x)) (keeps x) refl refl k h

pub kept_in_turn : {X : Type 0} (turn : X → ℕ) (keeps : X → Bool) (e : X) (es : List X) → keeps e ≡ true → filter keeps (insert_turn turn e (in_turn turn es)) ≡ insert_turn turn e (filter keeps (in_turn turn es))
kept_in_turn turn keeps e es k = kept_placed turn keeps 0 e (in_turn turn es) k (rise_in_turn turn es)

gone_case : {X : Type 0} (turn : X → ℕ) (keeps : X → Bool) (e x : X) (xs : List X) → filter keeps (insert_turn turn e xs) ≡ filter keeps xs → (t b : Bool) → ltb (turn e) (turn x) ≡ t → keeps x ≡ b → keeps e ≡ false → filter keeps (insert_turn turn e (x ∷ xs)) ≡ filter keeps (x ∷ xs)
gone_case turn keeps e x xs later true b t k g = rw (t, g) refl
gone_case turn keeps e x xs later false true t k g = rw (t, k) (ap (λ ys. x ∷ ys) later)
gone_case turn keeps e x xs later false false t k g = rw (t, k) later

-- an item that is not kept
pub gone_placed : {X : Type 0} (turn : X → ℕ) (keeps : X → Bool) (e : X) (xs : List X) → keeps e ≡ false → filter keeps (insert_turn turn e xs) ≡ filter keeps xs
gone_placed turn keeps e [] g = rw g refl
gone_placed turn keeps e (x ∷ xs) g = gone_case turn keeps e x xs (gone_placed turn keeps e xs g) (ltb (turn e) (turn x)) (keeps x) refl refl g

-- ---- all items

all_case : {X : Type 0} (turn : X → ℕ) (test : X → Bool) (e x : X) (xs : List X) → list_all test (insert_turn turn e xs) ≡ true → (t : Bool) → ltb (turn e) (turn x) ≡ t → test e ≡ true → list_all test (x ∷ xs) ≡ true → list_all test (insert_turn turn e (x ∷ xs)) ≡ true
all_case turn test e x xs later true t is h = rw t (both_true is h)
all_case turn test e x xs later false t is h = rw t (both_true (parts_true (test x) (list_all test xs) h).0 later)

all_placed : {X : Type 0} (turn : X → ℕ) (test : X → Bool) (e : X) (xs : List X) → test e ≡ true → list_all test xs ≡ true → list_all test (insert_turn turn e xs) ≡ true
all_placed turn test e [] is h = both_true is refl
all_placed turn test e (x ∷ xs) is h = all_case turn test e x xs (all_placed turn test e xs is (parts_true (test x) (list_all test xs) h).1) (ltb (turn e) (turn x)) refl is h

pub all_in_turn : {X : Type 0} (turn : X → ℕ) (test : X → Bool) (es : List X) → list_all test es ≡ true → list_all test (in_turn turn es) ≡ true
unfolding in_turn
all_in_turn turn test [] h = refl
all_in_turn turn test (e ∷ es) h =
    let p = parts_true (test e) (list_all test es) h in
    all_placed turn test e (in_turn turn es) p.0 (all_in_turn turn test es p.1)

sum_case : {X : Type 0} (turn weight : X → ℕ) (e x : X) (xs : List X) → sum_by weight (insert_turn turn e xs) ≡ weight e + sum_by weight xs → (t : Bool) → ltb (turn e) (turn x) ≡ t → sum_by weight (insert_turn turn e (x ∷ xs)) ≡ weight e + sum_by weight (x ∷ xs)
sum_case turn weight e x xs later true t = rw t (sum_by-cons weight e (x ∷ xs))
sum_case turn weight e x xs later false t = rw t (omega (arith, later, sum_by-cons weight x (insert_turn turn e xs), sum_by-cons weight x xs))

placed_sum : {X : Type 0} (turn weight : X → ℕ) (e : X) (xs : List X) → sum_by weight (insert_turn turn e xs) ≡ weight e + sum_by weight xs
placed_sum turn weight e [] = sum_by-cons weight e []
placed_sum turn weight e (x ∷ xs) = sum_case turn weight e x xs (placed_sum turn weight e xs) (ltb (turn e) (turn x)) refl

-- sorting by turn changes no sum
pub in_turn_sum : {X : Type 0} (turn weight : X → ℕ) (es : List X) → sum_by weight (in_turn turn es) ≡ sum_by weight es
unfolding in_turn
in_turn_sum turn weight [] = refl
in_turn_sum turn weight (e ∷ es) =
    let later = in_turn_sum turn weight es in
    let here = placed_sum turn weight e (in_turn turn es) in
    omega (arith, later, here, sum_by-cons weight e es)

-- ---- one more item, after all others

pub placed_last : {X : Type 0} (turn : X → ℕ) (last : X) (xs : List X) → list_all (λ x. nat_lt (turn x) (turn last)) xs ≡ true → insert_turn turn last xs ≡ xs ++ last ∷ []
placed_last turn last [] h = refl
placed_last turn last (x ∷ xs) h =
    let p = parts_true (ltb (turn x) (turn last)) (list_all (λ y. nat_lt (turn y) (turn last)) xs) h in
    let lt = ltb-true (turn x) (turn last) p.0 in
    rw (le-ltb (turn last) (turn x) (omega (arith, lt))) (ap (λ ys. x ∷ ys) (placed_last turn last xs p.1))

under_case : {X : Type 0} (turn : X → ℕ) (e last x : X) (xs : List X) → insert_turn turn e (xs ++ last ∷ []) ≡ insert_turn turn e xs ++ last ∷ [] → (t : Bool) → ltb (turn e) (turn x) ≡ t → insert_turn turn e (x ∷ xs ++ last ∷ []) ≡ insert_turn turn e (x ∷ xs) ++ last ∷ []
under_case turn e last x xs later true t = rw t refl
under_case turn e last x xs later false t = rw t (ap (λ ys. x ∷ ys) later)

pub placed_under : {X : Type 0} (turn : X → ℕ) (e last : X) (xs : List X) → turn e < turn last → insert_turn turn e (xs ++ last ∷ []) ≡ insert_turn turn e xs ++ last ∷ []
placed_under turn e last [] lt = rw (lt-ltb (turn e) (turn last) lt) refl
placed_under turn e last (x ∷ xs) lt = under_case turn e last x xs (placed_under turn e last xs lt) (ltb (turn e) (turn x)) refl
