-- Slots are ordered by their numbers.
use Rattle.std.proofs.Common.{◌≡◌, ◌≢◌, ℕ, zero, suc, ◌+◌, ◌<◌, ◌≤◌, List, [], ◌∷◌, ◌++◌, map, set, get_or, length, Bool, true, false, Option, None, Some, eqb, leb, ltb, refl, ◌∙◌, ap, arith, add-one}
use Rattle.std.specs.Option.{option_to_list}
use Rattle.std.specs.Prelude.{◌&&◌, option_map}
use Rattle.std.specs.Cmp.Derive.{both_true}
use Rattle.std.specs.List.{remove}
use Rattle.std.specs.List.Sorted.{IsNonDecreasingBy}
use Rattle.std.proofs.lemmas.Bool.{eqb-true, eq-eqb, leb-true, le-leb, ltb-true, lt-ltb}
use Rattle.ctf_library.specs.SlotPlaces.{place_of}
use Rattle.ctf_library.specs.SlotOrder.{rise_between}
use Rattle.ctf_library.specs.SlotView.{slot_of}
use Rattle.ctf_library.specs.declared.slots.Slot as own

parts_true : (a b : Bool) → (a && b) ≡ true → (a ≡ true) × (b ≡ true)
parts_true true b h = (refl, h)
parts_true false b h = absurd cc

-- consequences for the first slot
record First (low : ℕ) (x : own.Slot) (xs : List own.Slot) (high : ℕ) : Type 0 where
  pub above : low ≤ x.number
  pub below : x.number < high
  pub later : rise_between (x.number + 1) xs high ≡ true

first : (low : ℕ) (x : own.Slot) (xs : List own.Slot) (high : ℕ) → rise_between low (x ∷ xs) high ≡ true → First low x xs high
first low x xs high h =
    let outer = parts_true (leb low x.number && ltb x.number high) (rise_between (x.number + 1) xs high) h in
    let inner = parts_true (leb low x.number) (ltb x.number high) outer.0 in
    record { above = leb-true low x.number inner.0; below = ltb-true x.number high inner.1; later = outer.1 }

rises : (low : ℕ) (x : own.Slot) (xs : List own.Slot) (high : ℕ) → low ≤ x.number → x.number < high → rise_between (x.number + 1) xs high ≡ true → rise_between low (x ∷ xs) high ≡ true
rises low x xs high above below later = both_true (both_true (le-leb low x.number above) (lt-ltb x.number high below)) later

-- from a lower number on
lower : (low least : ℕ) (xs : List own.Slot) (high : ℕ) → least ≤ low → rise_between low xs high ≡ true → rise_between least xs high ≡ true
lower low least [] high le h = refl
lower low least (x ∷ xs) high le h =
    let f = first low x xs high h in
    let above = f.above in
    rises least x xs high (omega (arith, above)) f.below f.later

-- every number is at least the first bound
at_least : (low : ℕ) (xs : List own.Slot) (high j : ℕ) (d : own.Slot) → rise_between low xs high ≡ true → j < length xs → low ≤ (get_or xs j d).number
at_least low [] high j d h lt = absurd (omega arith)
at_least low (x ∷ xs) high zero d h lt = (first low x xs high h).above
at_least low (x ∷ xs) high (suc j) d h lt =
    let f = first low x xs high h in
    let above = f.above in
    let later = at_least (x.number + 1) xs high j d f.later (omega arith) in
    omega (arith, above, later)

pub non_decreasing : (low : ℕ) (xs : List own.Slot) (high : ℕ) → rise_between low xs high ≡ true → IsNonDecreasingBy (λ (s : own.Slot). s.number) xs
non_decreasing low [] high h i j d le lt = absurd (omega arith)
non_decreasing low (x ∷ xs) high h zero zero d le lt = omega arith
non_decreasing low (x ∷ xs) high h zero (suc j) d le lt =
    let f = first low x xs high h in
    let later = at_least (x.number + 1) xs high j d f.later (omega arith) in
    omega (arith, later)
non_decreasing low (x ∷ xs) high h (suc i) zero d le lt = absurd (omega arith)
non_decreasing low (x ∷ xs) high h (suc i) (suc j) d le lt = non_decreasing (x.number + 1) xs high (first low x xs high h).later i j d (omega arith) (omega arith)

-- ---- changes that keep the order

pub rise_pushed : (low : ℕ) (xs : List own.Slot) (x : own.Slot) (high : ℕ) → low ≤ high → x.number ≡ high → rise_between low xs high ≡ true → rise_between low (xs ++ x ∷ []) (high + 1) ≡ true
rise_pushed low [] x high le same h = rises low x [] (high + 1) (omega (arith, same)) (omega (arith, same)) refl
rise_pushed low (y ∷ ys) x high le same h =
    let f = first low y ys high h in
    let below = f.below in
    rises low y (ys ++ x ∷ []) (high + 1) f.above (omega (arith, below)) (rise_pushed (y.number + 1) ys x high (omega (arith, below)) same f.later)

pub rise_removed : (low : ℕ) (xs : List own.Slot) (high i : ℕ) → i < length xs → rise_between low xs high ≡ true → rise_between low (remove xs i) high ≡ true
rise_removed low [] high i lt h = absurd (omega arith)
rise_removed low (x ∷ xs) high zero lt h =
    let f = first low x xs high h in
    let above = f.above in
    lower (x.number + 1) low xs high (omega (arith, above)) f.later
rise_removed low (x ∷ xs) high (suc i) lt h =
    let f = first low x xs high h in
    rises low x (remove xs i) high f.above f.below (rise_removed (x.number + 1) xs high i (omega arith) f.later)

pub rise_set : (low : ℕ) (xs : List own.Slot) (high i : ℕ) (d new : own.Slot) → new.number ≡ (get_or xs i d).number → rise_between low xs high ≡ true → rise_between low (set xs i new) high ≡ true
rise_set low [] high i d new same h = refl
rise_set low (x ∷ xs) high zero d new same h = rw same h
rise_set low (x ∷ xs) high (suc i) d new same h =
    let f = first low x xs high h in
    rises low x (set xs i new) high f.above f.below (rise_set (x.number + 1) xs high i d new same f.later)

-- ---- the index of a number

other_number : (n m : ℕ) → n ≢ m → (t : Bool) → eqb n m ≡ t → t ≡ false
other_number n m ne true e = absurd (ne (eqb-true n m e))
other_number n m ne false e = refl

-- no slot has the number
pub nowhere : (n : ℕ) (xs : List own.Slot) → ((j : ℕ) (d : own.Slot) → j < length xs → (get_or xs j d).number ≢ n) → place_of n (map slot_of xs) ≡ None
nowhere n [] h = refl
nowhere n (x ∷ xs) h =
    rw (other_number x.number n (h 0 x (omega arith)) (eqb x.number n) refl) (ap (option_map (λ (i : ℕ). i + 1)) (nowhere n xs (λ j d lt. h (suc j) d (omega arith))))

-- a slot has it, and none before
pub placed : (n : ℕ) (xs : List own.Slot) (i : ℕ) → ((j : ℕ) (d : own.Slot) → j < i → j < length xs → (get_or xs j d).number ≢ n) → i < length xs → ((d : own.Slot) → (get_or xs i d).number ≡ n) → place_of n (map slot_of xs) ≡ Some i
placed n [] i before lt here = absurd (omega arith)
placed n (x ∷ xs) zero before lt here = rw (eq-eqb x.number n (here x)) refl
placed n (x ∷ xs) (suc i) before lt here =
    rw (other_number x.number n (before 0 x (omega arith) (omega arith)) (eqb x.number n) refl) (ap (option_map (λ (k : ℕ). k + 1)) (placed n xs i (λ j d l m. before (suc j) d (omega arith) (omega arith)) (omega arith) here) ∙ ap Some (add-one i))

-- ---- the slots after the first

later_in_order : (x : own.Slot) (xs : List own.Slot) → IsNonDecreasingBy (λ (s : own.Slot). s.number) (x ∷ xs) → IsNonDecreasingBy (λ (s : own.Slot). s.number) xs
later_in_order x xs h i j d le lt = h (suc i) (suc j) d (omega (arith, le)) (omega (arith, lt))

pub rise_later : (low : ℕ) (x : own.Slot) (xs ys : List own.Slot) (high : ℕ) → ((least next : ℕ) → rise_between least xs next ≡ true → rise_between least ys next ≡ true) → rise_between low (x ∷ xs) high ≡ true → rise_between low (x ∷ ys) high ≡ true
rise_later low x xs ys high keeps h =
    let f = first low x xs high h in
    rises low x ys high f.above f.below (keeps (x.number + 1) high f.later)

pub others_in_order : (first : Option own.Slot) (xs ys : List own.Slot) → ys ≡ xs → IsNonDecreasingBy (λ (s : own.Slot). s.number) (option_to_list first ++ xs) → IsNonDecreasingBy (λ (s : own.Slot). s.number) ys
others_in_order None xs ys same h = rw same h
others_in_order (Some x) xs ys same h = rw same (later_in_order x xs h)

pub rise_pushed_later : (first : Option own.Slot) (xs ys : List own.Slot) (x : own.Slot) → ys ≡ xs ++ x ∷ [] → rise_between 0 (option_to_list first ++ xs) x.number ≡ true → rise_between 0 (option_to_list first ++ ys) (x.number + 1) ≡ true
rise_pushed_later None xs ys x same h = rw same (rise_pushed 0 xs x x.number (omega arith) refl h)
rise_pushed_later (Some y) xs ys x same h = rw same (rise_pushed 0 (y ∷ xs) x x.number (omega arith) refl h)
