-- Rows filled by one part of a list after another.
use Rattle.std.proofs.Common.{◌≡◌, ◌⊎◌, inl, inr, ℕ, zero, suc, ◌+◌, ◌-◌, ◌<◌, ◌≤◌, min, List, [], ◌∷◌, ◌++◌, length, set, take, drop, Some, refl, sym, ap, subst, ◌∙◌, arith, length-set, length-append}
use Rattle.std.specs.Prelude.{slice_get, flat_map}
use Rattle.std.proofs.lemmas.Bool.{cases_lt}
use Rattle.std.proofs.lemmas.List.{append-nil, take-append-drop}
use Rattle.std.proofs.lemmas.List.Concat.{flat_map-append}
use Rattle.std.proofs.lemmas.Option.{same_Some, slice_get_within}
use Rattle.ctf_c.proofs.names.Filled.{set_other, set_same}
use Rattle.ctf_c.specs.Visiting.{FillsOn}
use Rattle.ctf_c.specs.names.Filling.{Fills}

get_left : {A : Type 0} (xs ys : List A) (i : ℕ) → i < length xs → slice_get (xs ++ ys) i ≡ slice_get xs i
get_left [] ys i lt = absurd (omega arith)
get_left (x ∷ xs) ys zero lt = refl
get_left (x ∷ xs) ys (suc i) lt = get_left xs ys i (omega arith)

get_right : {A : Type 0} (xs ys : List A) (i : ℕ) → slice_get (xs ++ ys) (length xs + i) ≡ slice_get ys i
get_right [] ys i = let at : 0 + i ≡ i = omega arith in ap (slice_get ys) at
get_right (x ∷ xs) ys i =
    let at : suc (length xs) + i ≡ suc (length xs + i) = omega arith in
    ap (slice_get (x ∷ (xs ++ ys))) at ∙ get_right xs ys i

module _ {A R : Type 0} (Tells : A → R → Type 0) where
  none_filled : (c : ℕ) (old : List R) → c ≤ length old + 1 → FillsOn Tells [] c c old old
  none_filled c old le = record {
    many = refl;
    answered = omega arith;
    told = λ i x r e f. absurd cc;
    before = λ i lt. refl;
    behind = λ i past. refl;
  }

  pub filled_none : (items : List A) (c : ℕ) (old : List R) → items ≡ [] → c ≤ length old + 1 → FillsOn Tells items c c old old
  filled_none items c old e le = rw e (none_filled c old le)

  -- once there are no more rows
  pub filled_up : (items : List A) (c : ℕ) (old : List R) → c ≡ length old + 1 → FillsOn Tells items c c old old
  filled_up items c old is = record {
    many = refl;
    answered = omega arith;
    told = λ i x r e f. absurd (let a = slice_get_within old (c + i) r f in omega (arith, a, is));
    before = λ i lt. refl;
    behind = λ i past. refl;
  }

  one_told : (x : A) (row : R) (c : ℕ) (old : List R) → Tells x row → (i : ℕ) (y : A) (r : R) → slice_get (x ∷ []) i ≡ Some y → slice_get (set old c row) (c + i) ≡ Some r → Tells y r
  one_told x row c old tells zero y r e f =
      let at : c + 0 ≡ c = omega arith in
      let there = subst (λ k. slice_get (set old c row) k ≡ Some r) at f in
      let inside = slice_get_within (set old c row) c r there in
      let same_row : row ≡ r = same_Some _ _ (sym (set_same old c row (omega (arith, inside, length-set old c row))) ∙ there) in
      let same_item : x ≡ y = same_Some _ _ e in
      subst (λ it. Tells it r) same_item (subst (λ it. Tells x it) same_row tells)
  one_told x row c old tells (suc i) y r e f = absurd cc

  pub filled_one : (x : A) (row : R) (c : ℕ) (old : List R) → c ≤ length old → Tells x row → FillsOn Tells (x ∷ []) c (c + 1) old (set old c row)
  filled_one x row c old le tells = record {
    many = length-set old c row;
    answered = omega arith;
    told = one_told x row c old tells;
    before = λ i lt. set_other old c i row (λ e. omega (arith, e, lt));
    behind = λ i past. set_other old c i row (λ e. omega (arith, e, past));
  }

  module _ (xs ys : List A) (c d e : ℕ) (old mid new : List R) (room : c ≤ length old + 1) (a : FillsOn Tells xs c d old mid) (b : FillsOn Tells ys d e mid new) where
    both_told : (i : ℕ) (x : A) (r : R) → slice_get (xs ++ ys) i ≡ Some x → slice_get new (c + i) ≡ Some r → (i < length xs) ⊎ (length xs ≤ i) → Tells x r
    both_told i x r is there (inl lt) =
        let inside = slice_get_within new (c + i) r there in
        let before : c + i < d = let p = a.answered in let q = a.many in let s = b.many in omega (arith, p, q, s, inside, lt) in
        a.told i x r (sym (get_left xs ys i lt) ∙ is) (sym (b.before (c + i) before) ∙ there)
    both_told i x r is there (inr le) =
        let inside = slice_get_within new (c + i) r there in
        let at : i ≡ length xs + (i - length xs) = omega arith in
        let from : c + i ≡ d + (i - length xs) = let p = a.answered in let q = a.many in let s = b.many in omega (arith, p, q, s, inside, le) in
        b.told (i - length xs) x r (sym (get_right xs ys (i - length xs)) ∙ ap (slice_get (xs ++ ys)) (sym at) ∙ is) (ap (slice_get new) (sym from) ∙ there)

    pub filled_both : FillsOn Tells (xs ++ ys) c e old new
    filled_both = record {
      many = b.many ∙ a.many;
      answered = let p = a.answered in let q = a.many in let s = b.answered in omega (arith, p, q, s, length-append xs ys);
      told = λ i x r is there. both_told i x r is there (cases_lt i (length xs));
      before = λ i lt. b.before i (let p = a.answered in omega (arith, p, lt, room)) ∙ a.before i lt;
      behind = λ i past. b.behind i (let p = a.answered in let n = length-append xs ys in omega (arith, p, n, past)) ∙ a.behind i (let n = length-append xs ys in omega (arith, n, past));
    }

  -- an item, then those nested in it
  pub filled_member : (x : A) (inside : List A) (row : R) (c e : ℕ) (now new : List R) → c ≤ length now → Tells x row → FillsOn Tells inside (c + 1) e (set now c row) new → FillsOn Tells (x ∷ inside) c e now new
  filled_member x inside row c e now new le tells rest = filled_both (x ∷ []) inside c (c + 1) e now (set now c row) new (omega arith) (filled_one x row c now le tells) rest

  -- if the rows end before the items do
  pub filled_early : (done rest : List A) (c d : ℕ) (old now : List R) → c ≤ length old + 1 → FillsOn Tells done c d old now → length now < d → FillsOn Tells (done ++ rest) c d old now
  filled_early done rest c d old now room h lt = filled_both done rest c d d old now now room h (filled_up rest d now (let a = h.answered in let m = h.many in omega (arith, a, m, lt)))

  -- from the first row on
  pub filled_all : (items : List A) (answer : ℕ) (old new : List R) → FillsOn Tells items 0 answer old new → Fills Tells items 0 old new
  filled_all items answer old new h = record {
    many = h.many;
    told = λ i x r e f. h.told i x r (ap (slice_get items) (sym (front i)) ∙ e) (ap (slice_get new) (front i) ∙ f);
    stays = λ i past. h.behind i (omega arith);
  }
    where
      front : (i : ℕ) → 0 + i ≡ i
      front i = omega arith

  pub all_answered : (items : List A) (answer : ℕ) (old new : List R) → FillsOn Tells items 0 answer old new → answer ≡ min (length items) (length old + 1)
  all_answered items answer old new h = let a = h.answered in omega (arith, a)

-- ---- lists in which each item leads to more

take_one : {X : Type 0} (xs : List X) (i : ℕ) (x : X) → slice_get xs i ≡ Some x → take (suc i) xs ≡ take i xs ++ x ∷ []
take_one [] i x e = absurd cc
take_one (y ∷ xs) zero x e = let same : y ≡ x = same_Some _ _ e in ap (λ it. it ∷ []) same
take_one (y ∷ xs) (suc i) x e = ap (λ rest. y ∷ rest) (take_one xs i x e)

pub flat_more : {X A : Type 0} (f : X → List A) (xs : List X) (i : ℕ) (x : X) → slice_get xs i ≡ Some x → flat_map f (take (i + 1) xs) ≡ flat_map f (take i xs) ++ f x
flat_more f xs i x e =
    let more : i + 1 ≡ suc i = omega arith in
    ap (λ n. flat_map f (take n xs)) more ∙ ap (flat_map f) (take_one xs i x e) ∙ flat_map-append f (take i xs) (x ∷ []) ∙ ap (λ l. flat_map f (take i xs) ++ l) (append-nil (f x))

pub flat_rest : {X A : Type 0} (f : X → List A) (xs : List X) (i : ℕ) → flat_map f xs ≡ flat_map f (take i xs) ++ flat_map f (drop i xs)
flat_rest f xs i = ap (flat_map f) (sym (take-append-drop i xs)) ∙ flat_map-append f (take i xs) (drop i xs)

pub one_there : {A : Type 0} (xs : List A) (i : ℕ) → i < length xs → (x : A) × (slice_get xs i ≡ Some x)
one_there [] i lt = absurd (omega arith)
one_there (x ∷ xs) zero lt = (x, refl)
one_there (x ∷ xs) (suc i) lt = one_there xs i (omega arith)
