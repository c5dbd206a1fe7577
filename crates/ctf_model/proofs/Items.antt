-- Lists read item by item.
use Rattle.std.proofs.Common.{◌≡◌, ℕ, zero, suc, ◌+◌, ◌*◌, ◌<◌, List, [], ◌∷◌, length, take, drop, Option, Some, None, refl, ap, subst, ◌∙◌, arith}
use Rattle.std.specs.Prelude.{slice_get}
use Rattle.std.proofs.lemmas.List.{drop-drop}
use Rattle.ctf_model.specs.format.Spelling.{items, ◌>>=◌}

-- the first of `n + 1` items, and the others
pub record IsFirst {A : Type 0} (item : List ℕ → Option A) (len n : ℕ) (b : List ℕ) (xs : List A) : Type 0 where
  pub first : A
  pub others : List A
  pub reads : item b ≡ Some first
  pub rest : items item len n (drop len b) ≡ Some others
  pub all : xs ≡ first ∷ others

first_case : {A : Type 0} (item : List ℕ → Option A) (len n : ℕ) (b : List ℕ) (xs : List A) (o : Option A) (p : Option (List A)) → item b ≡ o → items item len n (drop len b) ≡ p → (o >>= (λ first. p >>= (λ others. Some (first ∷ others)))) ≡ Some xs → IsFirst item len n b xs
first_case item len n b xs None p e f h = absurd cc
first_case item len n b xs (Some x) None e f h = absurd cc
first_case item len n b xs (Some x) (Some ys) e f h = record { first = x; others = ys; reads = e; rest = f; all = cc }

-- a list of `n + 1` items has a first item
pub items_first : {A : Type 0} (item : List ℕ → Option A) (len n : ℕ) (b : List ℕ) (xs : List A) → items item len (suc n) b ≡ Some xs → IsFirst item len n b xs
items_first item len n b xs h = first_case item len n b xs (item b) (items item len n (drop len b)) refl refl h

-- a first item and `n` others make a list of `n + 1`
pub items_more : {A : Type 0} (item : List ℕ → Option A) (len n : ℕ) (b : List ℕ) (x : A) (xs : List A) → item b ≡ Some x → items item len n (drop len b) ≡ Some xs → items item len (suc n) b ≡ Some (x ∷ xs)
items_more item len n b x xs e f = rw (e, f) refl

-- the list has as many items as were read
pub items_length : {A : Type 0} (item : List ℕ → Option A) (len n : ℕ) (b : List ℕ) (xs : List A) → items item len n b ≡ Some xs → length xs ≡ n
items_length item len zero b xs h = let none : xs ≡ [] = cc in rw none refl
items_length item len (suc n) b xs h =
    let f = items_first item len n b xs h in
    rw f.all (ap suc (items_length item len n (drop len b) f.others f.rest))

-- the offset of an item, counted from the second item on
further : (len i : ℕ) (b : List ℕ) → drop (len * i) (drop len b) ≡ drop (len * suc i) b
further len i b = drop-drop (len * i) len b ∙ ap (λ (at : ℕ). drop at b) (omega arith)

-- the items of the front and of the back of a list
pub record IsSplit {A : Type 0} (item : List ℕ → Option A) (len i m : ℕ) (b : List ℕ) (xs : List A) : Type 0 where
  pub front : items item len i b ≡ Some (take i xs)
  pub back : items item len m (drop (len * i) b) ≡ Some (drop i xs)

-- a list that can be read can be split
pub items_split : {A : Type 0} (item : List ℕ → Option A) (len i m : ℕ) (b : List ℕ) (xs : List A) → items item len (i + m) b ≡ Some xs → IsSplit item len i m b xs
items_split item len zero m b xs h =
    let none : len * 0 ≡ 0 = omega arith in
    let same : 0 + m ≡ m = omega arith in
    record { front = refl; back = rw none (subst (λ k. items item len k b ≡ Some xs) same h) }
items_split item len (suc i) m b xs h =
    let f = items_first item len (i + m) b xs (rw (suc_add i m) at h) in
    let s = items_split item len i m (drop len b) f.others f.rest in
    record {
      front = rw f.all (items_more item len i b f.first (take i f.others) f.reads s.front);
      back = rw f.all (rw (further len i b) at s.back);
    }
  where
    suc_add : (i m : ℕ) → suc i + m ≡ suc (i + m)
    suc_add i m = omega arith

-- an item is read at its offset
pub items_at : {A : Type 0} (item : List ℕ → Option A) (len n i : ℕ) (b : List ℕ) (xs : List A) → items item len n b ≡ Some xs → i < n → item (drop (len * i) b) ≡ slice_get xs i
items_at item len zero i b xs h lt = absurd (omega arith)
items_at item len (suc n) zero b xs h lt =
    let f = items_first item len n b xs h in
    let none : len * 0 ≡ 0 = omega arith in
    rw (none, f.all) f.reads
items_at item len (suc n) (suc i) b xs h lt =
    let f = items_first item len n b xs h in
    rw (← further len i b, f.all) (items_at item len n i (drop len b) f.others f.rest (omega arith))
