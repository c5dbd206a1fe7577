-- The first, last and other items of a list in bytes.
use Rattle.std.proofs.Common.{◌≡◌, ℕ, zero, suc, ◌+◌, ◌-◌, ◌*◌, ◌<◌, ◌≤◌, List, [], ◌∷◌, ◌++◌, length, take, drop, Option, Some, None, refl, sym, ap, subst, ◌∙◌, arith, length-drop, length-append}
use Rattle.std.specs.Prelude.{slice_get, unwrap_or, IsSome}
use Rattle.std.specs.Iterator.{MakesProgress, item_count}
use Rattle.std.proofs.lemmas.List.{take-append-drop}
use Rattle.std.proofs.lemmas.Option.{slice_get_past, same_Some}
use Rattle.ctf_model.specs.format.Bytes.{u16_at}
use Rattle.ctf_model.specs.format.Spelling.{◌>>=◌, items, argument_of}
use Rattle.ctf_model.proofs.Items.{items_first, items_length, items_split, items_at}
use Rattle.ctf_views.specs.Lists.{items_in, AreGood}

some_is : {A : Type 0} (o : Option (List A)) → IsSome o → o ≡ Some (unwrap_or o [])
some_is None h = absurd cc
some_is (Some x) h = refl

-- `items_in` gives the items if they are valid
pub items_in_is : {A : Type 0} (item : List ℕ → Option A) (len n : ℕ) (b : List ℕ) → AreGood item len n b → items item len n b ≡ Some (items_in item len n b)
unfolding items_in
items_in_is item len n b h = some_is (items item len n b) h.good

-- and conversely
pub items_in_by : {A : Type 0} (item : List ℕ → Option A) (len n : ℕ) (b : List ℕ) (xs : List A) → items item len n b ≡ Some xs → items_in item len n b ≡ xs
unfolding items_in
items_in_by item len n b xs e = rw e refl

are_good : {A : Type 0} (item : List ℕ → Option A) (len n : ℕ) (b : List ℕ) (xs : List A) → len * n ≤ length b → items item len n b ≡ Some xs → AreGood item len n b
are_good item len n b xs h e = record { inside = h; good = rw e refl }

pub items_in_length : {A : Type 0} (item : List ℕ → Option A) (len n : ℕ) (b : List ℕ) → AreGood item len n b → length (items_in item len n b) ≡ n
items_in_length item len n b h = items_length item len n b (items_in item len n b) (items_in_is item len n b h)

pub items_in_none : {A : Type 0} (item : List ℕ → Option A) (len n : ℕ) (b : List ℕ) → n ≡ 0 → items_in item len n b ≡ []
unfolding items_in
items_in_none item len n b e = rw e refl

-- ---- positions of items

row_end : (len n i : ℕ) → i < n → len * i + len ≤ len * n
row_end len n i lt = subst (λ k. len * i + len ≤ len * k) (more lt) (wider len i (n - (i + 1)))
  where
    more : i < n → i + 1 + (n - (i + 1)) ≡ n
    more lt = omega arith

    wider : (len i k : ℕ) → len * i + len ≤ len * (i + 1 + k)
    wider len i zero = omega arith
    wider len i (suc k) = let h = wider len i k in let e : len * (i + 1 + suc k) ≡ len * (i + 1 + k) + len = omega arith in omega arith

-- the bytes of an item are inside, and it is valid
pub record IsRow {A : Type 0} (item : List ℕ → Option A) (len i : ℕ) (b : List ℕ) : Type 0 where
  pub start : len * i ≤ length b
  pub long : len ≤ length (drop (len * i) b)
  pub good : IsSome (item (drop (len * i) b))

some_at : {A : Type 0} (o : Option A) (xs : List A) (i : ℕ) → i < length xs → o ≡ slice_get xs i → IsSome o
some_at o (x ∷ xs) zero lt e = rw e refl
some_at o (x ∷ xs) (suc i) lt e = some_at o xs i (omega arith) e
some_at o [] i lt e = absurd (omega arith)

pub row : {A : Type 0} (item : List ℕ → Option A) (len n i : ℕ) (b : List ℕ) → AreGood item len n b → i < n → IsRow item len i b
row item len n i b h lt =
    let ends = row_end len n i lt in
    let inside = h.inside in
    let here : i < length (items_in item len n b) = rw (items_in_length item len n b h) lt in
    record {
      start = omega arith;
      long = omega (arith, length-drop (len * i) b);
      good = some_at (item (drop (len * i) b)) (items_in item len n b) i here (items_at item len n i b (items_in item len n b) (items_in_is item len n b h) lt);
    }

-- ---- one item

pub gets : {A : Type 0} (item : List ℕ → Option A) (len n i : ℕ) (b : List ℕ) (o : Option A) → AreGood item len n b → i < n → item (drop (len * i) b) ≡ o → o ≡ slice_get (items_in item len n b) i
gets item len n i b o h lt e = sym e ∙ items_at item len n i b (items_in item len n b) (items_in_is item len n b h) lt

pub gets_none : {A : Type 0} (item : List ℕ → Option A) (len n i : ℕ) (b : List ℕ) → AreGood item len n b → n ≤ i → None ≡ slice_get (items_in item len n b) i
gets_none item len n i b h le = sym (slice_get_past (items_in item len n b) i (rw (items_in_length item len n b h) le))

-- ---- the first

first_of : {A : Type 0} (item : List ℕ → Option A) (len m : ℕ) (b : List ℕ) (x : A) → AreGood item len (suc m) b → item b ≡ Some x
    → (items_in item len (suc m) b ≡ x ∷ items_in item len m (drop (len * 1) b)) × AreGood item len m (drop (len * 1) b)
first_of item len m b x h e =
    let one : len * 1 ≡ len = omega arith in
    let inside = h.inside in
    let wide : len * suc m ≡ len * m + len = omega arith in
    let f = items_first item len m b (items_in item len (suc m) b) (items_in_is item len (suc m) b h) in
    let head : f.first ≡ x = same_Some _ _ (sym f.reads ∙ e) in
    let rest = subst (λ at. items item len m (drop at b) ≡ Some f.others) (sym one) f.rest in
    let fits : len * m ≤ length (drop (len * 1) b) = omega (arith, length-drop (len * 1) b) in
    (f.all ∙ rw (head, items_in_by item len m (drop (len * 1) b) f.others rest) refl, are_good item len m (drop (len * 1) b) f.others fits rest)

pub took_first : {A : Type 0} (item : List ℕ → Option A) (len n : ℕ) (b : List ℕ) (x : A) → AreGood item len n b → 0 < n → item b ≡ Some x
    → (items_in item len n b ≡ x ∷ items_in item len (n - 1) (drop (len * 1) b)) × AreGood item len (n - 1) (drop (len * 1) b)
took_first item len n b x h lt e =
    let same : suc (n - 1) ≡ n = omega arith in
    let r = first_of item len (n - 1) b x (subst (λ k. AreGood item len k b) (sym same) h) e in
    (subst (λ k. items_in item len k b ≡ x ∷ items_in item len (n - 1) (drop (len * 1) b)) same r.0, r.1)

-- ---- the last

last_of : {A : Type 0} (item : List ℕ → Option A) (len m : ℕ) (b : List ℕ) (x : A) → AreGood item len (m + 1) b → item (drop (len * m) b) ≡ Some x
    → (items_in item len (m + 1) b ≡ items_in item len m b ++ x ∷ []) × AreGood item len m b
last_of item len m b x h e =
    let xs = items_in item len (m + 1) b in
    let inside = h.inside in
    let wide : len * (m + 1) ≡ len * m + len = omega arith in
    let s = items_split item len m 1 b xs (items_in_is item len (m + 1) b h) in
    let f = items_first item len 0 (drop (len * m) b) (drop m xs) s.back in
    let head : f.first ≡ x = same_Some _ _ (sym f.reads ∙ e) in
    let none : f.others ≡ [] = same_Some _ _ (sym f.rest) in
    let last : drop m xs ≡ x ∷ [] = f.all ∙ rw (head, none) refl in
    (sym (take-append-drop m xs) ∙ rw (last, items_in_by item len m b (take m xs) s.front) refl, are_good item len m b (take m xs) (omega arith) s.front)

pub took_last : {A : Type 0} (item : List ℕ → Option A) (len n : ℕ) (b : List ℕ) (x : A) → AreGood item len n b → 0 < n → item (drop (len * (n - 1)) b) ≡ Some x
    → (items_in item len n b ≡ items_in item len (n - 1) b ++ x ∷ []) × AreGood item len (n - 1) b
took_last item len n b x h lt e =
    let same : (n - 1) + 1 ≡ n = omega arith in
    let r = last_of item len (n - 1) b x (subst (λ k. AreGood item len k b) (sym same) h) e in
    (subst (λ k. items_in item len k b ≡ items_in item len (n - 1) b ++ x ∷ []) same r.0, r.1)

positive : (n : ℕ) → (n ≡ 0 → ⊥) → 0 < n
positive n some = omega arith

-- the bytes of item `i`, if the item length is right
pub placed : (b r : List ℕ) (k len i : ℕ) → r ≡ drop (k * i) b → k ≡ len → r ≡ drop (len * i) b
placed b r k len i e f = e ∙ ap (λ (l : ℕ). drop (l * i) b) f

pub row_good : {A : Type 0} (item : List ℕ → Option A) (len n : ℕ) (b : List ℕ) → AreGood item len n b → (i : ℕ) (r : List ℕ) → i < n → r ≡ drop (len * i) b → IsSome (item r)
row_good item len n b inv i r lt e = rw e (row item len n i b inv lt).good

-- the item at an index is read from its bytes
pub item_is : {A : Type 0} (item : List ℕ → Option A) (len n i : ℕ) (b r : List ℕ) (x : A) → AreGood item len n b → i < n → r ≡ drop (len * i) b → item r ≡ Some x → Some x ≡ slice_get (items_in item len n b) i
item_is item len n i b r x h lt e f = gets item len n i b (Some x) h lt (ap item (sym e) ∙ f)

reads : {A : Type 0} (item : List ℕ → Option A) (len n i : ℕ) (b : List ℕ) (x : A) → AreGood item len n b → i < n → Some x ≡ slice_get (items_in item len n b) i → item (drop (len * i) b) ≡ Some x
reads item len n i b x h lt e = items_at item len n i b (items_in item len n b) (items_in_is item len n b h) lt ∙ sym e

-- its bytes give the item
pub row_says : {A : Type 0} (item : List ℕ → Option A) (len n i : ℕ) (b r : List ℕ) → AreGood item len n b → i < n → r ≡ drop (len * i) b → item r ≡ slice_get (items_in item len n b) i
row_says item len n i b r h lt e = rw e (items_at item len n i b (items_in item len n b) (items_in_is item len n b h) lt)

pub row_some : {A : Type 0} (item : List ℕ → Option A) (len n i : ℕ) (b r : List ℕ) → AreGood item len n b → i < n → item r ≡ slice_get (items_in item len n b) i → IsSome (item r)
row_some item len n i b r h lt e = some_at (item r) (items_in item len n b) i (rw (items_in_length item len n b h) lt) e

-- there is none beyond the last
pub none_past : {A : Type 0} (item : List ℕ → Option A) (len n i : ℕ) (b : List ℕ) (s : List A) → items_in item len n b ≡ s → AreGood item len n b → n ≤ i → None ≡ slice_get s i
none_past {A = A} item len n i b s seen h le = gets_none item len n i b h le ∙ ap (λ (l : List A). slice_get l i) seen

-- ---- obligations of an iterator's calls, where `s` is what is left before the call

module _ {A : Type 0} (item : List ℕ → Option A) (len n : ℕ) (b : List ℕ) (s : List A) (seen : items_in item len n b ≡ s) (inv : AreGood item len n b) where
  pub count_is : n ≡ length s
  count_is = sym (items_in_length item len n b inv) ∙ ap length seen

  inside_count : (i : ℕ) → i < length s → i < n
  inside_count i lt = let many = count_is in omega arith

  pub row_starts : (k i : ℕ) → k ≡ len → i < length s → k * i ≤ length b
  row_starts k i e lt = rw e (row item len n i b inv (inside_count i lt)).start

  pub row_long : (k i : ℕ) (r : List ℕ) → k ≡ len → i < length s → r ≡ drop (k * i) b → len ≤ length r
  row_long k i r e lt f = rw (placed b r k len i f e) (row item len n i b inv (inside_count i lt)).long

  pub row_reads : (k i : ℕ) (r : List ℕ) → k ≡ len → i < length s → r ≡ drop (k * i) b → item r ≡ slice_get s i
  row_reads k i r e lt f = rw (placed b r k len i f e) (items_at item len n i b (items_in item len n b) (items_in_is item len n b inv) (inside_count i lt) ∙ ap (λ (l : List A). slice_get l i) seen)

  pub none_left : n ≡ 0 → (s ≡ []) × (s ≡ [])
  none_left e = let none = sym seen ∙ items_in_none item len n b e in (none, none)

  reads_first : (x : A) → (n ≡ 0 → ⊥) → Some x ≡ slice_get (items_in item len n b) 0 → item b ≡ Some x
  reads_first x some e = let none : len * 0 ≡ 0 = omega arith in let read = reads item len n 0 b x inv (positive n some) e in rw none at read

  pub next_steps : (rest : List ℕ) (x : A) → (n ≡ 0 → ⊥) → Some x ≡ slice_get (items_in item len n b) 0 → rest ≡ drop (len * 1) b → s ≡ x ∷ items_in item len (n - 1) rest
  next_steps rest x some e f = sym seen ∙ (took_first item len n b x inv (positive n some) (reads_first x some e)).0 ∙ ap (λ (r : List ℕ). x ∷ items_in item len (n - 1) r) (sym f)

  pub next_keeps : (rest : List ℕ) (x : A) → (n ≡ 0 → ⊥) → Some x ≡ slice_get (items_in item len n b) 0 → rest ≡ drop (len * 1) b → AreGood item len (n - 1) rest
  next_keeps rest x some e f = rw f (took_first item len n b x inv (positive n some) (reads_first x some e)).1

  pub back_steps : (x : A) → (n ≡ 0 → ⊥) → Some x ≡ slice_get (items_in item len n b) (n - 1) → s ≡ items_in item len (n - 1) b ++ x ∷ []
  back_steps x some e = sym seen ∙ (took_last item len n b x inv (positive n some) (reads item len n (n - 1) b x inv (omega arith) e)).0

  pub back_keeps : (x : A) → (n ≡ 0 → ⊥) → Some x ≡ slice_get (items_in item len n b) (n - 1) → AreGood item len (n - 1) b
  back_keeps x some e = (took_last item len n b x inv (positive n some) (reads item len n (n - 1) b x inv (omega arith) e)).1

-- ---- a call makes progress

pub goes_front : {A B : Type 0} (view : B → A) (can : List A → Type 0) → ((l : List A) → can l) → (s t : List A) (x : B) → s ≡ view x ∷ t → MakesProgress can (item_count (λ rest. rest)) s (Some x) t
goes_front view can always s t x e = record { on = λ _. (always t, tt, subst (λ l. length t < length l) (sym e) (omega arith)); keeps = always t; rests = λ _. tt }

pub goes_back : {A B : Type 0} (view : B → A) (can : List A → Type 0) → ((l : List A) → can l) → (s t : List A) (x : B) → s ≡ t ++ view x ∷ [] → MakesProgress can (item_count (λ rest. rest)) s (Some x) t
goes_back view can always s t x e = record { on = λ _. (always t, tt, subst (λ l. length t < length l) (sym e) (omega (arith, length-append t (view x ∷ [])))); keeps = always t; rests = λ _. tt }

-- ---- arguments

arguments_good : (n : ℕ) (b : List ℕ) → IsSome (items argument_of 2 n b)
arguments_good zero b = refl
arguments_good (suc n) b = more (items argument_of 2 n (drop 2 b)) (arguments_good n (drop 2 b))
  where
    more : (o : Option (List ℕ)) → IsSome o → IsSome (o >>= (λ others. Some (u16_at b 0 ∷ others)))
    more None h = absurd cc
    more (Some xs) h = refl

-- any bytes are valid arguments
pub arguments_are_good : (n : ℕ) (b : List ℕ) → 2 * n ≤ length b → AreGood argument_of 2 n b
arguments_are_good n b h = record { inside = h; good = arguments_good n b }
