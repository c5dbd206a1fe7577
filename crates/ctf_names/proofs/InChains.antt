-- Types in chains, one more at a time, and look-ups in them.
use Rattle.std.proofs.Common.{◌≡◌, ℕ, ◌+◌, ◌==◌, ◌<◌, ◌≤◌, ltb, Bool, true, false, List, length, set, get_or, replicate, Option, Some, None, refl, sym, ap, ◌∙◌, arith}
use Rattle.std.specs.Prelude.{◌&&◌, slice_get, MatchOption}
use Rattle.std.specs.Option.{option_map}
use Rattle.std.specs.Str.{bytes_eq}
use Rattle.std.proofs.lemmas.Bool.{eqb-true, ltb-true, ltb-false}
use Rattle.std.proofs.lemmas.Bool.Decides.{Decides-eqb}
use Rattle.std.proofs.lemmas.List.{get_or_default, get_or-set_other, get_or-set_same, length-replicate, length-set}
use Rattle.std.proofs.lemmas.Option.{same_Some, slice_get_within}
use Rattle.std.proofs.lemmas.Slice.Eq.{bytes_eq-Decides}
use Rattle.ctf_model.specs.names.Lookups.{first_place, is_called, same_tag, tag_of, Written}
use Rattle.ctf_model.specs.format.Shown.{Shape, shape}
use Rattle.ctf_model.specs.format.Term.{Tag, Term}
use Rattle.ctf_sections.specs.ShortNames.{if_short, is_named}
use Rattle.ctf_order.proofs.Search.{both}
use Rattle.ctf_names.specs.Briefs.{is_target, IsBrief, IsBriefAt}
use Rattle.ctf_names.specs.Buckets.{bucket, bucket_of_short, is_in, longest_hashed}
use Rattle.ctf_names.specs.Chained.{Chained}
use Rattle.ctf_names.specs.Leading.{Leads}
use Rattle.ctf_names.specs.declared.types.Brief.{Brief}
use Rattle.ctf_names.specs.Sorts.{tag_shown}
use Rattle.ctf_names.proofs.Briefed.{tag_said}
use Rattle.ctf_names.proofs.Led.{all_end, all_kept, all_put, past}
use Rattle.ctf_names.proofs.Places.{first_passes, none_passes}

-- ---- one more type

-- a visible type is only in its own bucket
falls_into : (n : ℕ) (x : Term) (b : Brief) (k : ℕ) → IsBrief n x b → x.root ≡ true → bucket n x.name ≡ k → is_target k b.bucket ≡ true
falls_into n x b k says root is = sym (says.falls k) ∙ rw (root, (Decides-eqb (bucket n x.name) k).1 is) refl

pub without : (terms : List Term) (heads next : List ℕ) (p : ℕ) (b : Brief) → IsBriefAt terms p b → b.bucket ≡ None → Chained terms (p + 1) heads next → Chained terms p heads next
without terms heads next p b at none chained = by_term (slice_get terms p) refl at
  where
    by_term : (o : Option Term) → slice_get terms p ≡ o → MatchOption o ⊥ (λ x. IsBrief (length terms) x b) → Chained terms p heads next
    by_term None here says = absurd says
    by_term (Some x) here says = record {
      heads = all_kept (is_in (length terms)) terms heads p x chained.heads here (λ k lt. says.falls k ∙ ap (is_target k) none);
      next = λ q y from is root. by_place q y from is root (ltb p q) refl;
      head_count = chained.head_count;
      next_count = chained.next_count;
    }
      where
        by_place : (q : ℕ) (y : Term) → p ≤ q → slice_get terms q ≡ Some y → y.root ≡ true → (u : Bool) → ltb p q ≡ u → Leads (is_in (length terms) (bucket (length terms) y.name)) terms (q + 1) (get_or next q 0)
        by_place q y from is root true e = chained.next q y (omega (arith, ltb-true p q e)) is root
        by_place q y from is root false e = absurd (
            let same : p ≡ q = omega (arith, from, ltb-false p q e) in
            let one : x ≡ y = same_Some x y (sym here ∙ ap (slice_get terms) same ∙ is) in
            let k = bucket (length terms) x.name in
            let shown : x.root ≡ true = ap (λ (z : Term). z.root) one ∙ root in
            let fits : is_target k b.bucket ≡ true = falls_into (length terms) x b k says shown refl in
            let fails : is_target k b.bucket ≡ false = ap (is_target k) none in
            let bad : true ≡ false = sym fits ∙ fails in
            cc)

pub entered : (terms : List Term) (heads next : List ℕ) (p n : ℕ) (b : Brief) → IsBriefAt terms p b → b.bucket ≡ Some n → n < length heads → p < length next → Chained terms (p + 1) heads next → Chained terms p (set heads n p) (set next p (get_or heads n 0))
entered terms heads next p n b at some inside short chained = by_term (slice_get terms p) refl at
  where
    by_term : (o : Option Term) → slice_get terms p ≡ o → MatchOption o ⊥ (λ x. IsBrief (length terms) x b) → Chained terms p (set heads n p) (set next p (get_or heads n 0))
    by_term None here says = absurd says
    by_term (Some x) here says = record {
      heads = all_put (is_in (length terms)) terms heads p n x chained.heads here inside (λ k. says.falls k ∙ ap (is_target k) some);
      next = λ q y from is root. by_place q y from is root (ltb p q) refl;
      head_count = length-set heads n p ∙ chained.head_count;
      next_count = length-set next p (get_or heads n 0) ∙ chained.next_count;
    }
      where
        by_place : (q : ℕ) (y : Term) → p ≤ q → slice_get terms q ≡ Some y → y.root ≡ true → (u : Bool) → ltb p q ≡ u → Leads (is_in (length terms) (bucket (length terms) y.name)) terms (q + 1) (get_or (set next p (get_or heads n 0)) q 0)
        by_place q y from is root true e =
            let less = ltb-true p q e in
            let other : q ≡ p → ⊥ = λ same. absurd (omega (arith, less, same)) in
            rw (get_or-set_other next p q (get_or heads n 0) 0 other) (chained.next q y (omega (arith, less)) is root)
        by_place q y from is root false e =
            let same : p ≡ q = omega (arith, from, ltb-false p q e) in
            let one : x ≡ y = same_Some x y (sym here ∙ ap (slice_get terms) same ∙ is) in
            let k = bucket (length terms) y.name in
            let shown : x.root ≡ true = ap (λ (z : Term). z.root) one ∙ root in
            let fits : is_target k b.bucket ≡ true = falls_into (length terms) x b k says shown (ap (λ (z : Term). bucket (length terms) z.name) one) in
            let test : (n == k) ≡ true = sym (ap (is_target k) some) ∙ fits in
            let into : n ≡ k = eqb-true n k test in
            let led : Leads (is_in (length terms) n) terms (p + 1) (get_or heads n 0) = chained.heads.each n inside in
            let read : get_or (set next p (get_or heads n 0)) q 0 ≡ get_or heads n 0 = ap (λ j. get_or (set next p (get_or heads n 0)) j 0) (sym same) ∙ get_or-set_same next p (get_or heads n 0) 0 short in
            rw (read, ← into, ← same) led

-- ---- look-ups

-- the types passed so far have another name, and the next one is in the bucket
pub record Reached (terms : List Term) (w : Written) (at : ℕ) : Type 0 where
  pub before : (i : ℕ) (x : Term) → i < at → slice_get terms i ≡ Some x → is_called w x ≡ false
  pub there : (x : Term) → slice_get terms at ≡ Some x → is_in (length terms) (bucket (length terms) w.name) x ≡ true

in_bucket : (n : ℕ) (w : Written) (x : Term) → is_called w x ≡ true → is_in n (bucket n w.name) x ≡ true
in_bucket n w x fits =
    let parts = both (x.root && same_tag (tag_of x.body) w.tag) (bytes_eq x.name w.name) fits in
    let shown = both x.root (same_tag (tag_of x.body) w.tag) parts.0 in
    let named : x.name ≡ w.name = (bytes_eq-Decides x.name w.name).0 parts.1 in
    rw (shown.0, (Decides-eqb (bucket n x.name) (bucket n w.name)).1 (ap (bucket n) named)) refl

not_called : (n k : ℕ) (w : Written) (x : Term) → k ≡ bucket n w.name → is_in n k x ≡ false → is_called w x ≡ false
not_called n k w x is fails = by_case (is_called w x) refl
  where
    by_case : (u : Bool) → is_called w x ≡ u → u ≡ false
    by_case false e = refl
    by_case true e = absurd (
        let fits : is_in n k x ≡ true = ap (λ j. is_in n j x) is ∙ in_bucket n w x e in
        let bad : true ≡ false = sym fits ∙ fails in
        cc)

pub begun : (terms : List Term) (heads next : List ℕ) (w : Written) (at : ℕ) → Chained terms 0 heads next → bucket (length terms) w.name < length heads → at ≡ get_or heads (bucket (length terms) w.name) 0 → Reached terms w at
begun terms heads next w at chained inside is =
    let k = bucket (length terms) w.name in
    let led : Leads (is_in (length terms) k) terms 0 at = rw is (chained.heads.each k inside) in
    record {
      before = λ i x lt here. not_called (length terms) k w x refl (led.skipped i x (omega arith) lt here);
      there = led.there;
    }

-- the next one is visible, and in the bucket
visible : (terms : List Term) (w : Written) (at : ℕ) (x : Term) → Reached terms w at → slice_get terms at ≡ Some x → (x.root ≡ true) × (bucket (length terms) x.name ≡ bucket (length terms) w.name)
visible terms w at x reached here =
    let parts = both x.root (bucket (length terms) x.name == bucket (length terms) w.name) (reached.there x here) in
    (parts.0, eqb-true (bucket (length terms) x.name) (bucket (length terms) w.name) parts.1)

further : (terms : List Term) (heads next : List ℕ) (w : Written) (at : ℕ) (x : Term) → Chained terms 0 heads next → Reached terms w at → slice_get terms at ≡ Some x → is_called w x ≡ false → Reached terms w (get_or next at 0)
further terms heads next w at x chained reached here fails = record {
  before = λ i y lt is. by_place i y lt is (ltb i at) (ltb at i) refl refl;
  there = λ y is. ap (λ k. is_in (length terms) k y) (sym into) ∙ led.there y is;
}
  where
    shown : x.root ≡ true
    shown = (visible terms w at x reached here).0

    into : bucket (length terms) x.name ≡ bucket (length terms) w.name
    into = (visible terms w at x reached here).1

    led : Leads (is_in (length terms) (bucket (length terms) x.name)) terms (at + 1) (get_or next at 0)
    led = chained.next at x (omega arith) here shown

    by_place : (i : ℕ) (y : Term) → i < get_or next at 0 → slice_get terms i ≡ Some y → (u v : Bool) → ltb i at ≡ u → ltb at i ≡ v → is_called w y ≡ false
    by_place i y lt is true v e f = reached.before i y (ltb-true i at e) is
    by_place i y lt is false true e f = not_called (length terms) (bucket (length terms) x.name) w y into (led.skipped i y (omega (arith, ltb-true at i f)) lt is)
    by_place i y lt is false false e f =
        let same : at ≡ i = omega (arith, ltb-false i at e, ltb-false at i f) in
        let one : x ≡ y = same_Some x y (sym here ∙ ap (slice_get terms) same ∙ is) in
        rw (← one) fails

pub record Gone (terms : List Term) (w : Written) (at to : ℕ) : Type 0 where
  pub reached : Reached terms w to
  pub onward : at < to

-- the next one has another name
pub missed : (terms : List Term) (heads next : List ℕ) (w : Written) (at : ℕ) (o : Option Term) (r : Bool) → Chained terms 0 heads next → Reached terms w at → o ≡ slice_get terms at → MatchOption o ⊥ (λ x. x.root ≡ true → r ≡ is_called w x) → r ≡ false → Gone terms w at (get_or next at 0)
missed terms heads next w at None r chained reached same says fails = absurd says
missed terms heads next w at (Some x) r chained reached same says fails = record {
  reached = further terms heads next w at x chained reached (sym same) (sym (says shown) ∙ fails);
  onward = let led = chained.next at x (omega arith) (sym same) shown in omega (arith, led.onward);
}
  where
    shown : x.root ≡ true
    shown = (visible terms w at x reached (sym same)).0

-- the next one has the name
pub hit : (terms : List Term) (w : Written) (at : ℕ) (o : Option Term) (r : Bool) → Reached terms w at → o ≡ slice_get terms at → MatchOption o ⊥ (λ x. x.root ≡ true → r ≡ is_called w x) → r ≡ true → Some at ≡ first_place (is_called w) terms
hit terms w at None r reached same says fits = absurd says
hit terms w at (Some x) r reached same says fits =
    let shown = (visible terms w at x reached (sym same)).0 in
    sym (first_passes (is_called w) terms at x (sym same) (sym (says shown) ∙ fits) (λ i y lt is. reached.before i y lt is))

-- none is left
pub ended : (terms : List Term) (w : Written) (at : ℕ) → Reached terms w at → length terms ≤ at → None ≡ first_place (is_called w) terms
ended terms w at reached le = sym (none_passes (is_called w) terms (λ i x is. reached.before i x (let inside = slice_get_within terms i x is in omega (arith, inside, le)) is))

pub none_left : (terms : List Term) (w : Written) (at : ℕ) → Reached terms w at → None ≡ slice_get terms at → None ≡ first_place (is_called w) terms
none_left terms w at reached none = ended terms w at reached (past terms at (sym none))

-- ---- whether a type has the name

bytes_swapped : (a b : List ℕ) → bytes_eq a b ≡ bytes_eq b a
bytes_swapped a b = by_case (bytes_eq a b) (bytes_eq b a) refl refl
  where
    by_case : (u v : Bool) → bytes_eq a b ≡ u → bytes_eq b a ≡ v → u ≡ v
    by_case true true e f = refl
    by_case false false e f = refl
    by_case true false e f = absurd (let fits : bytes_eq b a ≡ true = (bytes_eq-Decides b a).1 (sym ((bytes_eq-Decides a b).0 e)) in let bad : true ≡ false = sym fits ∙ f in cc)
    by_case false true e f = absurd (let fits : bytes_eq a b ≡ true = (bytes_eq-Decides a b).1 (sym ((bytes_eq-Decides b a).0 f)) in let bad : true ≡ false = sym fits ∙ e in cc)

pub other_word : (o : Option Term) (s : Shape) (tag : Option Tag) (w : Written) → option_map (λ x. shape x.body) o ≡ Some s → tag ≡ tag_shown s → same_tag tag w.tag ≡ false → MatchOption o ⊥ (λ x. x.root ≡ true → false ≡ is_called w x)
other_word None s tag w shown is fails = absurd cc
other_word (Some x) s tag w shown is fails =
    let shape_is : shape x.body ≡ s = cc in
    let of_tag : tag_of x.body ≡ tag = sym (tag_said x.body) ∙ ap tag_shown shape_is ∙ sym is in
    λ root. rw (root, of_tag, fails) refl

pub same_word : (o : Option Term) (s : Shape) (tag : Option Tag) (w : Written) (called : Option (List ℕ)) (r : Bool) → option_map (λ x. shape x.body) o ≡ Some s → tag ≡ tag_shown s → same_tag tag w.tag ≡ true → option_map (λ x. Some x.name) o ≡ Some called → r ≡ is_named w.name called → MatchOption o ⊥ (λ x. x.root ≡ true → r ≡ is_called w x)
same_word None s tag w called r shown is fits names says = absurd cc
same_word (Some x) s tag w called r shown is fits names says =
    let shape_is : shape x.body ≡ s = cc in
    let of_tag : tag_of x.body ≡ tag = sym (tag_said x.body) ∙ ap tag_shown shape_is ∙ sym is in
    let has_name : called ≡ Some x.name = cc in
    let told : r ≡ bytes_eq x.name w.name = says ∙ ap (is_named w.name) has_name ∙ bytes_swapped w.name x.name in
    λ root. rw (root, of_tag, fits) told

-- ---- as built and as read

pub none_chained : (terms : List Term) (heads next : List ℕ) (n m : ℕ) → heads ≡ replicate n 65535 → next ≡ replicate m 65535 → n ≡ length terms + 2 → m ≡ length terms → length terms ≤ 32766 → Chained terms (length terms) heads next
none_chained terms heads next n m heads_are next_are count many few = rw (heads_are, next_are) (record {
  heads = all_end (is_in (length terms)) terms n 65535 (omega (arith, few));
  next = λ p x from is root. absurd (let inside = slice_get_within terms p x is in omega (arith, from, inside));
  head_count = length-replicate n 65535 ∙ count;
  next_count = length-replicate m 65535 ∙ many;
})

pub begun_at : (terms : List Term) (heads next : List ℕ) (w : Written) (at b : ℕ) (short : Option (List ℕ)) → Chained terms 0 heads next → short ≡ if_short longest_hashed (Some w.name) → b ≡ bucket_of_short (length terms) short → b < length terms + 2 → at ≡ get_or heads b at → Reached terms w at
begun_at terms heads next w at b short chained shown is lt read =
    let k = bucket (length terms) w.name in
    let same : b ≡ bucket (length terms) w.name = is ∙ ap (bucket_of_short (length terms)) shown in
    let count = chained.head_count in
    let short_of : b < length heads = omega (arith, lt, count) in
    let inside : bucket (length terms) w.name < length heads = omega (arith, short_of, same) in
    begun terms heads next w at chained inside (read ∙ get_or_default heads b at 0 short_of ∙ ap (λ j. get_or heads j 0) same)
