-- Chains of steps through a dictionary and its parent visit few types of each.
use Rattle.std.proofs.Common.{◌≡◌, ◌⊎◌, inl, inr, ⊎_elim, ℕ, zero, suc, ◌+◌, ◌-◌, ◌≤◌, ◌<◌, Bool, true, false, cond, eqb, ltb, List, [], ◌∷◌, length, Option, Some, None, Ok, refl, sym, ap, subst, ◌∙◌, arith}
use Rattle.std.specs.Prelude.{Any, MatchOption, slice_get}
use Rattle.std.specs.List.{AllByRecursion, count_by, filter_map}
use Rattle.std.proofs.lemmas.Bool.{lt-ltb, ltb-true}
use Rattle.std.proofs.lemmas.List.Sums.{sum_by-cons}
use Rattle.ctf_model.specs.rules.ChainLaws.{ChainsAreShort, HasShortChains, HasShortChainsIn, IsChain, IsShortParent, is_own, is_parents}
use Rattle.ctf_model.specs.rules.Chains.{IsWithin, edges, longest_chain, own_index}
use Rattle.ctf_model.specs.format.Dictionary.{Dictionary}
use Rattle.ctf_model.specs.spaces.Space.{Space, space_type}
use Rattle.ctf_model.specs.format.Term.{Term, Body}
use Rattle.ctf_model.specs.spaces.TypeNumbers.{or_no_type, type_in}
use Rattle.ctf_model.specs.spaces.TypePlaces.{place}
use Rattle.ctf_model.specs.declared.numbers.Place.{Place}
use Rattle.ctf_model.specs.declared.numbers.Place.TheVariants.{Nowhere, Own, Parents}
use Rattle.ctf_model.proofs.Alls.{all_got}
use Rattle.ctf_model.proofs.Anywhere.{any_none, any_split}
use Rattle.ctf_model.proofs.ChainSteps.{targets_of}
use Rattle.ctf_model.proofs.OwnTypes.{each_own, not_zero, own_inside, own_positive}
use Rattle.ctf_model.proofs.Settled.{Ends, Stands, all_map, stands_inside}

-- ---- the type of a number

-- a type of the parent
pub record StandsAbove (s : Space) (n : ℕ) (z : Term) : Type 0 where
  pub parent : Dictionary
  pub is : s.parent ≡ Some parent
  pub child : s.own.child ≡ true
  pub low : n < 0x8000
  pub index : ℕ
  pub stands : Stands parent n index z

pub low_in_child : (n : ℕ) → 0 < n → n < 0x8000 → place true n ≡ Parents (n - 1)
low_in_child n some low = let positive = not_zero n some in let test = lt-ltb n 0x8000 low in rw (positive, test) refl

pub low_in_parent : (n : ℕ) → 0 < n → place false n ≡ Own (n - 1)
low_in_parent n some = let positive = not_zero n some in rw positive refl

-- a parent's type, looked up by its number in a child
pub found_low : (own parent : Dictionary) → parent.child ≡ false → (n : ℕ) (z : Term) → n < 0x8000 → type_in own (Some parent) (place true n) ≡ Ok z → Stands parent n (n - 1) z
found_low own parent plain zero z low e = absurd cc
found_low own parent plain (suc m) z low e =
    let here = low_in_child (suc m) (omega arith) low in
    let found : or_no_type (slice_get parent.terms (suc m - 1)) ≡ Ok z = rw here at e in
    at (slice_get parent.terms (suc m - 1)) refl found
  where
    at : (o : Option Term) → slice_get parent.terms (suc m - 1) ≡ o → or_no_type o ≡ Ok z → Stands parent (suc m) (suc m - 1) z
    at None is e = absurd cc
    at (Some y) is e = let same : y ≡ z = cc in record { there = rw plain (low_in_parent (suc m) (omega arith)); got = is ∙ ap (λ (x : Term). Some x) same }

-- only a child has numbers of a parent, and these are below 0x8000
pub parents_number : (child : Bool) (n i : ℕ) → place child n ≡ Parents i → (child ≡ true) × (n < 0x8000)
parents_number child n i e = at child (eqb n 0) (ltb n 0x8000) (eqb n 0x8000) refl e
  where
    at : (child none low between : Bool) → ltb n 0x8000 ≡ low → cond none Nowhere (cond child (cond low (Parents (n - 1)) (cond between Nowhere (Own (n - 0x8001)))) (Own (n - 1))) ≡ Parents i → (child ≡ true) × (n < 0x8000)
    at child true low between is e = absurd cc
    at false false low between is e = absurd cc
    at true false true between is e = (refl, ltb-true n 0x8000 is)
    at true false false true is e = absurd cc
    at true false false false is e = absurd cc

pub stands_where : (s : Space) → ((parent : Dictionary) → s.parent ≡ Some parent → parent.child ≡ false) → (n : ℕ) (z : Term) → space_type s n ≡ Ok z → ((i : ℕ) × Stands s.own n i z) ⊎ StandsAbove s n z
stands_where s plain n z e = at (place s.own.child n) refl e
  where
    Goal : Type 0
    Goal = ((i : ℕ) × Stands s.own n i z) ⊎ StandsAbove s n z

    own_type : (i : ℕ) → place s.own.child n ≡ Own i → (o : Option Term) → slice_get s.own.terms i ≡ o → or_no_type o ≡ Ok z → Goal
    own_type i there None got r = absurd cc
    own_type i there (Some v) got r = let same : v ≡ z = cc in inl (i, record { there = there; got = got ∙ ap (λ (w : Term). Some w) same })

    of_parent : (i : ℕ) → place s.own.child n ≡ Parents i → (o : Option Dictionary) → s.parent ≡ o → type_in s.own o (Parents i) ≡ Ok z → Goal
    of_parent i there None is r = absurd cc
    of_parent i there (Some parent) is r =
        let number = parents_number s.own.child n i there in
        let named : type_in s.own (Some parent) (place true n) ≡ Ok z = subst (λ (b : Bool). type_in s.own (Some parent) (place b n) ≡ Ok z) number.0 (rw there r) in
        inr (record { parent = parent; is = is; child = number.0; low = number.1; index = n - 1; stands = found_low s.own parent (plain parent is) n z number.1 named })

    at : (q : Place) → place s.own.child n ≡ q → type_in s.own s.parent q ≡ Ok z → Goal
    at Nowhere there r = absurd cc
    at (Own i) there r = own_type i there (slice_get s.own.terms i) refl r
    at (Parents i) there r = of_parent i there s.parent refl r

-- ---- where chains end

-- fewer than `k` own types follow one another from type `n` on, `n` included
abbrev pub EndsBy : (Body → List ℕ) → Dictionary → ℕ → ℕ → Type 0
EndsBy steps d k n = MatchOption (own_index d.child (length d.terms) n) (Unit {0}) (Ends (edges steps d.child d.terms) k)

led_to : (steps : Body → List ℕ) (d : Dictionary) (k i : ℕ) (z : Term) → slice_get d.terms i ≡ Some z → IsWithin (edges steps d.child d.terms) k i → AllByRecursion (EndsBy steps d k) (steps z.body)
unfolding IsWithin
led_to steps d zero i z got w =
    let P : ℕ → Type 0 = λ j. ⊥ in
    let none : [] ≡ filter_map (own_index d.child (length d.terms)) (steps z.body) = sym w ∙ targets_of steps d.child d.terms i z got in
    each_own P (own_index d.child (length d.terms)) (steps z.body) (subst (AllByRecursion P) none tt) (EndsBy steps d zero) (λ t h. h)
led_to steps d (suc k) i z got w =
    each_own (IsWithin (edges steps d.child d.terms) k) (own_index d.child (length d.terms)) (steps z.body) (subst (AllByRecursion (IsWithin (edges steps d.child d.terms) k)) (targets_of steps d.child d.terms i z got) w) (EndsBy steps d (suc k)) (λ t h. h)

-- from the types that it leads to, one fewer follow
pub record Fewer (P : ℕ → ℕ → Type 0) (k : ℕ) (ts : List ℕ) : Type 0 where
  pub left : ℕ
  pub less : k ≡ suc left
  pub next : AllByRecursion (P left) ts

pub one_fewer : (steps : Body → List ℕ) (d : Dictionary) (k n i : ℕ) (z : Term) → Stands d n i z → EndsBy steps d k n → Fewer (EndsBy steps d) k (steps z.body)
one_fewer steps d zero n i z stands ends = let inside = stands_inside d n i z stands in absurd (rw inside at ends)
one_fewer steps d (suc k) n i z stands ends =
    let inside = stands_inside d n i z stands in
    let w : IsWithin (edges steps d.child d.terms) k i = rw inside at ends in
    record { left = k; less = refl; next = led_to steps d k i z stands.got w }

-- the same for a parent's low numbers
record EndsLow (steps : Body → List ℕ) (d : Dictionary) (k n : ℕ) : Type 0 where
  pub low : n < 0x8000
  pub short : EndsBy steps d k n

both_low : (steps : Body → List ℕ) (d : Dictionary) (k : ℕ) (ts : List ℕ) → AllByRecursion (λ t. t < 0x8000) ts → AllByRecursion (EndsBy steps d k) ts → AllByRecursion (EndsLow steps d k) ts
both_low steps d k [] a b = tt
both_low steps d k (t ∷ ts) a b = (record { low = a.0; short = b.0 }, both_low steps d k ts a.1 b.1)

one_fewer_low : (steps : Body → List ℕ) (parent : Dictionary) → IsShortParent steps parent → (k n i : ℕ) (z : Term) → Stands parent n i z → EndsBy steps parent k n → Fewer (EndsLow steps parent) k (steps z.body)
one_fewer_low steps parent short k n i z stands ends =
    let f = one_fewer steps parent k n i z stands ends in
    let low = all_got (λ (x : Term). AllByRecursion (λ t. t < 0x8000) (steps x.body)) parent.terms i z short.low stands.got in
    record { left = f.left; less = f.less; next = both_low steps parent f.left (steps z.body) low f.next }

-- if no chain has more than `k` steps, the count holds for every number
ends_within : (steps : Body → List ℕ) (d : Dictionary) (k : ℕ) → ((i : ℕ) → i < length d.terms → IsWithin (edges steps d.child d.terms) k i) → (n : ℕ) → EndsBy steps d (suc k) n
ends_within steps d k each n = at (own_index d.child (length d.terms) n) refl
  where
    at : (o : Option ℕ) → own_index d.child (length d.terms) n ≡ o → EndsBy steps d (suc k) n
    at None is = rw is tt
    at (Some j) is = let inside = own_inside d.child (length d.terms) n j is in rw is (each j inside.1)

pub ends_short : (steps : Body → List ℕ) (d : Dictionary) → HasShortChains steps d → (n : ℕ) → EndsBy steps d (longest_chain + 1) n
ends_short steps d short n = ends_within steps d longest_chain short.each n

plain_parent : (steps : Body → List ℕ) (s : Space) → HasShortChainsIn steps s → (parent : Dictionary) → s.parent ≡ Some parent → parent.child ≡ false
plain_parent steps s short parent is = (short.parent parent is).plain

-- ---- descent: a property that passes from a type's targets to the type holds of all numbers

-- the property holds of a number if it holds, for one type fewer, of all that the type leads to
abbrev pub PassesOn : (Body → List ℕ) → Space → (ℕ → ℕ → Type 0) → Type 0
PassesOn steps s P = (x n : ℕ) → ((z : Term) → space_type s n ≡ Ok z → AllByRecursion (P x) (steps z.body)) → P (suc x) n

descend_low : (steps : Body → List ℕ) (s : Space) (parent : Dictionary) → s.parent ≡ Some parent → s.own.child ≡ true → IsShortParent steps parent → (P : ℕ → ℕ → Type 0) → PassesOn steps s P
    → (x k n : ℕ) → EndsLow steps parent k n → k < x → P x n
descend_low steps s parent is child short P on zero k n ends lt = absurd (omega arith)
descend_low steps s parent is child short P on (suc x) k n ends lt =
    on x n
    (λ z e.
    let stands = found_low s.own parent short.plain n z ends.low (rw (is, child) at e) in
    let f = one_fewer_low steps parent short k n (n - 1) z stands ends.short in
    let less = f.less in
    all_map (EndsLow steps parent f.left) (P x) (λ t h. descend_low steps s parent is child short P on x f.left t h (omega (arith, less))) (steps z.body) f.next)

descend_own : (steps : Body → List ℕ) (s : Space) → HasShortChainsIn steps s → (P : ℕ → ℕ → Type 0) → PassesOn steps s P
    → (x k n : ℕ) → EndsBy steps s.own k n → k + 513 < x → P x n
descend_own steps s short P on zero k n ends lt = absurd (omega arith)
descend_own steps s short P on (suc x) k n ends lt =
    on x n
    (λ z e. ⊎_elim
    (λ own.
    let f = one_fewer steps s.own k n own.0 z own.1 ends in
    let less = f.less in
    all_map (EndsBy steps s.own f.left) (P x) (λ t h. descend_own steps s short P on x f.left t h (omega (arith, less))) (steps z.body) f.next)
    (λ above.
    let closed = short.parent above.parent above.is in
    let f = one_fewer_low steps above.parent closed 513 n above.index z above.stands (ends_short steps above.parent closed.short n) in
    let less = f.less in
    all_map (EndsLow steps above.parent f.left) (P x) (λ t h. descend_low steps s above.parent above.is above.child closed P on x f.left t h (omega (arith, less))) (steps z.body) f.next)
    (stands_where s (plain_parent steps s short) n z e))

-- the descent takes at most 513 own types, as many of the parent's, and a last number
pub descend : (steps : Body → List ℕ) (s : Space) → HasShortChainsIn steps s → (P : ℕ → ℕ → Type 0) → PassesOn steps s P → (x n : ℕ) → 1026 < x → P x n
descend steps s short P on x n lt = descend_own steps s short P on x 513 n (ends_short steps s.own short.own n) (omega arith)

-- ---- the number of types in a chain

-- a fact of all targets holds of the next number of the chain
one_of : (P : ℕ → Type 0) (ts : List ℕ) (n : ℕ) → AllByRecursion P ts → Any (λ t. t ≡ n) ts → P n
one_of P [] n all a = absurd (any_none _ a)
one_of P (t ∷ ts) n all a = ⊎_elim (λ same. subst P same all.0) (λ later. one_of P ts n all.1 later) (any_split (λ m. m ≡ n) t ts a)

abbrev own_count : Space → List ℕ → ℕ
own_count s ns = count_by (λ n. is_own (place s.own.child n)) ns

abbrev parents_count : Space → List ℕ → ℕ
parents_count s ns = count_by (λ n. is_parents (place s.own.child n)) ns

-- counting one more number
count_one : (test : ℕ → Bool) (n : ℕ) (ns : List ℕ) (b : Bool) → test n ≡ b → count_by test (n ∷ ns) ≡ cond b 1 0 + count_by test ns
count_one test n ns b e = sum_by-cons (λ m. cond (test m) 1 0) n ns ∙ ap (λ (c : Bool). cond c 1 0 + count_by test ns) e

own_here : (s : Space) (n i : ℕ) (ns : List ℕ) → place s.own.child n ≡ Own i → (own_count s (n ∷ ns) ≡ 1 + own_count s ns) × (parents_count s (n ∷ ns) ≡ 0 + parents_count s ns)
own_here s n i ns is = (count_one (λ m. is_own (place s.own.child m)) n ns true (ap is_own is), count_one (λ m. is_parents (place s.own.child m)) n ns false (ap is_parents is))

parents_here : (s : Space) (n i : ℕ) (ns : List ℕ) → place s.own.child n ≡ Parents i → (own_count s (n ∷ ns) ≡ 0 + own_count s ns) × (parents_count s (n ∷ ns) ≡ 1 + parents_count s ns)
parents_here s n i ns is = (count_one (λ m. is_own (place s.own.child m)) n ns false (ap is_own is), count_one (λ m. is_parents (place s.own.child m)) n ns true (ap is_parents is))

low_above : (s : Space) (parent : Dictionary) → s.own.child ≡ true → (n i : ℕ) (z : Term) → n < 0x8000 → Stands parent n i z → place s.own.child n ≡ Parents (n - 1)
low_above s parent child n i z low stands = rw child (low_in_child n (own_positive parent.child n i stands.there) low)

few_low : (steps : Body → List ℕ) (s : Space) (parent : Dictionary) → s.parent ≡ Some parent → s.own.child ≡ true → IsShortParent steps parent → (k n : ℕ) (ns : List ℕ) → EndsLow steps parent k n → IsChain steps s (n ∷ ns)
    → (own_count s (n ∷ ns) ≡ 0) × (parents_count s (n ∷ ns) ≤ k)
unfolding IsChain
few_low steps s parent is child short k n [] ends chain =
    let stands = found_low s.own parent short.plain n chain.0 ends.low (rw (is, child) at chain.1) in
    let f = one_fewer_low steps parent short k n (n - 1) chain.0 stands ends.short in
    let h = parents_here s n (n - 1) [] (low_above s parent child n (n - 1) chain.0 ends.low stands) in
    (omega (arith, h.0), omega (arith, h.1, f.less))
few_low steps s parent is child short k n (m ∷ ms) ends chain =
    let stands = found_low s.own parent short.plain n chain.0 ends.low (rw (is, child) at chain.1) in
    let f = one_fewer_low steps parent short k n (n - 1) chain.0 stands ends.short in
    let h = parents_here s n (n - 1) (m ∷ ms) (low_above s parent child n (n - 1) chain.0 ends.low stands) in
    let rest = few_low steps s parent is child short f.left m ms (one_of (EndsLow steps parent f.left) (steps chain.0.body) m f.next chain.2) chain.3 in
    (omega (arith, h.0, rest.0), omega (arith, h.1, rest.1, f.less))

-- from a parent's type on
few_above : (steps : Body → List ℕ) (s : Space) → HasShortChainsIn steps s → (k n : ℕ) (ns : List ℕ) (z : Term) → StandsAbove s n z → IsChain steps s (n ∷ ns) → (own_count s (n ∷ ns) ≤ k) × (parents_count s (n ∷ ns) ≤ 513)
few_above steps s short k n ns z above chain =
    let closed = short.parent above.parent above.is in
    let few = few_low steps s above.parent above.is above.child closed 513 n ns (record { low = above.low; short = ends_short steps above.parent closed.short n }) chain in
    (omega (arith, few.0), few.1)

few_own : (steps : Body → List ℕ) (s : Space) → HasShortChainsIn steps s → (k n : ℕ) (ns : List ℕ) → EndsBy steps s.own k n → IsChain steps s (n ∷ ns) → (own_count s (n ∷ ns) ≤ k) × (parents_count s (n ∷ ns) ≤ 513)
unfolding IsChain
few_own steps s short k n [] ends chain =
    ⊎_elim
    (λ own.
    let f = one_fewer steps s.own k n own.0 chain.0 own.1 ends in
    let h = own_here s n own.0 [] own.1.there in
    (omega (arith, h.0, f.less), omega (arith, h.1)))
    (λ above. few_above steps s short k n [] chain.0 above chain)
    (stands_where s (plain_parent steps s short) n chain.0 chain.1)
few_own steps s short k n (m ∷ ms) ends chain =
    ⊎_elim
    (λ own.
    let f = one_fewer steps s.own k n own.0 chain.0 own.1 ends in
    let h = own_here s n own.0 (m ∷ ms) own.1.there in
    let rest = few_own steps s short f.left m ms (one_of (EndsBy steps s.own f.left) (steps chain.0.body) m f.next chain.2) chain.3 in
    (omega (arith, h.0, rest.0, f.less), omega (arith, h.1, rest.1)))
    (λ above. few_above steps s short k n (m ∷ ms) chain.0 above chain)
    (stands_where s (plain_parent steps s short) n chain.0 chain.1)

pub chains_short : ChainsAreShort
chains_short steps s short [] chain = (omega arith, omega arith)
chains_short steps s short (n ∷ ns) chain = few_own steps s short 513 n ns (ends_short steps s.own short.own n) chain
