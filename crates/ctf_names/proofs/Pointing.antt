-- Pointers, one more at a time, sorted, and look-ups among them.
use Rattle.std.proofs.Common.{◌≡◌, ◌⊎◌, inl, inr, ℕ, ◌+◌, ◌-◌, ◌==◌, ◌<◌, ◌≤◌, ltb, Bool, true, false, List, [], ◌∷◌, ◌++◌, length, get_or, set, replicate, Option, Some, None, refl, sym, ap, ◌∙◌, arith}
use Rattle.std.specs.Prelude.{nat_le, nat_lt, slice_get, MatchOption, if◌then◌else◌}
use Rattle.std.specs.Option.{option_map}
use Rattle.std.specs.List.{list_any, Contains}
use Rattle.std.specs.List.Sorted.{IsPartitionedBy, IsPermutation, IsSortedBy}
use Rattle.std.specs.Cmp.{IsStrictWeakOrder, nat_cmp_is}
use Rattle.std.specs.Ordering.{is_lt, nat_cmp, ordering_then}
use Rattle.std.specs.declared.cmp.Ordering.TheVariants.{Less, Equal}
use Rattle.std.proofs.lemmas.Bool.{eqb-true, eqb-false, leb-true, le-leb, lt-ltb, ltb-true, ltb-false}
use Rattle.std.proofs.lemmas.Bool.Decides.{Decides-eqb}
use Rattle.std.proofs.lemmas.Cmp.{then_total, nat_cmp_total, on_total}
use Rattle.std.proofs.lemmas.List.Elements.{Contains-append_left, Contains-append_right, Contains-append_cases}
use Rattle.std.proofs.lemmas.List.{get_or_default, length-set}
use Rattle.std.proofs.lemmas.List.MinMax.{ranks_by}
use Rattle.std.proofs.lemmas.List.Sorted.{sorted_far, Contains-permutation, IsPermutation-sym}
use Rattle.std.proofs.lemmas.Option.{slice_get_past}
use Rattle.ctf_model.specs.names.Lookups.{first_place, is_pointer_body, is_pointer_to}
use Rattle.ctf_model.specs.format.Term.{Body, Term}
use Rattle.ctf_model.specs.format.Term as term
use Rattle.ctf_order.proofs.Lent.{any_to, itself, only}
use Rattle.ctf_order.proofs.Search.{any_from, both}
use Rattle.ctf_model.specs.declared.numbers.TypeNum.{TypeNum}
use Rattle.ctf_names.specs.Briefs.{is_target, IsBrief, IsBriefAt}
use Rattle.ctf_names.specs.Leading.{Leads}
use Rattle.ctf_names.specs.Pointers.{is_early_pointer, is_pointer_of, pointer_precedes, points_to, slot, HasOutside, PointersFrom}
use Rattle.ctf_names.specs.declared.pointers.Pointer.{Pointer}
use Rattle.ctf_names.specs.declared.types.Brief.{Brief}
use Rattle.ctf_names.proofs.Led.{all_end, all_kept, all_put, first_led}
use Rattle.ctf_names.proofs.Places.{first_passes, none_passes}

pub pointers_rank : IsStrictWeakOrder pointer_precedes
pointers_rank = ranks_by (then_total (on_total (λ (p : Pointer). p.target) nat_cmp_total) (on_total (λ (p : Pointer). p.place) nat_cmp_total)) (λ p. p)

-- ---- slots

pub record HasSlot (base slots t k : ℕ) : Type 0 where
  pub is : base + k ≡ t
  pub inside : k < slots

pub slot_says : (base slots t k : ℕ) → slot base slots t ≡ Some k → HasSlot base slots t k
slot_says base slots t k h = by_case (ltb t base) (ltb (t - base) slots) refl refl h
  where
    by_case : (u v : Bool) → ltb t base ≡ u → ltb (t - base) slots ≡ v → (if u then None else if v then Some (t - base) else None) ≡ Some k → HasSlot base slots t k
    by_case true v e f g = absurd cc
    by_case false false e f g = absurd cc
    by_case false true e f g = let same : t - base ≡ k = cc in record { is = omega (arith, same, ltb-false t base e); inside = omega (arith, same, ltb-true (t - base) slots f) }

pub slot_there : (base slots t k : ℕ) → HasSlot base slots t k → slot base slots t ≡ None → ⊥
slot_there base slots t k has h = by_case (ltb t base) (ltb (t - base) slots) refl refl h
  where
    by_case : (u v : Bool) → ltb t base ≡ u → ltb (t - base) slots ≡ v → (if u then None else if v then Some (t - base) else None) ≡ None → ⊥
    by_case true v e f g = absurd (omega (arith, has.is, ltb-true t base e))
    by_case false true e f g = absurd cc
    by_case false false e f g = absurd (omega (arith, has.is, has.inside, ltb-false t base e, ltb-false (t - base) slots f))

same_test : (a b c d : ℕ) → (a ≡ b → c ≡ d) → (c ≡ d → a ≡ b) → (a == b) ≡ (c == d)
same_test a b c d to fro = by_case (a == b) (c == d) refl refl
  where
    by_case : (u v : Bool) → a == b ≡ u → c == d ≡ v → u ≡ v
    by_case true true e f = refl
    by_case false false e f = refl
    by_case true false e f = absurd (eqb-false c d f (to (eqb-true a b e)))
    by_case false true e f = absurd (eqb-false a b e (fro (eqb-true c d f)))

-- ---- one more

by_back : {P : ℕ → Type 0} (i : ℕ) → ((j : ℕ) → i + 1 ≤ j → P j) → P i → (j : ℕ) → i ≤ j → P j
by_back {P} i behind here j le = by_case (ltb i j) refl
  where
    by_case : (u : Bool) → ltb i j ≡ u → P j
    by_case true e = behind j (omega (arith, ltb-true i j e))
    by_case false e = let same : i ≡ j = omega (arith, le, ltb-false i j e) in rw same at here

grown : (t i : ℕ) (ps : List Pointer) (p : Pointer) → list_any (is_early_pointer t i) ps ≡ true → list_any (is_early_pointer t i) (ps ++ p ∷ []) ≡ true
grown t i ps p h = let one = any_from (is_early_pointer t i) ps h in any_to (is_early_pointer t i) (ps ++ p ∷ []) one.0 one.2 (Contains-append_left ps (p ∷ []) one.0 one.1)

pub none_yet : (terms : List Term) (base slots : ℕ) → HasOutside terms base slots (length terms) []
none_yet terms base slots = record {
  inside = λ p h. absurd (omega (arith, h.1));
  all = λ i t le without is. absurd (
      let gone : slice_get terms i ≡ None = slice_get_past terms i le in
      let bad : false ≡ true = rw gone at is in
      cc);
}

kept_without : (terms : List Term) (base slots i : ℕ) (ps : List Pointer) → HasOutside terms base slots (i + 1) ps → ((t : ℕ) → slot base slots t ≡ None → points_to t (slice_get terms i) ≡ false) → HasOutside terms base slots i ps
kept_without terms base slots i ps has none = record {
  inside = has.inside;
  all = λ j t le. by_back {P = λ j. slot base slots t ≡ None → points_to t (slice_get terms j) ≡ true → list_any (is_early_pointer t j) ps ≡ true} i (λ k behind without is. has.all k t behind without is) (λ without is. absurd (let bad : false ≡ true = sym (none t without) ∙ is in cc)) j le;
}

-- a type points to at most one type
one_target : (o : Option Term) (t u : ℕ) → points_to t o ≡ true → points_to u o ≡ true → t ≡ u
one_target None t u p q = absurd cc
one_target (Some x) t u p q = by_body x.body p q
  where
    by_body : (body : Body) → is_pointer_body t body ≡ true → is_pointer_body u body ≡ true → t ≡ u
    by_body (term.pointer v) a b = sym (eqb-true v t a) ∙ eqb-true v u b
    by_body term.unknown a b = absurd cc
    by_body (term.integer s) a b = absurd cc
    by_body (term.float s) a b = absurd cc
    by_body (term.array s) a b = absurd cc
    by_body (term.function r s) a b = absurd cc
    by_body (term.struct r s) a b = absurd cc
    by_body (term.union r s) a b = absurd cc
    by_body (term.enum r s) a b = absurd cc
    by_body (term.forward s) a b = absurd cc
    by_body (term.typedef s) a b = absurd cc
    by_body (term.volatile s) a b = absurd cc
    by_body (term.const s) a b = absurd cc
    by_body (term.restrict s) a b = absurd cc

early : (t i : ℕ) (p : Pointer) → p.target ≡ t → p.place ≤ i → is_early_pointer t i p ≡ true
early t i p same le = rw ((Decides-eqb p.target t).1 same, le-leb p.place i le) refl

entered : (terms : List Term) (base slots i : ℕ) (ps : List Pointer) (p : Pointer) → HasOutside terms base slots (i + 1) ps → p.place ≡ i → is_pointer_of terms p ≡ true → HasOutside terms base slots i (ps ++ p ∷ [])
entered terms base slots i ps p has at says = record {
  inside = λ q h. inside_case q (Contains-append_cases ps (p ∷ []) q h);
  all = λ j t le. by_back {P = λ j. slot base slots t ≡ None → points_to t (slice_get terms j) ≡ true → list_any (is_early_pointer t j) (ps ++ p ∷ []) ≡ true} i (λ k behind without is. grown t k ps p (has.all k t behind without is)) (λ without is. here t is) j le;
}
  where
    inside_case : (q : Pointer) → Contains ps q ⊎ Contains (p ∷ []) q → is_pointer_of terms q ≡ true
    inside_case q (inl h) = has.inside q h
    inside_case q (inr h) = rw (← only p q h) says

    here : (t : ℕ) → points_to t (slice_get terms i) ≡ true → list_any (is_early_pointer t i) (ps ++ p ∷ []) ≡ true
    here t is =
        let mine : points_to p.target (slice_get terms i) ≡ true = rw at at says in
        any_to (is_early_pointer t i) (ps ++ p ∷ []) p (early t i p (one_target (slice_get terms i) p.target t mine is) (omega (arith, at))) (Contains-append_right ps (p ∷ []) p (itself p))

-- ---- one more type

pub not_pointer : (terms : List Term) (base p : ℕ) (firsts : List ℕ) (ps : List Pointer) (b : Brief) → IsBriefAt terms p b → b.target ≡ None → PointersFrom terms base (p + 1) firsts ps → PointersFrom terms base p firsts ps
not_pointer terms base p firsts ps b at none from = by_term (slice_get terms p) refl at
  where
    by_term : (o : Option Term) → slice_get terms p ≡ o → MatchOption o ⊥ (λ x. IsBrief (length terms) x b) → PointersFrom terms base p firsts ps
    by_term None here says = absurd says
    by_term (Some x) here says = record {
      slots = all_kept (λ k. is_pointer_to (base + k)) terms firsts p x from.slots here (λ k lt. fails (base + k));
      others = kept_without terms base (length firsts) p ps from.others (λ t without. ap (points_to t) here ∙ fails t);
    }
      where
        fails : (n : ℕ) → is_pointer_to n x ≡ false
        fails n = says.points n ∙ ap (λ (o : Option TypeNum). is_target n (option_map (λ (target : TypeNum). target.0) o)) none

pub put_inside : (terms : List Term) (base p : ℕ) (firsts : List ℕ) (ps : List Pointer) (b : Brief) (t : TypeNum) (s : ℕ) → IsBriefAt terms p b → b.target ≡ Some t → slot base (length firsts) t.0 ≡ Some s → PointersFrom terms base (p + 1) firsts ps → PointersFrom terms base p (set firsts s p) ps
put_inside terms base p firsts ps b t s at some slotted from = by_term (slice_get terms p) refl at
  where
    has : HasSlot base (length firsts) t.0 s
    has = slot_says base (length firsts) t.0 s slotted

    by_term : (o : Option Term) → slice_get terms p ≡ o → MatchOption o ⊥ (λ x. IsBrief (length terms) x b) → PointersFrom terms base p (set firsts s p) ps
    by_term None here says = absurd says
    by_term (Some x) here says = record {
      slots = all_put (λ k. is_pointer_to (base + k)) terms firsts p s x from.slots here has.inside (λ k. points (base + k) ∙ same_test t.0 (base + k) s k (λ e. omega (arith, e, has.is)) (λ e. omega (arith, e, has.is)));
      others = rw (length-set firsts s p) (kept_without terms base (length firsts) p ps from.others (λ n without. ap (points_to n) here ∙ not_outside n without (is_pointer_to n x) refl));
    }
      where
        points : (n : ℕ) → is_pointer_to n x ≡ (t.0 == n)
        points n = says.points n ∙ ap (λ (o : Option TypeNum). is_target n (option_map (λ (target : TypeNum). target.0) o)) some

        not_outside : (n : ℕ) → slot base (length firsts) n ≡ None → (u : Bool) → is_pointer_to n x ≡ u → u ≡ false
        not_outside n without false e = refl
        not_outside n without true e = absurd (
            let test : (t.0 == n) ≡ true = sym (points n) ∙ e in
            let same : t.0 ≡ n = eqb-true t.0 n test in
            slot_there base (length firsts) n s (record { is = has.is ∙ same; inside = has.inside }) without)

pub put_outside : (terms : List Term) (base p : ℕ) (firsts : List ℕ) (ps : List Pointer) (b : Brief) (t : TypeNum) (q : Pointer) → IsBriefAt terms p b → b.target ≡ Some t → slot base (length firsts) t.0 ≡ None → q.target ≡ t.0 → q.place ≡ p → PointersFrom terms base (p + 1) firsts ps → PointersFrom terms base p firsts (ps ++ q ∷ [])
put_outside terms base p firsts ps b t q at some slotless to place from = by_term (slice_get terms p) refl at
  where
    by_term : (o : Option Term) → slice_get terms p ≡ o → MatchOption o ⊥ (λ x. IsBrief (length terms) x b) → PointersFrom terms base p firsts (ps ++ q ∷ [])
    by_term None here says = absurd says
    by_term (Some x) here says = record {
      slots = all_kept (λ k. is_pointer_to (base + k)) terms firsts p x from.slots here (λ k lt. not_inside k lt (is_pointer_to (base + k) x) refl);
      others = entered terms base (length firsts) p ps q from.others place (ap (λ n. points_to q.target (slice_get terms n)) place ∙ ap (points_to q.target) here ∙ points q.target ∙ (Decides-eqb t.0 q.target).1 (sym to));
    }
      where
        points : (n : ℕ) → is_pointer_to n x ≡ (t.0 == n)
        points n = says.points n ∙ ap (λ (o : Option TypeNum). is_target n (option_map (λ (target : TypeNum). target.0) o)) some

        not_inside : (k : ℕ) → k < length firsts → (u : Bool) → is_pointer_to (base + k) x ≡ u → u ≡ false
        not_inside k lt false e = refl
        not_inside k lt true e = absurd (
            let test : (t.0 == (base + k)) ≡ true = sym (points (base + k)) ∙ e in
            let same : t.0 ≡ base + k = eqb-true t.0 (base + k) test in
            slot_there base (length firsts) t.0 k (record { is = sym same; inside = lt }) slotless)

-- ---- sorted

pub ordered : (terms : List Term) (base slots : ℕ) (ps qs : List Pointer) → HasOutside terms base slots 0 ps → IsPermutation ps qs → HasOutside terms base slots 0 qs
ordered terms base slots ps qs has moved = record {
  inside = λ p h. has.inside p (Contains-permutation qs ps p (IsPermutation-sym ps qs moved) h);
  all = λ i t le without is. let one = any_from (is_early_pointer t i) ps (has.all i t le without is) in any_to (is_early_pointer t i) qs one.0 one.2 (Contains-permutation ps qs one.0 moved one.1);
}

-- ---- look-ups

-- consequences of one pointer not preceding another
not_before : (a b : Pointer) → pointer_precedes a b ≡ false → (b.target ≤ a.target) × (a.target ≡ b.target → b.place ≤ a.place)
not_before a b h = (by_target (ltb a.target b.target) refl, λ same. by_place (ltb a.place b.place) refl same)
  where
    by_target : (u : Bool) → ltb a.target b.target ≡ u → b.target ≤ a.target
    by_target false e = ltb-false a.target b.target e
    by_target true e = absurd (let less : Less ≡ nat_cmp a.target b.target = nat_cmp_is a.target b.target Less (ltb-true a.target b.target e) in let bad : true ≡ false = ap (λ o. is_lt (ordering_then o (nat_cmp a.place b.place))) less ∙ h in cc)

    by_place : (u : Bool) → ltb a.place b.place ≡ u → a.target ≡ b.target → b.place ≤ a.place
    by_place false e same = ltb-false a.place b.place e
    by_place true e same = absurd (
        let tie : Equal ≡ nat_cmp a.target b.target = nat_cmp_is a.target b.target Equal same in
        let less : Less ≡ nat_cmp a.place b.place = nat_cmp_is a.place b.place Less (ltb-true a.place b.place e) in
        let bad : true ≡ false = ap (λ o. is_lt (ordering_then o Less)) tie ∙ ap (λ o. is_lt (ordering_then (nat_cmp a.target b.target) o)) less ∙ h in
        cc)

pub far : (ps : List Pointer) → IsSortedBy pointer_precedes ps → (i j : ℕ) (d : Pointer) → i ≤ j → j < length ps → pointer_precedes (get_or ps j d) (get_or ps i d) ≡ false
far ps sorted i j d le lt = sorted_far pointer_precedes pointers_rank ps sorted i j d le lt

pub parted : (t : ℕ) (ps : List Pointer) → IsSortedBy pointer_precedes ps → IsPartitionedBy (λ p. nat_lt p.target t) ps
parted t ps sorted i j d le lt h =
    let rises = (not_before (get_or ps j d) (get_or ps i d) (far ps sorted i j d le lt)).0 in
    lt-ltb (get_or ps i d).target t (omega (arith, rises, ltb-true (get_or ps j d).target t h))

-- a pointer to the type is at the start of the search or after it
pub record Behind (t from : ℕ) (ps : List Pointer) (q : Pointer) : Type 0 where
  pub inside : from < length ps
  pub target : (d : Pointer) → (get_or ps from d).target ≡ t
  pub place : (d : Pointer) → (get_or ps from d).place ≤ q.place

pub behind : (t from : ℕ) (ps : List Pointer) → IsSortedBy pointer_precedes ps → ((j : ℕ) (d : Pointer) → j < from → nat_lt (get_or ps j d).target t ≡ true) → ((j : ℕ) (d : Pointer) → from ≤ j → j < length ps → nat_lt (get_or ps j d).target t ≡ false) → (q : Pointer) → Contains ps q → q.target ≡ t → Behind t from ps q
behind t from ps sorted low high q (k, lt, is) same = by_case (ltb k from) refl
  where
    at_k : (get_or ps k q).target ≡ t
    at_k = ap (λ (p : Pointer). p.target) is ∙ same

    by_case : (u : Bool) → ltb k from ≡ u → Behind t from ps q
    by_case true e = absurd (let less = ltb-true (get_or ps k q).target t (low k q (ltb-true k from e)) in omega (arith, less, at_k))
    by_case false e =
        let le : from ≤ k = ltb-false k from e in
        let inside : from < length ps = omega (arith, le, lt) in
        record {
          inside = inside;
          target = λ d. omega (arith, (says d).0, at_default d, ltb-false (get_or ps from d).target t (high from d (omega arith) inside));
          place = λ d. omega (arith, (says d).1 (omega (arith, (says d).0, at_default d, ltb-false (get_or ps from d).target t (high from d (omega arith) inside))), place_default d);
        }
      where
        here : (d : Pointer) → get_or ps k d ≡ q
        here d = get_or_default ps k d q lt ∙ is

        at_default : (d : Pointer) → (get_or ps k d).target ≡ t
        at_default d = ap (λ (p : Pointer). p.target) (here d) ∙ same

        place_default : (d : Pointer) → (get_or ps k d).place ≡ q.place
        place_default d = ap (λ (p : Pointer). p.place) (here d)

        says : (d : Pointer) → ((get_or ps from d).target ≤ (get_or ps k d).target) × ((get_or ps k d).target ≡ (get_or ps from d).target → (get_or ps from d).place ≤ (get_or ps k d).place)
        says d = not_before (get_or ps k d) (get_or ps from d) (far ps sorted from k d (ltb-false k from e) lt)

-- a type that points there is a pointer in the list
none_to : (t base slots : ℕ) (terms : List Term) (ps : List Pointer) → HasOutside terms base slots 0 ps → slot base slots t ≡ None → ((q : Pointer) → Contains ps q → q.target ≡ t → ⊥) → first_place (is_pointer_to t) terms ≡ None
none_to t base slots terms ps has without none = none_passes (is_pointer_to t) terms (λ i x is. not_one i x is (is_pointer_to t x) refl)
  where
    not_one : (i : ℕ) (x : Term) → slice_get terms i ≡ Some x → (u : Bool) → is_pointer_to t x ≡ u → u ≡ false
    not_one i x is false e = refl
    not_one i x is true e = absurd (
        let points : points_to t (slice_get terms i) ≡ true = rw is e in
        let one = any_from (is_early_pointer t i) ps (has.all i t (omega arith) without points) in
        let says = both (one.0.target == t) (nat_le one.0.place i) one.2 in
        none one.0 one.1 (eqb-true one.0.target t says.0))

-- ---- the three ends of a search: pointers in `low` are before the type, those in `high` are not

abbrev pub Low : ℕ → ℕ → List Pointer → Type 0
Low t from ps = (j : ℕ) (d : Pointer) → j < from → nat_lt (get_or ps j d).target t ≡ true

abbrev pub High : ℕ → ℕ → List Pointer → Type 0
High t from ps = (j : ℕ) (d : Pointer) → from ≤ j → j < length ps → nat_lt (get_or ps j d).target t ≡ false

pub none_past : (t base slots from : ℕ) (terms : List Term) (ps : List Pointer) → HasOutside terms base slots 0 ps → IsSortedBy pointer_precedes ps → slot base slots t ≡ None → Low t from ps → High t from ps → length ps ≤ from → None ≡ first_place (is_pointer_to t) terms
none_past t base slots from terms ps has sorted without low high le = sym (none_to t base slots terms ps has without (λ q h same. absurd (omega (arith, (behind t from ps sorted low high q h same).inside, le))))

pub none_there : (t base slots from : ℕ) (terms : List Term) (ps : List Pointer) (p : Pointer) → HasOutside terms base slots 0 ps → IsSortedBy pointer_precedes ps → slot base slots t ≡ None → Low t from ps → High t from ps → get_or ps from p ≡ p → (p.target ≡ t → ⊥) → None ≡ first_place (is_pointer_to t) terms
none_there t base slots from terms ps p has sorted without low high at other = sym (none_to t base slots terms ps has without (λ q h same. other (sym (ap (λ (x : Pointer). x.target) at) ∙ (behind t from ps sorted low high q h same).target p)))

pub first_there : (t base slots from : ℕ) (terms : List Term) (ps : List Pointer) (p : Pointer) → HasOutside terms base slots 0 ps → IsSortedBy pointer_precedes ps → slot base slots t ≡ None → Low t from ps → High t from ps → from < length ps → get_or ps from p ≡ p → p.target ≡ t → Some p.place ≡ first_place (is_pointer_to t) terms
first_there t base slots from terms ps p has sorted without low high inside at same = by_term (slice_get terms p.place) refl
  where
    there : Contains ps p
    there = (from, inside, at)

    points : points_to t (slice_get terms p.place) ≡ true
    points = rw same at (has.inside p there)

    by_term : (o : Option Term) → slice_get terms p.place ≡ o → Some p.place ≡ first_place (is_pointer_to t) terms
    by_term None e = absurd (let bad : false ≡ true = rw e at points in cc)
    by_term (Some x) e =
        let here : is_pointer_to t x ≡ true = rw e at points in
        sym (first_passes (is_pointer_to t) terms p.place x e here (λ i y lt is. not_before_it i y lt is (is_pointer_to t y) refl))
      where
        not_before_it : (i : ℕ) (y : Term) → i < p.place → slice_get terms i ≡ Some y → (u : Bool) → is_pointer_to t y ≡ u → u ≡ false
        not_before_it i y lt is false f = refl
        not_before_it i y lt is true f = absurd (
            let also : points_to t (slice_get terms i) ≡ true = rw is f in
            let one = any_from (is_early_pointer t i) ps (has.all i t (omega arith) without also) in
            let says = both (one.0.target == t) (nat_le one.0.place i) one.2 in
            let first = behind t from ps sorted low high one.0 one.1 (eqb-true one.0.target t says.0) in
            omega (arith, first.place p, ap (λ (z : Pointer). z.place) at, leb-true one.0.place i says.1, lt))

-- ---- slots

pub first_in_slot : (terms : List Term) (base t s : ℕ) (firsts : List ℕ) (ps : List Pointer) → PointersFrom terms base 0 firsts ps → slot base (length firsts) t ≡ Some s → (if nat_lt (get_or firsts s 0) (length terms) then Some (get_or firsts s 0) else None) ≡ first_place (is_pointer_to t) terms
first_in_slot terms base t s firsts ps from slotted =
    let has = slot_says base (length firsts) t s slotted in
    let led : Leads (is_pointer_to (base + s)) terms 0 (get_or firsts s 0) = from.slots.each s has.inside in
    first_led (is_pointer_to t) terms (get_or firsts s 0) (rw has.is at led)

pub none_pointed : (terms : List Term) (base n : ℕ) (firsts : List ℕ) (ps : List Pointer) → firsts ≡ replicate n 65535 → ps ≡ [] → length terms ≤ 32766 → PointersFrom terms base (length terms) firsts ps
none_pointed terms base n firsts ps blank none few = rw (blank, none) (record {
  slots = all_end (λ k. is_pointer_to (base + k)) terms n 65535 (omega (arith, few));
  others = none_yet terms base (length (replicate n 65535));
})

pub first_at : (terms : List Term) (base t s len types place : ℕ) (firsts : List ℕ) (ps : List Pointer) (r : Option ℕ) → PointersFrom terms base 0 firsts ps → types ≡ length terms → Some s ≡ slot base len t → len ≡ length firsts → place ≡ get_or firsts s place → r ≡ (if nat_lt place types then Some place else None) → r ≡ first_place (is_pointer_to t) terms
first_at terms base t s len types place firsts ps r from count slotted all read is =
    let there : slot base (length firsts) t ≡ Some s = ap (λ n. slot base n t) (sym all) ∙ sym slotted in
    let has = slot_says base (length firsts) t s there in
    let zero_read : place ≡ get_or firsts s 0 = read ∙ get_or_default firsts s place 0 has.inside in
    is ∙ ap (λ n. if nat_lt place n then Some place else None) count ∙ ap (λ n. if nat_lt n (length terms) then Some n else None) zero_read ∙ first_in_slot terms base t s firsts ps from there
