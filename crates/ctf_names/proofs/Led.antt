-- Tables that lead to types, filled from the last type to the first.
use Rattle.std.proofs.Common.{◌≡◌, ℕ, zero, suc, ◌+◌, ◌==◌, ◌<◌, ◌≤◌, ltb, Bool, true, false, List, [], ◌∷◌, length, set, get_or, replicate, Option, Some, None, refl, sym, ap, ◌∙◌, arith}
use Rattle.std.specs.Prelude.{slice_get, nat_lt, if◌then◌else◌}
use Rattle.std.proofs.lemmas.Bool.{eqb-true, eqb-false, ltb-true, ltb-false}
use Rattle.std.proofs.lemmas.List.{get_or-replicate, get_or-set_other, get_or-set_same, length-replicate, length-set}
use Rattle.std.proofs.lemmas.Option.{same_Some, slice_get_within}
use Rattle.ctf_model.specs.names.Lookups.{first_place}
use Rattle.ctf_model.specs.format.Term.{Term}
use Rattle.ctf_names.specs.Leading.{AllLead, Leads}
use Rattle.ctf_names.proofs.Places.{first_passes, none_passes}

pub not_past : {X : Type 0} (xs : List X) (i : ℕ) → i < length xs → slice_get xs i ≡ None → ⊥
not_past [] i lt is = absurd (omega (arith, lt))
not_past (x ∷ xs) zero lt is = absurd cc
not_past (x ∷ xs) (suc i) lt is = not_past xs i (omega (arith, lt)) is

pub past : {X : Type 0} (xs : List X) (i : ℕ) → slice_get xs i ≡ None → length xs ≤ i
past xs i is = by_case (ltb i (length xs)) refl
  where
    by_case : (u : Bool) → ltb i (length xs) ≡ u → length xs ≤ i
    by_case false e = ltb-false i (length xs) e
    by_case true e = absurd (not_past xs i (ltb-true i (length xs) e) is)

-- after the last type there is none
pub leads_end : (passes : Term → Bool) (terms : List Term) (to : ℕ) → length terms ≤ to → Leads passes terms (length terms) to
leads_end passes terms to le = record {
  onward = le;
  skipped = λ i x from lt is. absurd (let inside = slice_get_within terms i x is in omega (arith, from, inside));
  there = λ x is. absurd (let inside = slice_get_within terms to x is in omega (arith, le, inside));
}

-- one more type, which does not pass
pub leads_back : (passes : Term → Bool) (terms : List Term) (p to : ℕ) (x : Term) → Leads passes terms (p + 1) to → slice_get terms p ≡ Some x → passes x ≡ false → Leads passes terms p to
leads_back passes terms p to x led here fails = record {
  onward = omega (arith, led.onward);
  skipped = λ i y from lt is. by_case i y from lt is (ltb p i) refl;
  there = led.there;
}
  where
    by_case : (i : ℕ) (y : Term) → p ≤ i → i < to → slice_get terms i ≡ Some y → (u : Bool) → ltb p i ≡ u → passes y ≡ false
    by_case i y from lt is true e = led.skipped i y (omega (arith, ltb-true p i e)) lt is
    by_case i y from lt is false e =
        let same : p ≡ i = omega (arith, from, ltb-false p i e) in
        let at : slice_get terms p ≡ Some y = ap (slice_get terms) same ∙ is in
        let one : x ≡ y = same_Some x y (sym here ∙ at) in
        rw (← one) fails

-- one more type, which passes
pub leads_here : (passes : Term → Bool) (terms : List Term) (p : ℕ) (x : Term) → slice_get terms p ≡ Some x → passes x ≡ true → Leads passes terms p p
leads_here passes terms p x here fits = record {
  onward = omega arith;
  skipped = λ i y from lt is. absurd (omega (arith, from, lt));
  there = λ y is. let one : x ≡ y = same_Some x y (sym here ∙ is) in rw (← one) fits;
}

-- ---- whole tables

pub all_end : (passes : ℕ → Term → Bool) (terms : List Term) (n to : ℕ) → length terms ≤ to → AllLead passes terms (length terms) (replicate n to)
all_end passes terms n to le = record {
  each = λ k lt.
      let short : k < n = omega (arith, lt, length-replicate n to) in
      rw (get_or-replicate n k to 0 short) (leads_end (passes k) terms to le);
}

pub all_kept : (passes : ℕ → Term → Bool) (terms : List Term) (table : List ℕ) (p : ℕ) (x : Term) → AllLead passes terms (p + 1) table → slice_get terms p ≡ Some x → ((k : ℕ) → k < length table → passes k x ≡ false) → AllLead passes terms p table
all_kept passes terms table p x all here none = record { each = λ k lt. leads_back (passes k) terms p (get_or table k 0) x (all.each k lt) here (none k lt) }

pub all_put : (passes : ℕ → Term → Bool) (terms : List Term) (table : List ℕ) (p b : ℕ) (x : Term) → AllLead passes terms (p + 1) table → slice_get terms p ≡ Some x → b < length table → ((k : ℕ) → passes k x ≡ (b == k)) → AllLead passes terms p (set table b p)
all_put passes terms table p b x all here inside says = record { each = λ k lt. by_case k (omega (arith, lt, length-set table b p)) (b == k) refl }
  where
    by_case : (k : ℕ) → k < length table → (u : Bool) → b == k ≡ u → Leads (passes k) terms p (get_or (set table b p) k 0)
    by_case k lt true e =
        let same : b ≡ k = eqb-true b k e in
        let at : get_or (set table b p) k 0 ≡ p = ap (λ j. get_or (set table b p) j 0) (sym same) ∙ get_or-set_same table b p 0 inside in
        rw at (leads_here (passes k) terms p x here (says k ∙ e))
    by_case k lt false e =
        let other : k ≡ b → ⊥ = λ same. eqb-false b k e (sym same) in
        let at : get_or (set table b p) k 0 ≡ get_or table k 0 = get_or-set_other table b k p 0 other in
        rw at (leads_back (passes k) terms p (get_or table k 0) x (all.each k lt) here (says k ∙ e))

-- ---- look-ups

-- the first type that passes
pub first_led : (passes : Term → Bool) (terms : List Term) (to : ℕ) → Leads passes terms 0 to → (if nat_lt to (length terms) then Some to else None) ≡ first_place passes terms
first_led passes terms to led = by_case (ltb to (length terms)) refl
  where
    by_case : (u : Bool) → ltb to (length terms) ≡ u → (if nat_lt to (length terms) then Some to else None) ≡ first_place passes terms
    by_case true e = rw e (by_term (slice_get terms to) refl)
      where
        by_term : (o : Option Term) → slice_get terms to ≡ o → Some to ≡ first_place passes terms
        by_term None f = absurd (not_past terms to (ltb-true to (length terms) e) f)
        by_term (Some x) f = sym (first_passes passes terms to x f (led.there x f) (λ i y lt is. led.skipped i y (omega arith) lt is))
    by_case false e = rw e (sym (none_passes passes terms (λ i x is. led.skipped i x (omega arith) (omega (arith, slice_get_within terms i x is, ltb-false to (length terms) e)) is)))
