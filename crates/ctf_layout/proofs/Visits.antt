-- The table while it is filled.
use Rattle.std.proofs.Common.{◌≡◌, ℕ, zero, suc, ◌+◌, ◌<◌, ◌⊎◌, inl, inr, ◌≢◌, true, false, List, [], ◌∷◌, length, Option, Some, None, get_or, set, slice_set, refl, sym, subst, ◌∙◌, arith}
use Rattle.std.specs.Prelude.{IsSome}
use Rattle.std.proofs.lemmas.Grind.{get_or-set_at}
use Rattle.std.proofs.lemmas.List.{get_or-set_other}
use Rattle.std.proofs.lemmas.Bool.Decides.{eqb_tells}
use Rattle.ctf_model.specs.rules.Chains.{IsWithin}
use Rattle.ctf_model.specs.format.Term.{Term}
use Rattle.ctf_layout.specs.Bases.{members_read, row_size}
use Rattle.ctf_layout.specs.Extents.{IsExtent, amount, itself}
use Rattle.ctf_layout.specs.Kept.{IsByKept, IsKept, extent_kept}
use Rattle.ctf_layout.specs.Table.{Table, Knows, Keeps, LeadsOn, FillsBelow, FillsFrom, IsUnderway, IsFilled, entry, debt, work_left}
use Rattle.ctf_model.specs.figures.FigureLaws.{nothing, own_body, value_edges}
use Rattle.ctf_model.specs.spaces.TypePlaces.{own_number}
use Rattle.ctf_model.specs.spaces.Space.{Space}
use Rattle.ctf_layout.specs.declared.bases.Row.{Row}
use Rattle.ctf_layout.specs.declared.entry.KeptExtent.{KeptExtent}
use Rattle.ctf_layout.specs.declared.extents.Amount.{Amount}
use Rattle.ctf_layout.specs.declared.extents.Extent.{Extent}
use Rattle.ctf_model.specs.declared.numbers.TypeNum.{TypeNum}
use Rattle.std.proofs.lemmas.Option.{same_Some}
use Rattle.ctf_layout.proofs.Leading.{leads_leads, not_itself}

same_or_not : (j i : ℕ) → (j ≡ i) ⊎ (j ≢ i)
same_or_not j i = elim (eqb_tells j i) [ inl p ↦ inl p.1 | inr p ↦ inr p.1 ]

none_is_not : {X : Type 0} (o : Option X) → o ≡ None → IsSome o → ⊥
none_is_not None e h = let f : false ≡ true = h in cc
none_is_not (Some x) e h = cc

-- ---- work

work_set : (types : List Term) (table : Table) (i : ℕ) (e : Extent) → i < length types → i < length table → entry table i ≡ None → work_left types (set table i (Some e)) + (1 + members_read (get_or types i nothing).body) ≡ work_left types table
unfolding work_left
work_set [] table i e a b is = absurd (omega arith)
work_set (x ∷ types) [] i e a b is = absurd (omega arith)
work_set (x ∷ types) (o ∷ table) zero e a b is = let P : Option Extent → Type 0 = λ u. 0 + work_left types table + (1 + members_read x.body) ≡ debt x.body u + work_left types table in subst P (sym is) (omega arith)
work_set (x ∷ types) (o ∷ table) (suc i) e a b is = omega (arith, work_set types table i e (omega arith) (omega arith) is)

-- ---- the state of a visit

-- a type that is already in the table
pub visited_before : (s : Space) (i : ℕ) (table : Table) (from : ℕ) → Knows s table → IsSome (entry table i) → IsFilled s i table table from from
visited_before s i table from knows is = record {
  knows = knows;
  known = is;
  keeps = record { same = λ j f h. h };
  fills = record { from = λ m none some. absurd (none_is_not (entry table m) none some) };
  steps = omega arith;
}

pub begun : (s : Space) (i : ℕ) (table : Table) (from to : ℕ) → Knows s table → to ≡ from → IsUnderway s i table table from to
begun s i table from to knows le = record {
  knows = knows;
  keeps = record { same = λ j f h. h };
  fills = record { below = λ m none some. absurd (none_is_not (entry table m) none some) };
  steps = omega arith;
}

-- some more steps
pub more_steps : (s : Space) (i : ℕ) (before now : Table) (from to more : ℕ) → IsUnderway s i before now from to → more ≡ to + 1 → IsUnderway s i before now (from + 1) more
more_steps s i before now from to more a le = record { knows = a.knows; keeps = a.keeps; fills = a.fills; steps = let h = a.steps in omega arith }

fills_more : (es : List (List ℕ)) (i j : ℕ) (before mid after : Table) → FillsBelow es i before mid → LeadsOn es i j → FillsFrom es j mid after → (m : ℕ) → entry before m ≡ None → IsSome (entry after m) → (o : Option Extent) → entry mid m ≡ o → LeadsOn es i m
fills_more es i j before mid after a step b m none some None is = at (b.from m is some)
  where
    at : (m ≡ j) ⊎ LeadsOn es j m → LeadsOn es i m
    at (inl same) = rw same step
    at (inr h) = leads_leads es i j m step h
fills_more es i j before mid after a step b m none some (Some e) is = a.below m none (rw is refl)

-- one of its targets was visited
pub visited_one : (s : Space) (i j : ℕ) (before mid after : Table) (from mid_steps to : ℕ) → IsUnderway s i before mid from mid_steps → LeadsOn (value_edges s.own) i j → IsFilled s j mid after mid_steps to → IsUnderway s i before after from to
visited_one s i j before mid after from mid_steps to a step b = record {
  knows = b.knows;
  keeps = record { same = λ k f h. b.keeps.same k f (a.keeps.same k f h) };
  fills = record { below = λ m none some. fills_more (value_edges s.own) i j before mid after a.fills step b.fills m none some (entry mid m) refl };
  steps = let h = a.steps in let k = b.steps in omega arith;
}

-- ---- the end of a visit

still_none : (s : Space) (k i : ℕ) (before now : Table) → IsWithin (value_edges s.own) k i → entry before i ≡ None → FillsBelow (value_edges s.own) i before now → (o : Option Extent) → entry now i ≡ o → entry now i ≡ None
still_none s k i before now w none a None is = is
still_none s k i before now w none a (Some e) is = absurd (not_itself (value_edges s.own) i k w (a.below i none (rw is refl)))

knows_set : (s : Space) (i : ℕ) (now : Table) (e : Extent) → i < length now → IsExtent s (own_number s.own.child i) e → Knows s now → (j : ℕ) (f : Extent) → (j ≡ i) ⊎ (j ≢ i) → get_or (set now i (Some e)) j None ≡ Some f → IsExtent s (own_number s.own.child j) f
knows_set s i now e lt right knows j f (inl same) is =
    let there : get_or (set now i (Some e)) j None ≡ Some e = get_or-set_at now i j (Some e) None same lt in
    let f_is : e ≡ f = cc in
    rw same (subst (IsExtent s (own_number s.own.child i)) f_is right)
knows_set s i now e lt right knows j f (inr other) is = knows.right j f (sym (get_or-set_other now i j (Some e) None other) ∙ is)

keeps_set : (i : ℕ) (before now : Table) (e : Extent) → entry before i ≡ None → Keeps before now → (j : ℕ) (f : Extent) → (j ≡ i) ⊎ (j ≢ i) → entry before j ≡ Some f → get_or (set now i (Some e)) j None ≡ Some f
keeps_set i before now e none keeps j f (inl same) is =
    let there : entry before i ≡ Some f = rw same at is in
    absurd cc
keeps_set i before now e none keeps j f (inr other) is = get_or-set_other now i j (Some e) None other ∙ keeps.same j f is

fills_set : (es : List (List ℕ)) (i : ℕ) (before now : Table) (e : Extent) → FillsBelow es i before now → (m : ℕ) → entry before m ≡ None → (m ≡ i) ⊎ (m ≢ i) → IsSome (get_or (set now i (Some e)) m None) → (m ≡ i) ⊎ LeadsOn es i m
fills_set es i before now e a m none (inl same) some = inl same
fills_set es i before now e a m none (inr other) some =
    let o : get_or (set now i (Some e)) m None ≡ get_or now m None = get_or-set_other now i m (Some e) None other in
    inr (a.below m none (rw o at some))

pub visited : (s : Space) (k i : ℕ) (before now : Table) (from all to : ℕ) (e : Extent) → IsWithin (value_edges s.own) k i → i < length s.own.terms → i < length now → entry before i ≡ None → all ≡ from + (1 + members_read (own_body s.own i)) → IsExtent s (own_number s.own.child i) e → IsUnderway s i before now all to → IsFilled s i before (slice_set now i (Some e)) from to
visited s k i before now from all to e w inside lt none cost right a =
    let here : entry now i ≡ None = still_none s k i before now w none a.fills (entry now i) refl in
    record {
      knows = record { right = λ j f is. knows_set s i now e lt right a.knows j f (same_or_not j i) is };
      known = let there : entry (slice_set now i (Some e)) i ≡ Some e = get_or-set_at now i i (Some e) None refl lt in rw there refl;
      keeps = record { same = λ j f is. keeps_set i before now e none a.keeps j f (same_or_not j i) is };
      fills = record { from = λ m unknown some. fills_set (value_edges s.own) i before now e a.fills m unknown (same_or_not m i) some };
      steps = let h = a.steps in let paid : work_left s.own.terms (set now i (Some e)) + (1 + members_read (own_body s.own i)) ≡ work_left s.own.terms now = work_set s.own.terms now i e inside lt here in omega arith;
    }

-- the entry for a number is that of the own type that it names
pub kept_at_number : (s : Space) (t j : ℕ) (before after : Table) (from to : ℕ) (x : KeptExtent) → t ≡ own_number s.own.child j → IsFilled s j before after from to → entry after j ≡ extent_kept x → IsKept s t x
kept_at_number s t j before after from to x is h said = go (entry after j) refl h.known
  where
    go : (o : Option Extent) → entry after j ≡ o → IsSome o → IsKept s t x
    go None at some = let f : false ≡ true = some in absurd cc
    go (Some e) at some = record { extent = e; kept = sym said ∙ at; right = rw is (h.knows.right j e at) }

-- a newly stored extent is correct
pub kept_new : (s : Space) (t : ℕ) (e : Extent) (x : KeptExtent) → extent_kept x ≡ Some e → IsExtent s t e → IsKept s t x
kept_new s t e x kept right = record { extent = e; kept = kept; right = right }

-- the entry of a type with the extent of another
pub kept_as_one : (n : ℕ) (row : Option Row) (x : KeptExtent) (e : Extent) → row ≡ None → extent_kept x ≡ Some e → IsByKept n row e x
kept_as_one n row x e is h = rw is (record { extent = e; kept = h; by = record { size = refl; align = refl; target = refl } })

-- the entry of a type that is a row of another
pub kept_of_row : (number : TypeNum) (row : Row) (element x : KeptExtent) (e f : Extent) (size : Amount) → extent_kept element ≡ Some e → amount size ≡ row_size (Some row) (amount e.size) → extent_kept x ≡ Some (itself size e.align number) → extent_kept element ≡ Some f → IsByKept number.0 (Some row) f x
kept_of_row number row element x e f size here is kept there =
    let same : e ≡ f = same_Some e f (sym here ∙ there) in
    let P : Extent → Type 0 = λ g. IsByKept number.0 (Some row) g x in
    subst P same (record { extent = itself size e.align number; kept = kept; by = record { size = is; align = refl; target = refl } })
