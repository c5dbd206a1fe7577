-- Stored tables and look-ups in them.
use Rattle.std.proofs.Common.{◌≡◌, ℕ, zero, suc, ◌≤◌, ◌<◌, Bool, true, false, cond, ltb, get_or, List, length, Option, Some, None, refl, sym, ap, subst, ◌∙◌, ◌⊎◌, inl, inr, arith}
use Rattle.std.specs.Prelude.{IsSome, replicate, slice_get}
use Rattle.std.specs.Option.{ForSome, is_some, option_map}
use Rattle.std.proofs.lemmas.Bool.{ltb-true}
use Rattle.std.proofs.lemmas.List.{get_or-map, length-map}
use Rattle.std.proofs.lemmas.Option.{get_or_from_slice_get, same_Some, slice_get-map, slice_get_cases, slice_get_within}
use Rattle.ctf_model.specs.rules.Chains.{own_index}
use Rattle.ctf_model.specs.format.Dictionary.{Dictionary}
use Rattle.ctf_model.specs.figures.FigureLaws.{parent_alone}
use Rattle.ctf_model.specs.spaces.Space.{Space}
use Rattle.ctf_model.specs.spaces.TypePlaces.{own_number, place}
use Rattle.ctf_model.specs.declared.numbers.Place.TheVariants.{Own, Parents}
use Rattle.ctf_model.proofs.OwnTypes.{own_place, own_positive, parents_place, place_of_own}
use Rattle.ctf_layout.specs.Extents.{IsExtent, IsParentsExtent, refusal_extent}
use Rattle.ctf_layout.specs.Fitting.{Fits}
use Rattle.ctf_layout.specs.Kept.{AreExtents, extent_kept, extent_of_kept, table_kept}
use Rattle.ctf_layout.specs.Over.{OverParent}
use Rattle.ctf_layout.specs.SmallExtents.{extent_at, extents_in, or_no_type, extents_of_wide}
use Rattle.ctf_layout.specs.Table.{IsWhole, Knows, Table, entry}
use Rattle.ctf_layout.specs.declared.entry.KeptExtent.{KeptExtent}
use Rattle.ctf_layout.specs.declared.extents.Extent.{Extent}
use Rattle.ctf_layout.specs.declared.extents.Refusal.TheVariants.{NoParent, NoType}
use Rattle.ctf_layout.specs.declared.layout.Layout.{Layout}
use Rattle.ctf_layout.proofs.Elsewhere.{extent_of_missing}
use Rattle.ctf_layout.proofs.Entries.{known_is_said}

-- ---- a stored table

-- the table has the extent of each entry at its index
entry_said : (entries : List KeptExtent) (i : ℕ) (x : KeptExtent) → slice_get entries i ≡ Some x → entry (table_kept entries) i ≡ extent_kept x
entry_said entries i x got = get_or_from_slice_get (table_kept entries) i (extent_kept x) None (slice_get-map extent_kept entries i ∙ ap (option_map extent_kept) got)

-- the same for an entry that was looked up
pub entry_at : (entries : List KeptExtent) (i : ℕ) (x : KeptExtent) → i < length entries → x ≡ get_or entries i x → entry (table_kept entries) i ≡ extent_kept x
entry_at entries i x lt is = get_or-map extent_kept entries i x None lt ∙ ap extent_kept (sym is)

-- a table of open entries has no extents
pub all_open : (x : KeptExtent) (n j : ℕ) → extent_kept x ≡ None → entry (table_kept (replicate n x)) j ≡ None
all_open x zero j none = refl
all_open x (suc n) zero none = none
all_open x (suc n) (suc j) none = all_open x n j none

-- the extent that a full table has for a type
said : (s : Space) (table : Table) (i : ℕ) (x : KeptExtent) → Knows s table → entry table i ≡ extent_kept x → IsSome (extent_kept x) → IsExtent s (own_number s.own.child i) (extent_of_kept x)
said s table i x knows is some =
    let known : extent_kept x ≡ Some (extent_of_kept x) = known_is_said x.sized (extent_of_kept x) some in
    knows.right i (extent_of_kept x) (is ∙ known)

-- a full table has the extents of all types
pub extents_of_full_table : (s : Space) (table : List KeptExtent) → length table ≡ length s.own.terms → IsWhole s (table_kept table) → AreExtents s (extents_of_wide table)
extents_of_full_table s table same whole = record {
  count = length-map table extent_of_kept ∙ same;
  right = λ i e got. at i e (slice_get table i) refl (sym (slice_get-map extent_of_kept table i) ∙ got);
}
  where
    at : (i : ℕ) (e : Extent) (found : Option KeptExtent) → slice_get table i ≡ found → option_map extent_of_kept found ≡ Some e → IsExtent s (own_number s.own.child i) e
    at i e None is got = absurd cc
    at i e (Some x) is got =
        let here = entry_said table i x is in
        let inside : i < length s.own.terms = omega (arith, same, slice_get_within table i x is) in
        let same_one : extent_of_kept x ≡ e = same_Some _ _ got in
        rw (sym same_one) (said s (table_kept table) i x whole.knows here (rw here at (whole.each i inside)))

-- ---- look-ups

-- an index beyond the count is no own type
not_own : (child : Bool) (count n i : ℕ) → place child n ≡ Own i → count ≤ i → own_index child count n ≡ None
not_own child count n i at past = rw at (go (ltb i count) refl)
  where
    go : (b : Bool) → ltb i count ≡ b → cond b (Some i) None ≡ None
    go true e = let lt : i < count = ltb-true i count e in absurd (omega arith)
    go false e = refl

-- the extent of an own type, or of a number after the last one
pub own_extent : (s : Space) (extents : List Extent) → AreExtents s extents → (n i : ℕ) → place s.own.child n ≡ Own i → (e : Extent) → e ≡ extent_at extents i → IsExtent s n e
own_extent s extents are n i at e is = rw is (go (slice_get_cases extents i).1)
  where
    go : ((x : Extent) × (i < length extents) × (slice_get extents i ≡ Some x) × (get_or extents i x ≡ x)) ⊎ ((length extents ≤ i) × (slice_get extents i ≡ None)) → IsExtent s n (or_no_type (slice_get extents i))
    go (inl h) =
        let P : ℕ → Type 0 = λ m. IsExtent s m h.0 in
        rw h.2 (subst P (sym (own_place s.own.child n i at)) (are.right i h.0 h.2))
    go (inr h) =
        let past : length s.own.terms ≤ i = omega (arith, are.count, h.0) in
        rw h.1 (extent_of_missing s n (refusal_extent NoType) (own_positive s.own.child n i at) (λ j other. let clash : Own i ≡ Parents j = sym at ∙ other in absurd cc) (not_own s.own.child (length s.own.terms) n i at past) refl)

-- ---- over a parent

-- a parent's type, in the parent's own table
pub in_parents_table : (s : Space) (extents : List Extent) → OverParent s (Some extents) → (n i : ℕ) → place s.own.child n ≡ Parents i → (e : Extent) → e ≡ extent_at extents i → IsParentsExtent s n e
in_parents_table s extents over n i at e is = go s.parent refl
  where
    go : (parent : Option Dictionary) → s.parent ≡ parent → IsParentsExtent s n e
    go None none = let both = over.both in let clash : true ≡ false = rw none at both in absurd cc
    go (Some p) some =
        let plain = over.plain p some in
        let first = own_place_plain n i at in
        let h = own_extent (parent_alone s p) extents (over.right p some extents refl) n i (rw plain first) e is in
        rw some (record { sized = h.sized; aligned = h.aligned; resolves = h.resolves })
      where
        own_place_plain : (n i : ℕ) → place s.own.child n ≡ Parents i → place false n ≡ Own i
        own_place_plain n i at = let number = parents_place s.own.child n i at in rw number (place_of_own false i)

-- a parent's type, if there is no parent
pub in_no_table : (s : Space) → OverParent s None → (n : ℕ) (e : Extent) → e ≡ refusal_extent NoParent → IsParentsExtent s n e
in_no_table s over n e is = rw is (go s.parent refl)
  where
    go : (parent : Option Dictionary) → s.parent ≡ parent → IsParentsExtent s n (refusal_extent NoParent)
    go None none = rw none (record { sized = refl; aligned = refl; resolves = refl })
    go (Some p) some = let both = over.both in let clash : false ≡ true = rw some at both in absurd cc

-- the parent's own layout serves a child
pub over_shared : (s : Space) (l : Layout) → ForSome s.parent (λ p. Fits (parent_alone s p) l) → ForSome s.parent (λ p. p.child ≡ false) → is_some s.parent ≡ true → OverParent s (Some (extents_in l.own.value))
over_shared s l fits plain some = record { both = sym some; plain = plain; right = λ p is es same. let h = fits p is in let one : extents_in l.own.value ≡ es = same_Some _ _ same in rw (sym one) h.own }

pub over_none : (s : Space) → is_some s.parent ≡ false → OverParent s None
over_none s none = record { both = sym none; plain = λ p is. let clash : true ≡ false = rw is at none in absurd cc; right = λ p is es same. absurd cc }

pub same_some : {A B : Type 0} (f : A → B) (o : Option A) → is_some (option_map f o) ≡ is_some o
same_some f None = refl
same_some f (Some a) = refl
