-- Chains of types that name each other are the chains of their edges.
use Rattle.std.proofs.Common.{◌≡◌, ℕ, zero, suc, ◌<◌, ◌≤◌, Bool, true, false, eqb, ltb, List, [], ◌∷◌, length, map, Option, Some, None, refl, sym, ap, subst, ◌∙◌, arith, ◌⊎◌, inl, inr, ⊎_elim}
use Rattle.std.specs.Prelude.{◌&&◌, Any, slice_get}
use Rattle.std.specs.List.{cons_option, filter_map, list_all, AllByRecursion}
use Rattle.std.proofs.Math.ListN.{get_or-eq_default}
use Rattle.std.proofs.lemmas.Bool.{ltb-true, lt-ltb}
use Rattle.std.proofs.lemmas.List.{get_or-map, length-map}
use Rattle.std.proofs.lemmas.Option.{same_Some, cond_some, slice_get_within, slice_get_cases, get_or_from_slice_get}
use Rattle.ctf_model.specs.rules.Chains.{edges, own_index, own_index_at, targets, IsWithin, Leads, BeginsChain, within}
use Rattle.ctf_model.specs.declared.numbers.Place.{Place}
use Rattle.ctf_model.specs.declared.numbers.Place.TheVariants.{Nowhere, Own, Parents}
use Rattle.ctf_model.specs.format.Term.{Body, Term}
use Rattle.ctf_model.specs.spaces.TypePlaces.{place}
use Rattle.ctf_model.proofs.Anywhere.{any_none, any_here, any_there, any_split}

-- ---- steps

-- own type `j` is among those that the numbers name
names_own : (child : Bool) (count j : ℕ) (ns : List ℕ) (P : ℕ → Type 0) → j < count → Any (λ n. place child n ≡ Own j) ns → AllByRecursion P (filter_map (own_index child count) ns) → P j
names_own child count j [] P inside a all = absurd (any_none _ a)
names_own child count j (n ∷ ns) P inside a all = at (any_split _ n ns a) (names_own child count j ns P inside) (own_index child count n) refl all
  where
    at : (place child n ≡ Own j) ⊎ Any (λ m. place child m ≡ Own j) ns → (Any (λ m. place child m ≡ Own j) ns → AllByRecursion P (filter_map (own_index child count) ns) → P j) → (o : Option ℕ) → own_index child count n ≡ o → AllByRecursion P (cons_option o (filter_map (own_index child count) ns)) → P j
    at (inl e) later None is all = let test = lt-ltb j count inside in let some : own_index child count n ≡ Some j = rw (e, test) refl in absurd cc
    at (inl e) later (Some i) is all = let test = lt-ltb j count inside in let some : own_index child count n ≡ Some j = rw (e, test) refl in let same : i ≡ j = same_Some i j (sym is ∙ some) in subst P same all.0
    at (inr b) later None is all = later b all
    at (inr b) later (Some i) is all = later b all.1

-- the number of an own type determines its place and index
own_named : (child : Bool) (count n j : ℕ) → own_index child count n ≡ Some j → (place child n ≡ Own j) × (j < count)
own_named child count n j e = at (place child n) refl e
  where
    at : (p : Place) → place child n ≡ p → own_index_at count p ≡ Some j → (place child n ≡ Own j) × (j < count)
    at Nowhere is e = absurd cc
    at (Own i) is e = let both = cond_some (ltb i count) i j e in (is ∙ ap Own both.1, subst (λ (k : ℕ). k < count) both.1 (ltb-true i count both.0))
    at (Parents i) is e = absurd cc

-- an own type that fails the test, and a number that names it
abbrev Failing : Bool → ℕ → (ℕ → Bool) → List ℕ → Type 0
Failing child count test ns = (j : ℕ) × Any (λ n. place child n ≡ Own j) ns × (j < count) × (test j ≡ false)

-- if one of the named own types fails the test, there is such a type and number
one_fails : (child : Bool) (count : ℕ) (test : ℕ → Bool) (ns : List ℕ) → list_all test (filter_map (own_index child count) ns) ≡ false → Failing child count test ns
one_fails child count test [] e = absurd cc
one_fails child count test (n ∷ ns) e = at (own_index child count n) refl e (one_fails child count test ns)
  where
    later : Failing child count test ns → Failing child count test (n ∷ ns)
    later f = (f.0, any_there _ n ns f.1, f.2, f.3)

    first : (j : ℕ) → own_index child count n ≡ Some j → (t : Bool) → test j ≡ t → (t && list_all test (filter_map (own_index child count) ns)) ≡ false → (list_all test (filter_map (own_index child count) ns) ≡ false → Failing child count test ns) → Failing child count test (n ∷ ns)
    first j is true pass e rest = later (rest e)
    first j is false fail e rest = let named = own_named child count n j is in (j, any_here _ n ns named.0, named.1, fail)

    at : (o : Option ℕ) → own_index child count n ≡ o → list_all test (cons_option o (filter_map (own_index child count) ns)) ≡ false → (list_all test (filter_map (own_index child count) ns) ≡ false → Failing child count test ns) → Failing child count test (n ∷ ns)
    at None is e rest = later (rest e)
    at (Some j) is e rest = first j is (test j) refl e rest

-- the own types that a type leads to are those that its numbers name
pub targets_of : (steps : Body → List ℕ) (child : Bool) (types : List Term) (i : ℕ) (x : Term) → slice_get types i ≡ Some x → targets (edges steps child types) i ≡ filter_map (own_index child (length types)) (steps x.body)
unfolding edges
targets_of steps child types i x e =
    get_or-map (λ (y : Term). filter_map (own_index child (length types)) (steps y.body)) types i x [] (slice_get_within types i x e)
    ∙ ap (λ (y : Term). filter_map (own_index child (length types)) (steps y.body)) (get_or_from_slice_get types i x x e)

-- beyond the last type there are none
targets_past : (steps : Body → List ℕ) (child : Bool) (types : List Term) (i : ℕ) → length types ≤ i → targets (edges steps child types) i ≡ []
unfolding edges
targets_past steps child types i le = get_or-eq_default (map (λ (y : Term). filter_map (own_index child (length types)) (steps y.body)) types) [] {n = i} (omega (arith, length-map types (λ (y : Term). filter_map (own_index child (length types)) (steps y.body))))

-- a step leads to one of the type's targets
steps_to : (steps : Body → List ℕ) (child : Bool) (types : List Term) (i j : ℕ) (P : ℕ → Type 0) → Leads steps child types i j → AllByRecursion P (targets (edges steps child types) i) → P j
steps_to steps child types i j P l all = names_own child (length types) j (steps l.from.body) P l.inside l.names (subst (AllByRecursion P) (targets_of steps child types i l.from l.stands) all)

-- if not all targets pass the test, a step leads to one that fails
fails_next : (steps : Body → List ℕ) (child : Bool) (types : List Term) (i : ℕ) (test : ℕ → Bool) → list_all test (targets (edges steps child types) i) ≡ false → (j : ℕ) × Leads steps child types i j × (test j ≡ false)
fails_next steps child types i test e = ⊎_elim (λ h. at h.0 h.2) (λ h. past h.0) (slice_get_cases types i).1
  where
    past : length types ≤ i → (j : ℕ) × Leads steps child types i j × (test j ≡ false)
    past le = let none = ap (list_all test) (targets_past steps child types i le) in absurd cc

    at : (x : Term) → slice_get types i ≡ Some x → (j : ℕ) × Leads steps child types i j × (test j ≡ false)
    at x here =
        let f = one_fails child (length types) test (steps x.body) (sym (ap (list_all test) (targets_of steps child types i x here)) ∙ e) in
        (f.0, record { from = x; stands = here; names = f.1; inside = f.2 }, f.3)

-- ---- chains

-- a non-empty list does not pass the test that is always false
some_fail : (js : List ℕ) → eqb (length js) 0 ≡ false → list_all (λ j. false) js ≡ false
some_fail [] e = absurd cc
some_fail (j ∷ js) e = refl

-- if the test for `k` steps fails, a chain of `k + 1` steps begins
pub chain_begins : (steps : Body → List ℕ) (child : Bool) (types : List Term) (k i : ℕ) → within (edges steps child types) k i ≡ false → BeginsChain steps child types (suc k) i
unfolding within BeginsChain
chain_begins steps child types zero i e = let f = fails_next steps child types i (λ j. false) (some_fail (targets (edges steps child types) i) e) in (f.0, f.1, tt)
chain_begins steps child types (suc k) i e = let f = fails_next steps child types i (within (edges steps child types) k) e in (f.0, f.1, chain_begins steps child types k f.0 f.2)

-- a type with a chain of more than `k` steps is not within `k`
pub chain_past : (steps : Body → List ℕ) (child : Bool) (types : List Term) (k i : ℕ) → BeginsChain steps child types (suc k) i → IsWithin (edges steps child types) k i → ⊥
unfolding IsWithin BeginsChain
chain_past steps child types zero i c w = steps_to steps child types i c.0 (λ j. ⊥) c.1 (rw w tt)
chain_past steps child types (suc k) i c w = chain_past steps child types k c.0 c.2 (steps_to steps child types i c.0 (IsWithin (edges steps child types) k) c.1 w)

-- a chain begins at an existing type
pub chain_inside : (steps : Body → List ℕ) (child : Bool) (types : List Term) (k i : ℕ) → BeginsChain steps child types (suc k) i → i < length types
unfolding BeginsChain
chain_inside steps child types k i c = slice_get_within types i c.1.from c.1.stands
