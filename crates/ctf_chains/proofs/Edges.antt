-- The places of a section's records have the same targets as the steps of its types.
use Rattle.std.proofs.Common.{◌≡◌, ℕ, suc, ◌+◌, ◌<◌, Bool, true, false, cond, ltb, List, [], ◌∷◌, length, map, Option, Some, None, Result, Ok, Err, get_or, refl, sym, ap, ◌∙◌}
use Rattle.std.specs.Prelude.{IsSome, slice_get, slice_index, slice_index_or, MatchOption}
use Rattle.std.specs.List.{filter_map}
use Rattle.std.proofs.Math.ListN as listn
use Rattle.std.proofs.lemmas.Bool.{ltb-true}
use Rattle.std.proofs.lemmas.List.{length-map, get_or-map}
use Rattle.std.proofs.lemmas.List.Sums.{sum_by-cons}
use Rattle.std.proofs.lemmas.Option.{get_or_from_slice_get}
use Rattle.ctf_model.specs.rules.Chains.{own_index_at, own_index, edges}
use Rattle.ctf_model.specs.spaces.TypePlaces.{place}
use Rattle.ctf_model.specs.declared.numbers.Place.{Place}
use Rattle.ctf_model.specs.declared.numbers.Place.TheVariants.{Nowhere, Own, Parents}
use Rattle.ctf_model.specs.rules.Faults.{walk_fault}
use Rattle.ctf_model.specs.format.Name.{Tables}
use Rattle.ctf_model.specs.format.Section.{Piece, onto, terms_in}
use Rattle.ctf_model.specs.format.Spelling.{term_of}
use Rattle.ctf_model.specs.format.Term.{Term}
use Rattle.ctf_model.specs.declared.faults.Fault.{Fault}
use Rattle.ctf_chains.specs.Numbers.{numbers, record_places, section_places}
use Rattle.ctf_chains.specs.Places.{places_at, led_to, steps_between, full_work}
use Rattle.ctf_chains.specs.Starts.{starts_in}
use Rattle.ctf_chains.specs.Steps.{steps, steps_work, AreSpelled}
use Rattle.ctf_chains.specs.declared.chain.Chain.{Chain}
use Rattle.ctf_chains.proofs.Begins.{starts_count}
use Rattle.ctf_chains.proofs.SpelledNumbers.{spelled_numbers}

-- ---- one record

led_more : (o : Option ℕ) (xs : List (Option ℕ)) (h : ℕ → Option ℕ) (n : ℕ) (ns : List ℕ) → h n ≡ o → led_to xs ≡ filter_map h ns → led_to (o ∷ xs) ≡ filter_map h (n ∷ ns)
led_more None xs h n ns here e = rw here e
led_more (Some i) xs h n ns here e = rw here (ap (λ (is : List ℕ). i ∷ is) e)

-- numbers lead to the own types that they name
led_by_numbers : (h : ℕ → Option ℕ) (ns : List ℕ) → led_to (map h ns) ≡ filter_map h ns
led_by_numbers h [] = refl
led_by_numbers h (n ∷ ns) = led_more (h n) (map h ns) h n ns refl (led_by_numbers h ns)

-- a record leads to the targets of the type that it spells
led_by_type : (chain : Chain) (child : Bool) (count : ℕ) (t : Tables) (p : Piece) (x : Term) → term_of t p.bytes ≡ Some x → led_to (record_places chain child count (Ok p)) ≡ filter_map (own_index child count) (steps chain x.body)
led_by_type chain child count t p x e = led_by_numbers (own_index child count) (numbers chain p.bytes) ∙ ap (filter_map (own_index child count)) (sym (spelled_numbers chain t p.bytes x e))

-- ---- all records

-- there are as many types as records
types_count : (t : Tables) (rs : List (Result Piece Fault)) → walk_fault rs ≡ None → AreSpelled t rs → length (terms_in t rs) ≡ length rs
unfolding terms_in
types_count t [] whole spelled = refl
types_count t (Ok p ∷ rs) whole spelled = at (term_of t p.bytes) spelled.0 (types_count t rs whole spelled.1)
  where
    at : (o : Option Term) → IsSome o → length (terms_in t rs) ≡ length rs → length (onto o (terms_in t rs)) ≡ suc (length rs)
    at None some e = let h : false ≡ true = some in absurd cc
    at (Some x) some e = ap suc e
types_count t (Err f ∷ rs) whole spelled = absurd cc

led_all : (chain : Chain) (child : Bool) (count : ℕ) (t : Tables) (rs : List (Result Piece Fault)) → walk_fault rs ≡ None → AreSpelled t rs → steps_between (map (record_places chain child count) rs) ≡ map (λ x. filter_map (own_index child count) (steps chain x.body)) (terms_in t rs)
unfolding terms_in
led_all chain child count t [] whole spelled = refl
led_all chain child count t (Ok p ∷ rs) whole spelled = at (term_of t p.bytes) refl spelled.0 (led_all chain child count t rs whole spelled.1)
  where
    at : (o : Option Term) → term_of t p.bytes ≡ o → IsSome o → steps_between (map (record_places chain child count) rs) ≡ map (λ x. filter_map (own_index child count) (steps chain x.body)) (terms_in t rs) → led_to (record_places chain child count (Ok p)) ∷ steps_between (map (record_places chain child count) rs) ≡ map (λ x. filter_map (own_index child count) (steps chain x.body)) (onto o (terms_in t rs))
    at None here some e = let h : false ≡ true = some in absurd cc
    at (Some x) here some e =
        let front : led_to (record_places chain child count (Ok p)) ≡ filter_map (own_index child count) (steps chain x.body) = led_by_type chain child count t p x here in
        ap (λ (js : List ℕ). js ∷ steps_between (map (record_places chain child count) rs)) front
        ∙ ap (λ (jss : List (List ℕ)). filter_map (own_index child count) (steps chain x.body) ∷ jss) e
led_all chain child count t (Err f ∷ rs) whole spelled = absurd cc

-- the steps between the records are those between their types
pub steps_are : (chain : Chain) (child : Bool) (t : Tables) (rs : List (Result Piece Fault)) → walk_fault rs ≡ None → AreSpelled t rs → steps_between (section_places chain child rs) ≡ edges (steps chain) child (terms_in t rs)
unfolding edges
steps_are chain child t rs whole spelled = rw (types_count t rs whole spelled) (led_all chain child (length rs) t rs whole spelled)

-- ---- work

-- the work for a record is that for its type
work_by_type : (chain : Chain) (child : Bool) (count : ℕ) (t : Tables) (p : Piece) (x : Term) → term_of t p.bytes ≡ Some x → length (record_places chain child count (Ok p)) ≡ length (steps chain x.body)
work_by_type chain child count t p x e = length-map (numbers chain p.bytes) (own_index child count) ∙ ap length (sym (spelled_numbers chain t p.bytes x e))

work_all : (chain : Chain) (child : Bool) (count : ℕ) (t : Tables) (rs : List (Result Piece Fault)) → walk_fault rs ≡ None → AreSpelled t rs → full_work (map (record_places chain child count) rs) ≡ steps_work (steps chain) (terms_in t rs)
unfolding terms_in
work_all chain child count t [] whole spelled = refl
work_all chain child count t (Ok p ∷ rs) whole spelled = at (term_of t p.bytes) refl spelled.0 (work_all chain child count t rs whole spelled.1)
  where
    at : (o : Option Term) → term_of t p.bytes ≡ o → IsSome o → full_work (map (record_places chain child count) rs) ≡ steps_work (steps chain) (terms_in t rs) → 1 + length (record_places chain child count (Ok p)) + full_work (map (record_places chain child count) rs) ≡ steps_work (steps chain) (onto o (terms_in t rs))
    at None here some e = let h : false ≡ true = some in absurd cc
    at (Some x) here some e =
        let front : length (record_places chain child count (Ok p)) ≡ length (steps chain x.body) = work_by_type chain child count t p x here in
        ap (λ (n : ℕ). 1 + n + full_work (map (record_places chain child count) rs)) front
        ∙ ap (λ (n : ℕ). 1 + length (steps chain x.body) + n) e
        ∙ sym (sum_by-cons (λ (y : Term). 1 + length (steps chain y.body)) x (terms_in t rs))
work_all chain child count t (Err f ∷ rs) whole spelled = absurd cc

-- the work for the records is that for their types
pub work_is : (chain : Chain) (child : Bool) (t : Tables) (rs : List (Result Piece Fault)) → walk_fault rs ≡ None → AreSpelled t rs → full_work (section_places chain child rs) ≡ steps_work (steps chain) (terms_in t rs)
work_is chain child t rs whole spelled = work_all chain child (length rs) t rs whole spelled

-- ---- the places of one record

-- the places of record `i`
pub places_are : (chain : Chain) (child : Bool) (rs : List (Result Piece Fault)) (i : ℕ) (p : Piece) → slice_get rs i ≡ Some (Ok p) → places_at (section_places chain child rs) i ≡ map (own_index child (length rs)) (numbers chain p.bytes)
places_are chain child rs i p e =
    let none : Result Piece Fault = Err (record { code = 0; place = 0 }) in
    let here : get_or rs i none ≡ Ok p = get_or_from_slice_get rs i (Ok p) none e in
    listn.get_or-map (record_places chain child (length rs)) rs i none ∙ ap (record_places chain child (length rs)) here

-- the place at index `k`
pub place_in : (child : Bool) (count : ℕ) (ns : List ℕ) (k : ℕ) → k < length ns → slice_index_or (map (own_index child count) ns) k None ≡ own_index child count (slice_index ns k)
place_in child count ns k lt = get_or-map (own_index child count) ns k 0 None lt

-- ---- as many as there are types

-- there are as many offsets as records with places
pub places_count : (chain : Chain) (child : Bool) (rs : List (Result Piece Fault)) (starts : List ℕ) → walk_fault rs ≡ None → starts ≡ starts_in rs → length starts ≡ length (section_places chain child rs)
places_count chain child rs starts whole begin = ap length begin ∙ starts_count rs whole ∙ sym (length-map rs (record_places chain child (length rs)))

-- an own type's index is in range
pub own_inside : (child : Bool) (count n : ℕ) → MatchOption (own_index child count n) (Unit {0}) (λ j. j < count)
own_inside child count n = at (place child n)
  where
    at : (p : Place) → MatchOption (own_index_at count p) (Unit {0}) (λ j. j < count)
    at Nowhere = tt
    at (Parents i) = tt
    at (Own i) = there i (ltb i count) refl
      where
        there : (i : ℕ) (test : Bool) → ltb i count ≡ test → MatchOption (cond test (Some i) None) (Unit {0}) (λ j. j < count)
        there i false e = tt
        there i true e = ltb-true i count e
