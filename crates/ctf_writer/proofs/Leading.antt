-- Targets of the steps of a draft's types, and the first type with too long a chain.
use Rattle.std.proofs.Common.{◌≡◌, ℕ, ◌+◌, ◌<◌, Bool, List, [], ◌∷◌, length, map, get_or, Option, Some, None, refl, sym, ap, subst, ◌∙◌, arith}
use Rattle.std.specs.List.{filter_map}
use Rattle.std.specs.Option.{option_map}
use Rattle.std.proofs.lemmas.List.{length-map, get_or-map}
use Rattle.ctf_model.proofs.ChainRules.{DeepFrom, deep_agrees}
use Rattle.ctf_model.proofs.FirstFault.{Agrees}
use Rattle.ctf_model.specs.rules.Chains.{edges, own_index, longest_chain}
use Rattle.ctf_model.specs.rules.Faults.{first_deep}
use Rattle.ctf_model.specs.format.Term.{Body, Term}
use Rattle.ctf_chains.specs.Deep.{IsLeastDeep}
use Rattle.ctf_chains.specs.Places.{led_to, steps_between}
use Rattle.ctf_chains.specs.Steps.{steps}
use Rattle.ctf_chains.specs.declared.chain.Chain.{Chain}
use Rattle.ctf_chains.specs.declared.chain.Chain.TheVariants.{ByValue}
use Rattle.ctf_draft.specs.declared.types.AggregateKind.{AggregateKind}
use Rattle.ctf_draft.specs.declared.types.AggregateKind.TheVariants.{Struct, Union}
use Rattle.ctf_writer.specs.Leading.{type_places, draft_places}
use Rattle.ctf_draft.specs.TypeView.{aggregate_body, body_of, member_of, type_of}
use Rattle.ctf_writer.specs.DraftContentView.{dictionary_of}
use Rattle.ctf_writer.specs.declared.draft_view.DraftContent.{DraftContent}
use Rattle.ctf_model.specs.writing.Written.{deep_by}
use Rattle.ctf_draft.specs.declared.types.DraftType.{DraftType}
use Rattle.ctf_draft.specs.declared.types.Member.{Member}

-- as in ctf_chains
led_more : (o : Option ℕ) (xs : List (Option ℕ)) (h : ℕ → Option ℕ) (n : ℕ) (ns : List ℕ) → h n ≡ o → led_to xs ≡ filter_map h ns → led_to (o ∷ xs) ≡ filter_map h (n ∷ ns)
led_more None xs h n ns here e = rw here e
led_more (Some i) xs h n ns here e = rw here (ap (λ (is : List ℕ). i ∷ is) e)

led_by_numbers : (h : ℕ → Option ℕ) (ns : List ℕ) → led_to (map h ns) ≡ filter_map h ns
led_by_numbers h [] = refl
led_by_numbers h (n ∷ ns) = led_more (h n) (map h ns) h n ns refl (led_by_numbers h ns)

led_all : (chain : Chain) (child : Bool) (count : ℕ) (xs : List DraftType) → map led_to (map (type_places chain child count) xs) ≡ map (λ x. filter_map (own_index child count) (steps chain x.body)) (map type_of xs)
led_all chain child count [] = refl
led_all chain child count (x ∷ xs) =
    ap (λ (js : List ℕ). js ∷ map led_to (map (type_places chain child count) xs)) (led_by_numbers (own_index child count) (steps chain (body_of x.body)))
    ∙ ap (λ (jss : List (List ℕ)). filter_map (own_index child count) (steps chain (body_of x.body)) ∷ jss) (led_all chain child count xs)

-- the steps between a draft's types are those of the types in the definitions
pub steps_are : (chain : Chain) (child : Bool) (xs : List DraftType) → steps_between (draft_places chain child xs) ≡ edges (steps chain) child (map type_of xs)
unfolding edges
steps_are chain child xs = rw (length-map xs type_of) (led_all chain child (length xs) xs)

edges_length : (step : Body → List ℕ) (child : Bool) (xs : List Term) → length (edges step child xs) ≡ length xs
unfolding edges
edges_length step child xs = length-map xs (λ (x : Term). filter_map (own_index child (length xs)) (step x.body))

-- as in ctf_check: the first deep type, counted from 1, is the rule's place
deep_place : (es : List (List ℕ)) (r : Option ℕ) (found : Option ℕ) → Agrees r (DeepFrom es 0 (length es)) → IsLeastDeep es longest_chain found → r ≡ option_map (λ i. i + 1) found
deep_place es None None h d = refl
deep_place es None (Some i) h d = let inside = d.inside in absurd (h (i + 1) (i, omega arith, omega arith, d.deep, refl))
deep_place es (Some p) None h d = let high = h.0.2 in absurd (h.0.3 (d.each h.0.0 (omega arith)))
deep_place es (Some p) (Some i) h d = ap (λ (n : ℕ). Some n) same
  where
    not_less : h.0.0 < i → ⊥
    not_less lt = h.0.3 (d.before.each h.0.0 lt)

    not_more : i + 1 < p → ⊥
    not_more lt = let inside = d.inside in h.1 (i + 1) lt (i, omega arith, omega arith, d.deep, refl)

    same : p ≡ i + 1
    same = let is = h.0.4 in omega (arith, not_less, not_more)

-- the type that was found is at the rule's place
pub found_place : (chain : Chain) (child : Bool) (xs : List DraftType) (found : Option ℕ) → IsLeastDeep (steps_between (draft_places chain child xs)) longest_chain found → option_map (λ i. i + 1) found ≡ first_deep (edges (steps chain) child (map type_of xs)) 0 (length (map type_of xs))
found_place chain child xs found least =
    let es = edges (steps chain) child (map type_of xs) in
    let same = subst (λ (es : List (List ℕ)). IsLeastDeep es longest_chain found) (steps_are chain child xs) least in
    sym (ap (first_deep (edges (steps chain) child (map type_of xs)) 0) (sym (edges_length (steps chain) child (map type_of xs))) ∙ deep_place (edges (steps chain) child (map type_of xs)) (first_deep (edges (steps chain) child (map type_of xs)) 0 (length (edges (steps chain) child (map type_of xs)))) found (deep_agrees (edges (steps chain) child (map type_of xs)) 0 (length (edges (steps chain) child (map type_of xs)))) same)

-- the type of a member
pub member_step : (ms : List Member) (k : ℕ) (d : Member) → k < length (map (λ m. m.tnum) (map member_of ms)) → (get_or ms k d).tnum.0 ≡ get_or (map (λ m. m.tnum) (map member_of ms)) k 0
member_step ms k d lt =
    let count : length (map (λ m. m.tnum) (map member_of ms)) ≡ length ms = length-map (map member_of ms) (λ m. m.tnum) ∙ length-map ms member_of in
    sym (ap (λ ns. get_or ns k 0) (map_twice ms) ∙ get_or-map (λ (m : Member). m.tnum.0) ms k d 0 (omega (arith, count, lt)))
  where
    map_twice : (ms : List Member) → map (λ m. m.tnum) (map member_of ms) ≡ map (λ m. m.tnum.0) ms
    map_twice [] = refl
    map_twice (m ∷ ms) = ap (λ ns. m.tnum.0 ∷ ns) (map_twice ms)

-- the same for a draft's content
pub found_held : (chain : Chain) (h : DraftContent) (found : Option ℕ) → IsLeastDeep (steps_between (draft_places chain h.child h.types.now)) longest_chain found → option_map (λ i. i + 1) found ≡ deep_by (steps chain) (dictionary_of h)
found_held chain h found least = found_place chain h.child h.types.now found least

-- the type of a member of a struct or union, by index
pub aggregate_step : (kind : AggregateKind) (size : ℕ) (ms : List Member) (k : ℕ) (d : Member) → k < length (steps ByValue (aggregate_body kind size (map member_of ms))) → (get_or ms k d).tnum.0 ≡ get_or (steps ByValue (aggregate_body kind size (map member_of ms))) k 0
aggregate_step Struct size ms k d lt = member_step ms k d lt
aggregate_step Union size ms k d lt = member_step ms k d lt
