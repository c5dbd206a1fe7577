-- The depth and alignment of a type, from its targets.
use Rattle.std.proofs.Common.{◌≡◌, ℕ, suc, ◌+◌, ◌-◌, ◌<◌, ◌≤◌, Bool, true, false, cond, ltb, List, [], ◌∷◌, length, map, take, get_or, Option, Some, None, Result, Ok, Err, is_some, refl, sym, ap, subst, ◌∙◌, arith, set, ◌⊎◌, inl, inr, ◌≢◌}
use Rattle.std.specs.Prelude.{min, max, slice_get, slice_index, slice_index_or, slice_set, option_map, MatchOption}
use Rattle.std.specs.List.{AllByRecursion, filter_map}
use Rattle.std.proofs.Math.ListN as listn
use Rattle.std.proofs.lemmas.Bool.{ltb-true, ltb-false}
use Rattle.std.proofs.lemmas.List.{get_or-map, get_or-set_other, length-map, take_all, take_more}
use Rattle.std.proofs.lemmas.Grind.{get_or-set_at}
use Rattle.std.proofs.lemmas.Option.{get_or_from_slice_get, same_Some}
use Rattle.ctf_chains.specs.Places.{led_to, places_at, steps_between}
use Rattle.ctf_chains.specs.Search.{IsDepth, IsLongest}
use Rattle.ctf_chains.proofs.Depths.{deep_target, is_depth, led_more, led_same, one_more}
use Rattle.ctf_chains.proofs.Lists.{same_or_not}
use Rattle.ctf_layout.specs.Bases.{greatest_of}
use Rattle.ctf_layout.proofs.HangsOn.{greatest_step}
use Rattle.ctf_model.specs.rules.Chains.{IsWithin, by_value, edges, longest_chain, own_index}
use Rattle.ctf_model.specs.format.Dictionary.{Dictionary}
use Rattle.ctf_model.specs.drafts.Drafts.{Draft, count_of, content, space_of}
use Rattle.ctf_model.specs.figures.FigureLaws.{nothing, own_body, value_edges}
use Rattle.ctf_model.specs.figures.Figures.{align, align_body, aligning, comes_to, first_of, greater, greatest, parents_figure}
use Rattle.ctf_model.specs.format.Term.{Body, Member, Term}
use Rattle.ctf_model.specs.format.Term as term
use Rattle.ctf_model.specs.declared.data_model.DataModel.{DataModel}
use Rattle.ctf_model.specs.declared.faults.Fault.{Fault}
use Rattle.ctf_model.proofs.Alls.{all_joined}
use Rattle.ctf_model.proofs.FigureAsks.{figures_ask}
use Rattle.ctf_model.proofs.OwnTypes.{own_inside}
use Rattle.ctf_model.proofs.Settled.{most_is, own_figure}
use Rattle.ctf_draft.specs.Reaching.{Answers, IsKnown, IsKnownAt, IsReach, Knows, value_places}
use Rattle.ctf_draft.specs.Sizing.{aligned_by, own_align}
use Rattle.ctf_draft.specs.declared.reach.Reach.{Reach}

-- ---- steps by value

led_one : (o : Option ℕ) (xs : List (Option ℕ)) (h : ℕ → Option ℕ) (n : ℕ) (ns : List ℕ) → h n ≡ o → led_to xs ≡ filter_map h ns → led_to (o ∷ xs) ≡ filter_map h (n ∷ ns)
led_one None xs h n ns here e = rw here e
led_one (Some i) xs h n ns here e = rw here (ap (λ (is : List ℕ). i ∷ is) e)

led_by_numbers : (h : ℕ → Option ℕ) (ns : List ℕ) → led_to (map h ns) ≡ filter_map h ns
led_by_numbers h [] = refl
led_by_numbers h (n ∷ ns) = led_one (h n) (map h ns) h n ns refl (led_by_numbers h ns)

edges_of : (h : ℕ → Option ℕ) (xs : List Term) → map led_to (map (λ x. map h (by_value x.body)) xs) ≡ map (λ x. filter_map h (by_value x.body)) xs
edges_of h [] = refl
edges_of h (x ∷ xs) = rw (led_by_numbers h (by_value x.body), edges_of h xs) refl

pub edges_are : (d : Dictionary) → steps_between (value_places d) ≡ value_edges d
unfolding edges
edges_are d = edges_of (own_index d.child (length d.terms)) d.terms

pub places_are : (d : Dictionary) (i : ℕ) → places_at (value_places d) i ≡ map (own_index d.child (length d.terms)) (by_value (own_body d i))
places_are d i = listn.get_or-map (λ (x : Term). map (own_index d.child (length d.terms)) (by_value x.body)) d.terms i nothing

pub place_count : (d : Dictionary) (i : ℕ) → length (places_at (value_places d) i) ≡ length (by_value (own_body d i))
place_count d i = ap length (places_are d i) ∙ length-map (by_value (own_body d i)) (own_index d.child (length d.terms))

-- the target of one of the numbers
pub place_is : (d : Dictionary) (i k n : ℕ) → k < length (by_value (own_body d i)) → n ≡ slice_index (by_value (own_body d i)) k → slice_index_or (places_at (value_places d) i) k None ≡ own_index d.child (length d.terms) n
place_is d i k n lt is =
    ap (λ ps. slice_index_or ps k None) (places_are d i)
    ∙ get_or-map (own_index d.child (length d.terms)) (by_value (own_body d i)) k 0 None lt
    ∙ ap (own_index d.child (length d.terms)) (sym is)

pub body_is : (d : Dictionary) (i : ℕ) (body : Body) → option_map (λ x. x.body) (slice_get d.terms i) ≡ Some body → own_body d i ≡ body
body_is d i body got = at (slice_get d.terms i) refl got
  where
    at : (o : Option Term) → slice_get d.terms i ≡ o → option_map (λ x. x.body) o ≡ Some body → own_body d i ≡ body
    at None e h = absurd cc
    at (Some x) e h = let same : x.body ≡ body = cc in ap (λ (y : Term). y.body) (get_or_from_slice_get d.terms i x nothing e) ∙ same

-- ---- alignments

greater_unit : (r : Result ℕ Fault) → greater r (Ok 0) ≡ r
greater_unit (Err f) = refl
greater_unit (Ok n) = ap Ok (omega arith)

unit_greater : (r : Result ℕ Fault) → greater (Ok 0) r ≡ r
unit_greater (Err f) = refl
unit_greater (Ok n) = ap Ok (omega arith)

greater_assoc : (a b c : Result ℕ Fault) → greater a (greater b c) ≡ greater (greater a b) c
greater_assoc (Err f) b c = refl
greater_assoc (Ok n) (Err f) c = refl
greater_assoc (Ok n) (Ok m) (Err f) = refl
greater_assoc (Ok n) (Ok m) (Ok k) = ap Ok (omega arith)

greatest_is : (f : ℕ → Result ℕ Fault) (ms : List Member) → greatest f ms ≡ greatest_of f (map (λ m. m.tnum) ms)
greatest_is f [] = refl
greatest_is f (m ∷ ms) = rw (greatest_is f ms) refl

all_of : (f : ℕ → Result ℕ Fault) (ts : List ℕ) → greatest_of f (take (length ts) ts) ≡ greatest_of f ts
all_of f ts = ap (greatest_of f) (take_all (length ts) ts (omega arith))

first_is : (f : ℕ → Result ℕ Fault) (ms : List Member) → first_of f ms ≡ greatest_of f (take (min 1 (length ms)) (map (λ m. m.tnum) ms))
first_is f [] = refl
first_is f (m ∷ ms) =
    let one : min 1 (suc (length ms)) ≡ 1 = omega arith in
    rw one (sym (greater_unit (f m.tnum)))

-- the alignment, from what it is computed from
align_is : (model : DataModel) (f : ℕ → Result ℕ Fault) (body : Body) → align_body model f body ≡ greater (own_align model body) (greatest_of f (take (aligned_by body) (by_value body)))
align_is model f (term.integer x) = sym (greater_unit (Ok x.size))
align_is model f (term.float x) = sym (greater_unit (Ok x.size))
align_is model f (term.pointer t) = sym (greater_unit (own_align model (term.pointer t)))
align_is model f (term.function r ts) = sym (greater_unit (own_align model (term.function r ts)))
align_is model f (term.enum said xs) = sym (greater_unit (own_align model (term.enum said xs)))
align_is model f (term.forward t) = refl
align_is model f term.unknown = refl
align_is model f (term.array e) = sym (unit_greater (greater (f e.contents) (Ok 0)) ∙ greater_unit (f e.contents))
align_is model f (term.typedef t) = sym (unit_greater (greater (f t) (Ok 0)) ∙ greater_unit (f t))
align_is model f (term.volatile t) = sym (unit_greater (greater (f t) (Ok 0)) ∙ greater_unit (f t))
align_is model f (term.const t) = sym (unit_greater (greater (f t) (Ok 0)) ∙ greater_unit (f t))
align_is model f (term.restrict t) = sym (unit_greater (greater (f t) (Ok 0)) ∙ greater_unit (f t))
align_is model f (term.struct said ms) = first_is f ms ∙ sym (unit_greater (greatest_of f (take (min 1 (length ms)) (map (λ m. m.tnum) ms))))
align_is model f (term.union said ms) = greatest_is f ms ∙ sym (all_of f (map (λ m. m.tnum) ms)) ∙ sym (unit_greater (greatest_of f (take (length (map (λ (m : Member). m.tnum) ms)) (map (λ m. m.tnum) ms))))

few : (body : Body) → aligned_by body ≤ length (by_value body)
few (term.struct said ms) = omega (arith, length-map ms (λ (m : Member). m.tnum))
few (term.integer x) = omega arith
few (term.float x) = omega arith
few (term.pointer t) = omega arith
few (term.function r ts) = omega arith
few (term.enum said xs) = omega arith
few (term.forward t) = omega arith
few term.unknown = omega arith
few (term.array e) = omega arith
few (term.typedef t) = omega arith
few (term.volatile t) = omega arith
few (term.const t) = omega arith
few (term.restrict t) = omega arith
few (term.union said ms) = omega arith

-- nothing has been read yet
pub none_read : (f : ℕ → Result ℕ Fault) (base : Result ℕ Fault) (ts : List ℕ) (n : ℕ) → base ≡ greater base (greatest_of f (take (min 0 n) ts))
none_read f base ts n = let none : min 0 n ≡ 0 = omega arith in rw none (sym (greater_unit base))

-- one more has been read
pub one_read : (f : ℕ → Result ℕ Fault) (base : Result ℕ Fault) (ts : List ℕ) (k n : ℕ) (a b : Result ℕ Fault) → k < length ts → a ≡ greater base (greatest_of f (take (min k n) ts)) → b ≡ f (slice_index ts k) → cond (ltb k n) (greater a b) a ≡ greater base (greatest_of f (take (min (k + 1) n) ts))
one_read f base ts k n a b lt is one = at (ltb k n) refl
  where
    at : (t : Bool) → ltb k n ≡ t → cond t (greater a b) a ≡ greater base (greatest_of f (take (min (k + 1) n) ts))
    at true e =
        let low : k < n = ltb-true k n e in
        let before : min k n ≡ k = omega arith in
        let after : min (k + 1) n ≡ k + 1 = omega arith in
        let was : a ≡ greater base (greatest_of f (take k ts)) = is ∙ ap (λ (m : ℕ). greater base (greatest_of f (take m ts))) before in
        rw (after, greatest_step f ts k lt, was, one) (sym (greater_assoc base (greatest_of f (take k ts)) (f (slice_index ts k))))
    at false e =
        let high : n ≤ k = ltb-false k n e in
        let before : min k n ≡ n = omega arith in
        let after : min (k + 1) n ≡ n = omega arith in
        rw after (is ∙ ap (λ (m : ℕ). greater base (greatest_of f (take m ts))) before)

-- ---- results

-- a number that names no own type
pub elsewhere_is : (d : Draft) (n : ℕ) (r : Result ℕ Fault) → ((k : ℕ) → r ≡ comes_to (aligning d.model) (parents_figure (aligning d.model) d.parent) (content d) (suc k) n) → r ≡ align (space_of d) n
elsewhere_is d n r h = h 513 ∙ ap (λ (k : ℕ). comes_to (aligning d.model) (parents_figure (aligning d.model) d.parent) (content d) k n) (sym most_is)

-- a number that names an own type
pub named_is : (d : Draft) (n j : ℕ) (r : Reach) → own_index (is_some d.parent) (count_of d) n ≡ Some j → IsReach d j r → r.align ≡ align (space_of d) n
named_is d n j r own h = let at = own_inside (is_some d.parent) (count_of d) n j own in h.aligned ∙ ap (align (space_of d)) (sym at.2)

-- a type, once all its targets are read
pub reach_is : (d : Draft) (i k depth : ℕ) (a : Result ℕ Fault) (r : Reach) → i < count_of d → depth ≤ longest_chain → length (by_value (own_body (content d) i)) ≤ k
    → IsLongest (steps_between (value_places (content d))) (led_to (take k (places_at (value_places (content d)) i))) depth
    → a ≡ greater (own_align d.model (own_body (content d) i)) (greatest_of (align (space_of d)) (take (min k (aligned_by (own_body (content d) i))) (by_value (own_body (content d) i))))
    → r.depth ≡ depth → r.align ≡ a → IsReach d i r
reach_is d i k depth a r lt short whole longest aligned same_depth same_align =
    let count = place_count (content d) i in
    let deep : IsDepth (value_edges (content d)) i depth = subst (λ (es : List (List ℕ)). IsDepth es i depth) (edges_are (content d)) (is_depth (value_places (content d)) i k depth (omega (arith, count)) longest) in
    let body = own_body (content d) i in
    let all = few body in
    let every : min k (aligned_by body) ≡ aligned_by body = omega arith in
    let rule = own_figure (aligning d.model) (figures_ask.aligning_asks d.model) (space_of d) depth i short lt deep.within in
    record {
      inside = lt;
      depth = subst (IsDepth (value_edges (content d)) i) (sym same_depth) deep;
      short = omega (arith, short, same_depth);
      aligned = same_align ∙ aligned ∙ ap (λ (m : ℕ). greater (own_align d.model body) (greatest_of (align (space_of d)) (take m (by_value body)))) every ∙ sym (align_is d.model (align (space_of d)) body) ∙ sym rule;
    }

-- ---- the table

-- no entry is lost
pub known_grows : (known : List (Option Reach)) (i : ℕ) (r : Reach) → i < length known → (j : ℕ) → IsKnown known j → IsKnown (slice_set known i (Some r)) j
known_grows known i r lt j k = at (same_or_not j i)
  where
    at : (j ≡ i) ⊎ (j ≢ i) → IsKnown (slice_set known i (Some r)) j
    at (inl same) = ap is_some (get_or-set_at known i j (Some r) None same lt)
    at (inr other) = ap is_some (get_or-set_other known i j (Some r) None other) ∙ k

pub known_here : (known : List (Option Reach)) (i : ℕ) (r : Reach) → i < length known → IsKnown (slice_set known i (Some r)) i
known_here known i r lt = ap is_some (get_or-set_at known i i (Some r) None refl lt)

pub below_grows : (d : Draft) (a b : List (Option Reach)) → ((j : ℕ) → IsKnown a j → IsKnown b j) → (ns : List ℕ) → AllByRecursion (IsKnownAt d a) ns → AllByRecursion (IsKnownAt d b) ns
below_grows d a b f [] h = tt
below_grows d a b f (n ∷ ns) h = (at (own_index (is_some d.parent) (count_of d) n) h.0, below_grows d a b f ns h.1)
  where
    at : (o : Option ℕ) → MatchOption o (Unit {0}) (IsKnown a) → MatchOption o (Unit {0}) (IsKnown b)
    at None k = tt
    at (Some j) k = f j k

-- one more target has an entry
pub below_more : (d : Draft) (known : List (Option Reach)) (ns : List ℕ) (k n : ℕ) → k < length ns → n ≡ slice_index ns k → IsKnownAt d known n → AllByRecursion (IsKnownAt d known) (take k ns) → AllByRecursion (IsKnownAt d known) (take (k + 1) ns)
below_more d known ns k n lt is here h =
    let one : IsKnownAt d known (slice_index ns k) = subst (IsKnownAt d known) is here in
    subst (AllByRecursion (IsKnownAt d known)) (sym (take_more ns k 0 lt)) (all_joined (IsKnownAt d known) (take k ns) (slice_index ns k ∷ []) h (one, tt))

pub one_kept : (d : Draft) (known : List (Option Reach)) (i : ℕ) (r : Reach) → i < length known → Knows d known → IsReach d i r → AllByRecursion (IsKnownAt d known) (by_value (own_body (content d) i)) → Knows d (slice_set known i (Some r))
one_kept d known i r lt knows is below = record {
  right = λ j q e. at j q (same_or_not j i) e;
  closed = λ j q e. below_grows d known (slice_set known i (Some r)) (known_grows known i r lt) (by_value (own_body (content d) j)) (under j q (same_or_not j i) e);
}
  where
    under : (j : ℕ) (q : Reach) → (j ≡ i) ⊎ (j ≢ i) → get_or (set known i (Some r)) j None ≡ Some q → AllByRecursion (IsKnownAt d known) (by_value (own_body (content d) j))
    under j q (inl same) e = rw same below
    under j q (inr other) e = knows.closed j q (sym (get_or-set_other known i j (Some r) None other) ∙ e)

    at : (j : ℕ) (q : Reach) → (j ≡ i) ⊎ (j ≢ i) → get_or (set known i (Some r)) j None ≡ Some q → IsReach d j q
    at j q (inl same) e =
        let here : get_or (set known i (Some r)) j None ≡ Some r = get_or-set_at known i j (Some r) None same lt in
        let one : r ≡ q = same_Some _ _ (sym here ∙ e) in
        rw same (subst (IsReach d i) one is)
    at j q (inr other) e = knows.right j q (sym (get_or-set_other known i j (Some r) None other) ∙ e)

either : (a b m : ℕ) → m ≡ max a b → (m ≡ a) ⊎ (m ≡ b)
either a b m e = at (ltb a b) refl
  where
    at : (t : Bool) → ltb a b ≡ t → (m ≡ a) ⊎ (m ≡ b)
    at true h = let lt : a < b = ltb-true a b h in inr (omega arith)
    at false h = let le : b ≤ a = ltb-false a b h in inl (omega arith)

-- the answer from a known entry
pub known_answers : (d : Draft) (i budget : ℕ) (r : Reach) (o : Option Reach) → IsReach d i r → MatchOption o (budget < r.depth) (λ s. (s ≡ r) × (r.depth ≤ budget)) → Answers d i budget o
known_answers d i budget r None is h = λ w. let least = is.depth.least budget w in omega (arith, h, least)
known_answers d i budget r (Some s) is h = record { reach = subst (IsReach d i) (sym h.0) is; affordable = subst (λ (q : Reach). q.depth ≤ budget) (sym h.0) h.1 }

-- ---- one of the targets

module _ (d : Draft) (i : ℕ) (body : Body) (got : option_map (λ x. x.body) (slice_get (content d).terms i) ≡ Some body) where
  same_body : own_body (content d) i ≡ body
  same_body = body_is (content d) i body got

  pub base_is : (model : DataModel) (r : Result ℕ Fault) → model ≡ d.model → r ≡ own_align model body → r ≡ own_align d.model (own_body (content d) i)
  base_is model r same h = h ∙ ap (λ (m : DataModel). own_align m body) same ∙ ap (own_align d.model) (sym same_body)

  pub read_count : (n : ℕ) → n ≡ length (by_value body) → n ≡ length (by_value (own_body (content d) i))
  read_count n h = h ∙ ap (λ (b : Body). length (by_value b)) (sym same_body)

  module _ (k n : ℕ) (lt : k < length (by_value body)) (is : n ≡ slice_index (by_value body) k) (o : Option ℕ) (own : o ≡ own_index (is_some d.parent) (count_of d) n) where
    inside_own : k < length (by_value (own_body (content d) i))
    inside_own = let e = ap (λ (b : Body). length (by_value b)) same_body in omega (arith, e)

    inside : k < length (places_at (value_places (content d)) i)
    inside = let e = place_count (content d) i in let l = inside_own in omega (arith, e, l)

    named : n ≡ slice_index (by_value (own_body (content d) i)) k
    named = is ∙ ap (λ (b : Body). slice_index (by_value b) k) (sym same_body)

    led : slice_index_or (places_at (value_places (content d)) i) k None ≡ o
    led = place_is (content d) i k n inside_own named ∙ sym own

    pub too_deep : (budget j : ℕ) → o ≡ Some j → (1 ≤ budget → IsWithin (value_edges (content d)) (budget - 1) j → ⊥) → IsWithin (value_edges (content d)) budget i → ⊥
    too_deep budget j to deep w =
        deep_target (value_places (content d)) budget i k j inside (led ∙ to)
        (λ le v. deep le (subst (λ (es : List (List ℕ)). IsWithin es (budget - 1) j) (edges_are (content d)) v))
        (subst (λ (es : List (List ℕ)). IsWithin es budget i) (sym (edges_are (content d))) w)

    -- its target then has an entry
    pub below_named : (j : ℕ) (known : List (Option Reach)) → o ≡ Some j → IsKnown known j → AllByRecursion (IsKnownAt d known) (take k (by_value (own_body (content d) i))) → AllByRecursion (IsKnownAt d known) (take (k + 1) (by_value (own_body (content d) i)))
    below_named j known to known_j h =
        let here : own_index (is_some d.parent) (count_of d) n ≡ Some j = sym own ∙ to in
        below_more d known (by_value (own_body (content d) i)) k n inside_own named (subst (λ (q : Option ℕ). MatchOption q (Unit {0}) (IsKnown known)) (sym here) known_j) h

    pub below_unnamed : (known : List (Option Reach)) → o ≡ None → AllByRecursion (IsKnownAt d known) (take k (by_value (own_body (content d) i))) → AllByRecursion (IsKnownAt d known) (take (k + 1) (by_value (own_body (content d) i)))
    below_unnamed known to h =
        let here : own_index (is_some d.parent) (count_of d) n ≡ None = sym own ∙ to in
        below_more d known (by_value (own_body (content d) i)) k n inside_own named (subst (λ (q : Option ℕ). MatchOption q (Unit {0}) (IsKnown known)) (sym here) tt) h

    pub longer_by : (l m j : ℕ) (r : Reach) → o ≡ Some j → IsReach d j r → m ≡ max l (r.depth + 1) → IsLongest (steps_between (value_places (content d))) (led_to (take k (places_at (value_places (content d)) i))) l → IsLongest (steps_between (value_places (content d))) (led_to (take (k + 1) (places_at (value_places (content d)) i))) m
    longer_by l m j r to h e longest =
        let es = steps_between (value_places (content d)) in
        let deep : IsDepth es j r.depth = subst (λ (es : List (List ℕ)). IsDepth es j r.depth) (sym (edges_are (content d))) h.depth in
        let one : (m ≡ l) ⊎ (m ≡ r.depth + 1) = either l (r.depth + 1) m e in
        let a : l ≤ m = omega arith in
        let b : r.depth + 1 ≤ m = omega arith in
        rw (led_more (places_at (value_places (content d)) i) k j inside (led ∙ to)) (one_more es (led_to (take k (places_at (value_places (content d)) i))) j r.depth l m longest deep a b one)

    pub longer_none : (l m : ℕ) → o ≡ None → m ≡ max l 0 → IsLongest (steps_between (value_places (content d))) (led_to (take k (places_at (value_places (content d)) i))) l → IsLongest (steps_between (value_places (content d))) (led_to (take (k + 1) (places_at (value_places (content d)) i))) m
    longer_none l m to e longest =
        let same : l ≡ m = omega arith in
        rw (led_same (places_at (value_places (content d)) i) k inside (led ∙ to)) (subst (IsLongest (steps_between (value_places (content d))) (led_to (take k (places_at (value_places (content d)) i)))) same longest)

    pub aligned_more : (a b r : Result ℕ Fault) (counting : ℕ) → counting ≡ aligned_by body
        → a ≡ greater (own_align d.model (own_body (content d) i)) (greatest_of (align (space_of d)) (take (min k (aligned_by (own_body (content d) i))) (by_value (own_body (content d) i))))
        → b ≡ align (space_of d) n → r ≡ cond (ltb k counting) (greater a b) a
        → r ≡ greater (own_align d.model (own_body (content d) i)) (greatest_of (align (space_of d)) (take (min (k + 1) (aligned_by (own_body (content d) i))) (by_value (own_body (content d) i))))
    aligned_more a b r counting count before this e =
        let c = count ∙ ap aligned_by (sym same_body) in
        e ∙ ap (λ (m : ℕ). cond (ltb k m) (greater a b) a) c
        ∙ one_read (align (space_of d)) (own_align d.model (own_body (content d) i)) (by_value (own_body (content d) i)) k (aligned_by (own_body (content d) i)) a b inside_own before (this ∙ ap (align (space_of d)) named)
