-- Invariants of publications.
use Rattle.std.proofs.Common.{◌≡◌, ℕ, ◌+◌, ◌-◌, ◌≤◌, List, [], ◌∷◌, ◌++◌, map, sum_by, Option, None, Some, refl, sym, ◌∙◌, ap, ap₂, subst, arith}
use Rattle.std.specs.Prelude.{Bool, false, is_some, nat_lt, not, option_map, true, if◌then◌else◌}
use Rattle.std.specs.List.{list_all}
use Rattle.std.specs.BTreeMap.{BTreeMap, IsOrdered, insert_entry, is_at}
use Rattle.std.specs.Map.{lookup, remove_entry, values_of}
use Rattle.std.specs.Option.{unwrap_or}
use Rattle.std.proofs.lemmas.List.Sums.{sum_by-cons, sum_by_push}
use Rattle.std.proofs.lemmas.Map.Entries.{sum_by-remove_entry}
use Rattle.ctf_library.proofs.ByName.{added, all_removed, at, found, removed, turned}
use Rattle.ctf_library.proofs.InTurn.{in_turn_sum}
use Rattle.ctf_library.specs.NameOrder.{by_hash, hashed, order_of}
use Rattle.ctf_library.specs.Published.{IsKept, Named, publication_of, published_in}
use Rattle.ctf_library.specs.Turns.{in_turn, insert_turn}
use Rattle.ctf_library.specs.declared.publication.Publication as own
use Rattle.ctf_model.specs.opened.Sizes.{kept_bytes}
use Rattle.ctf_model.specs.spaces.Kept.{Kept}
use Rattle.ctf_order.specs.Names.{hash}
use Rattle.std.specs.declared.cmp.Ordering.{Ordering}
use Rattle.ctf_protocol.specs.sessions.Charges.{publication_bytes}
use Rattle.ctf_protocol.specs.sessions.Publications.{published_as, published_without}
use Rattle.ctf_protocol.specs.sessions.State.{Publication}

abbrev Kept_map : Type 0
Kept_map = BTreeMap (List ℕ) own.Publication

abbrev loaded_of : own.Publication → Kept
loaded_of p = p.loaded

abbrev turn_in : own.Publication → ℕ
turn_in p = p.turn

abbrev weight : own.Publication → ℕ
weight p = kept_bytes p.loaded

-- ---- no publications

nothing : published_in [] ≡ []
unfolding in_turn
nothing = refl

pub none_published : (es : List Named) → es ≡ [] → published_in es ≡ []
none_published es none = ap published_in none ∙ nothing

-- the list in order of turns is not empty
placed_by : {X Y : Type 0} (shown : X → Y) (x other : X) (front others : List X) → (first : Bool) → map shown (if first then x ∷ other ∷ others else other ∷ front) ≡ [] → ⊥
placed_by shown x other front others true none = let clash : shown x ∷ map shown (other ∷ others) ≡ [] = none in cc
placed_by shown x other front others false none = let clash : shown other ∷ map shown front ≡ [] = none in cc

some_placed : {X Y : Type 0} (shown : X → Y) (turn : X → ℕ) (x : X) (xs : List X) → map shown (insert_turn turn x xs) ≡ [] → ⊥
some_placed shown turn x [] none = let clash : shown x ∷ [] ≡ [] = none in cc
some_placed shown turn x (other ∷ others) none = placed_by shown x other (insert_turn turn x others) others (nat_lt (turn x) (turn other)) none

pub published_none : (es : List Named) → published_in es ≡ [] → es ≡ []
unfolding in_turn
published_none [] none = refl
published_none (e ∷ es) none =
    absurd (some_placed publication_of (λ (named : Named). named.1.turn) e (in_turn (λ (named : Named). named.1.turn) es) none)

pub none_kept : (m : Kept_map) → IsOrdered by_hash m → m.entries ≡ [] → IsKept m 0 0
none_kept m ordered none =
    record { ordered = ordered; later = rw none refl; sum = sym (ap (sum_by publication_bytes) (none_published m.entries none)) }

-- ---- look-ups

-- the order of a name with its hash
abbrev asked_by : ℕ → List ℕ → List ℕ → Ordering
asked_by h n k = order_of (h, n) (hashed k)

-- a look-up with the hash of a name
pub sought : (name n : List ℕ) (h : ℕ) (es : List Named) → h ≡ hash name → n ≡ name → lookup (is_at (asked_by h n)) es ≡ lookup (at name) es
sought name n h es hashes names = ap₂ (λ (h : ℕ) (n : List ℕ). lookup (is_at (asked_by h n)) es) hashes names

pub sought_out : (name n : List ℕ) (h : ℕ) (es : List Named) → h ≡ hash name → n ≡ name → remove_entry (is_at (asked_by h n)) es ≡ remove_entry (at name) es
sought_out name n h es hashes names = ap₂ (λ (h : ℕ) (n : List ℕ). remove_entry (is_at (asked_by h n)) es) hashes names

pub found_in : (name : List ℕ) (m : Kept_map) (turns bytes : ℕ) → IsKept m turns bytes → published_as name (published_in m.entries) ≡ option_map loaded_of (lookup (at name) m.entries)
found_in name m turns bytes kept = found name loaded_of turn_in m.entries kept.ordered

not_there : (o : Option own.Publication) → option_map loaded_of o ≡ None → o ≡ None
not_there None h = refl
not_there (Some p) h = absurd cc

free : (name : List ℕ) (k : List ℕ) (m : Kept_map) (turns bytes : ℕ) → IsKept m turns bytes → published_as name (published_in m.entries) ≡ None → k ≡ name → lookup (is_at (by_hash k)) m.entries ≡ None
free name k m turns bytes kept none is =
    subst (λ (n : List ℕ). lookup (at n) m.entries ≡ None) (sym is) (not_there (lookup (at name) m.entries) (sym (found_in name m turns bytes kept) ∙ none))

-- a key with the name is in the map exactly if the name is taken
taken_alike : (name : List ℕ) (k : List ℕ) (m : Kept_map) (turns bytes : ℕ) → IsKept m turns bytes → k ≡ name → is_some (published_as name (published_in m.entries)) ≡ is_some (lookup (is_at (by_hash k)) m.entries)
taken_alike name k m turns bytes kept is =
    ap is_some (found_in name m turns bytes kept) ∙ some_alike (lookup (at name) m.entries) ∙ ap (λ (n : List ℕ). is_some (lookup (at n) m.entries)) (sym is)
  where
    some_alike : (o : Option own.Publication) → is_some (option_map loaded_of o) ≡ is_some o
    some_alike None = refl
    some_alike (Some p) = refl

none_of : (o : Option Kept) → not (is_some o) ≡ true → o ≡ None
none_of None h = refl
none_of (Some k) h = absurd cc

pub are_free : (name : List ℕ) (k : List ℕ) (m : Kept_map) (turns bytes : ℕ) → IsKept m turns bytes → k ≡ name → not (is_some (lookup (is_at (by_hash k)) m.entries)) ≡ true → published_as name (published_in m.entries) ≡ None
are_free name k m turns bytes kept is none =
    none_of (published_as name (published_in m.entries)) (ap not (taken_alike name k m turns bytes kept is) ∙ none)

pub are_taken : (name : List ℕ) (k : List ℕ) (m : Kept_map) (turns bytes : ℕ) → IsKept m turns bytes → k ≡ name → not (is_some (lookup (is_at (by_hash k)) m.entries)) ≡ false → not (is_some (published_as name (published_in m.entries))) ≡ false
are_taken name k m turns bytes kept is some = ap not (taken_alike name k m turns bytes kept is) ∙ some

-- ---- sums

shown_sum : (es : List Named) → sum_by publication_bytes (map publication_of es) ≡ sum_by (λ (e : Named). weight e.1) es
shown_sum [] = refl
shown_sum (e ∷ es) =
    let later = shown_sum es in
    omega (arith, later, sum_by-cons (λ (e : Named). weight e.1) e es, sum_by-cons publication_bytes (publication_of e) (map publication_of es))

values_sum : (es : List Named) → sum_by weight (values_of es) ≡ sum_by (λ (e : Named). weight e.1) es
values_sum [] = refl
values_sum (e ∷ es) =
    let later = values_sum es in
    omega (arith, later, sum_by-cons (λ (e : Named). weight e.1) e es, sum_by-cons weight e.1 (values_of es))

kept_sum : (es : List Named) → sum_by publication_bytes (published_in es) ≡ sum_by weight (values_of es)
kept_sum es =
    shown_sum (in_turn (λ (e : Named). turn_in e.1) es) ∙ in_turn_sum (λ (e : Named). turn_in e.1) (λ (e : Named). weight e.1) es ∙ sym (values_sum es)

-- ---- one more publication

pub added_seen : (name : List ℕ) (k : List ℕ) (p : own.Publication) (m n : Kept_map) (turns bytes : ℕ) → IsKept m turns bytes → published_as name (published_in m.entries) ≡ None → k ≡ name → p.turn ≡ turns → n.entries ≡ insert_entry by_hash m.entries k p → published_in n.entries ≡ published_in m.entries ++ (record { name = name; kept = p.loaded }) ∷ []
added_seen name k p m n turns bytes kept none is turn made =
    let early = subst (λ (t : ℕ). list_all (λ (e : Named). nat_lt e.1.turn t) m.entries ≡ true) (sym turn) kept.later in
    ap published_in made ∙ added loaded_of turn_in k p m.entries (free name k m turns bytes kept none is) early ∙ ap (λ (ns : List ℕ). published_in m.entries ++ (record { name = ns; kept = p.loaded }) ∷ []) is

pub added_kept : (name : List ℕ) (k : List ℕ) (p : own.Publication) (m n : Kept_map) (turns bytes more : ℕ) → IsKept m turns bytes → published_as name (published_in m.entries) ≡ None → k ≡ name → p.turn ≡ turns → n.entries ≡ insert_entry by_hash m.entries k p → IsOrdered by_hash n → more ≡ kept_bytes p.loaded → IsKept n (turns + 1) (bytes + more)
added_kept name k p m n turns bytes more kept none is turn made ordered count =
    let early = subst (λ (t : ℕ). list_all (λ (e : Named). nat_lt e.1.turn t) m.entries ≡ true) (sym turn) kept.later in
    let late = subst (λ (t : ℕ). list_all (λ (e : Named). nat_lt e.1.turn (t + 1)) n.entries ≡ true) turn (rw made (turned turn_in k p m.entries early)) in
    let one : Publication = record { name = name; kept = p.loaded } in
    let pushed = ap (sum_by publication_bytes) (added_seen name k p m n turns bytes kept none is turn made) in
    let grown = sum_by_push publication_bytes (published_in m.entries) one in
    let was = kept.sum in
    record { ordered = ordered; later = late; sum = omega (arith, pushed, grown, was, count) }

-- ---- one publication less

pub removed_seen : (name : List ℕ) (m n : Kept_map) (turns bytes : ℕ) → IsKept m turns bytes → n.entries ≡ remove_entry (at name) m.entries → published_in n.entries ≡ published_without name (published_in m.entries)
removed_seen name m n turns bytes kept made = ap published_in made ∙ removed name loaded_of turn_in m.entries kept.ordered

-- a removed publication was counted once
left_sum : (name : List ℕ) (p : own.Publication) (m n : Kept_map) (turns bytes less : ℕ) → IsKept m turns bytes → n.entries ≡ remove_entry (at name) m.entries → Some p ≡ lookup (at name) m.entries → less ≡ kept_bytes p.loaded → sum_by publication_bytes (published_in n.entries) + less ≡ bytes
left_sum name p m n turns bytes less kept made there count =
    let gone = sum_by-remove_entry weight (at name) m.entries in
    let one : unwrap_or (option_map weight (lookup (at name) m.entries)) 0 ≡ kept_bytes p.loaded = ap (λ (o : Option own.Publication). unwrap_or (option_map weight o) 0) (sym there) in
    let after = ap (λ (es : List Named). sum_by publication_bytes (published_in es)) made ∙ kept_sum (remove_entry (at name) m.entries) in
    let before = kept.sum ∙ kept_sum m.entries in
    omega (arith, gone, one, after, before, count)

pub removed_le : (name : List ℕ) (p : own.Publication) (m n : Kept_map) (turns bytes less : ℕ) → IsKept m turns bytes → n.entries ≡ remove_entry (at name) m.entries → Some p ≡ lookup (at name) m.entries → less ≡ kept_bytes p.loaded → less ≤ bytes
removed_le name p m n turns bytes less kept made there count =
    let sum = left_sum name p m n turns bytes less kept made there count in
    omega (arith, sum)

pub removed_kept : (name : List ℕ) (p : own.Publication) (m n : Kept_map) (turns bytes less : ℕ) → IsKept m turns bytes → n.entries ≡ remove_entry (at name) m.entries → Some p ≡ lookup (at name) m.entries → less ≡ kept_bytes p.loaded → IsOrdered by_hash n → IsKept n turns (bytes - less)
removed_kept name p m n turns bytes less kept made there count ordered =
    let sum = left_sum name p m n turns bytes less kept made there count in
    let late = all_removed (λ (q : own.Publication). nat_lt q.turn turns) name m.entries kept.later in
    record { ordered = ordered; later = rw made late; sum = omega (arith, sum) }
