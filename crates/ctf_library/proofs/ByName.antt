-- A map by names as definitions see it.
use Rattle.std.proofs.Common.{◌≡◌, ℕ, ◌+◌, ◌<◌, ◌≤◌, List, [], ◌∷◌, ◌++◌, map, None, Some, Bool, true, false, ltb, refl, sym, ◌∙◌, ap, arith}
use Rattle.std.specs.Prelude.{◌&&◌, filter, is_some, nat_eq, nat_lt, not, option_map}
use Rattle.std.specs.BTreeMap.{insert_entry, is_at}
use Rattle.std.specs.Cmp.{Equal-is}
use Rattle.std.specs.Cmp.Derive.{both_true}
use Rattle.std.specs.Cmp.Lexicographic.{nat_list_eq_equiv, pointwise, slice_cmp, texts_ties}
use Rattle.std.specs.List.{AllByRecursion, list_all}
use Rattle.std.specs.List.Sorted.{IsStrictlySortedBy}
use Rattle.std.specs.Map.{keys_of, lookup, remove_entry}
use Rattle.std.specs.Ordering.{is_eq, nat_cmp}
use Rattle.std.specs.declared.cmp.Ordering.{Ordering}
use Rattle.std.specs.declared.cmp.Ordering.TheVariants.{Equal, Greater, Less}
use Rattle.std.proofs.lemmas.List.{map-append}
use Rattle.std.proofs.lemmas.Bool.{lt-ltb, ltb-true}
use Rattle.std.proofs.lemmas.Map.Keys.{sorted_head, sorted_tail}
use Rattle.std.proofs.lemmas.Map.Lookups.{exact_bytes}
use Rattle.ctf_model.specs.spaces.Kept.{Kept}
use Rattle.ctf_protocol.specs.sessions.Publications.{published_as, published_without}
use Rattle.ctf_protocol.specs.sessions.State.{Publication}
use Rattle.ctf_library.proofs.InTurn.{all_in_turn, gone_placed, kept_in_turn, parts_true, placed_last, placed_under}
use Rattle.ctf_library.specs.NameOrder.{by_hash, by_hash-ties}
use Rattle.ctf_library.specs.Turns.{in_turn, insert_turn}

-- a look-up of a name
abbrev pub at : List ℕ → List ℕ → Bool
at name = is_at (by_hash name)

abbrev has : List ℕ → Publication → Bool
has name p = pointwise nat_eq p.name name

at_is : (name : List ℕ) (k : List ℕ) → at name k ≡ pointwise nat_eq k name
at_is name k = sym (by_hash-ties name k) ∙ nat_list_eq_equiv.symm name k

-- ---- only one key has a name

apart : (name : List ℕ) (k : List ℕ) {P : Type 0} (es : List (List ℕ × P)) → name ≡ k → AllByRecursion (λ y. by_hash k y ≡ Less) (keys_of es) → list_all (λ e. not (pointwise nat_eq e.0 name)) es ≡ true
apart name k [] is h = refl
apart name k (e ∷ es) is h =
    let less : at name e.0 ≡ false = ap (λ n. is_eq (by_hash n e.0)) is ∙ ap is_eq h.0 in
    let differs : pointwise nat_eq e.0 name ≡ false = sym (at_is name e.0) ∙ less in
    both_true (ap not differs) (apart name k es is h.1)

no_other : (name : List ℕ) {P : Type 0} (e : List ℕ × P) (es : List (List ℕ × P)) → IsStrictlySortedBy by_hash (keys_of (e ∷ es)) → at name e.0 ≡ true → list_all (λ f. not (pointwise nat_eq f.0 name)) es ≡ true
no_other name e es s is =
    let same = exact_bytes name e.0 ((Equal-is (slice_cmp nat_cmp name e.0)).0 (sym (texts_ties name e.0) ∙ by_hash-ties name e.0 ∙ is)) in
    apart name e.0 es same (sorted_head by_hash e.0 (keys_of es) s)

-- ---- look-ups

none_case : (name : List ℕ) (p : Publication) (ps : List Publication) → not (has name p) ≡ true → published_as name ps ≡ None → (b : Bool) → has name p ≡ b → published_as name (p ∷ ps) ≡ None
none_case name p ps differs later true b = absurd (let is : not true ≡ true = ap not (sym b) ∙ differs in cc)
none_case name p ps differs later false b = rw b later

none_in : (name : List ℕ) (ps : List Publication) → list_all (λ p. not (has name p)) ps ≡ true → published_as name ps ≡ None
none_in name [] h = refl
none_in name (p ∷ ps) h =
    let q = parts_true (not (has name p)) (list_all (λ q. not (has name q)) ps) h in
    none_case name p ps q.0 (none_in name ps q.1) (has name p) refl

missing_case : (name : List ℕ) (p : Publication) (ps : List Publication) → (is_some (published_as name ps) ≡ false → published_without name ps ≡ ps) → (b : Bool) → has name p ≡ b → is_some (published_as name (p ∷ ps)) ≡ false → published_without name (p ∷ ps) ≡ p ∷ ps
missing_case name p ps later true b h = absurd (let there : true ≡ false = rw b at h in cc)
missing_case name p ps later false b h = rw b (ap (λ (qs : List Publication). p ∷ qs) (later (rw b at h)))

-- if the name is not published, removing it changes nothing
pub missing : (name : List ℕ) (ps : List Publication) → is_some (published_as name ps) ≡ false → published_without name ps ≡ ps
missing name [] h = refl
missing name (p ∷ ps) h = missing_case name p ps (λ h. missing name ps h) (has name p) refl h

-- an entry as a publication
abbrev shown : {P : Type 0} → (P → Kept) → List ℕ × P → Publication
shown kept e = record { name = e.0; kept = kept e.1 }

abbrev seen : {P : Type 0} → (P → Kept) → List (List ℕ × P) → List Publication
seen kept es = map (shown kept) es

-- the turn of an entry
abbrev turn_of : {P : Type 0} → (P → ℕ) → List ℕ × P → ℕ
turn_of turn e = turn e.1

all_seen : {P : Type 0} (kept : P → Kept) (test : List ℕ → Bool) (es : List (List ℕ × P)) → list_all (λ p. test p.name) (seen kept es) ≡ list_all (λ e. test e.0) es
all_seen kept test [] = refl
all_seen kept test (e ∷ es) = ap (λ b. test e.0 && b) (all_seen kept test es)

none_found : (name : List ℕ) {P : Type 0} (kept : P → Kept) (turn : P → ℕ) (es : List (List ℕ × P)) → list_all (λ e. not (pointwise nat_eq e.0 name)) es ≡ true → published_as name (seen kept (in_turn (turn_of turn) es)) ≡ None
none_found name kept turn es h =
    let ordered = all_in_turn (turn_of turn) (λ e. not (pointwise nat_eq e.0 name)) es h in
    none_in name (seen kept (in_turn (turn_of turn) es)) (all_seen kept (λ n. not (pointwise nat_eq n name)) (in_turn (turn_of turn) es) ∙ ordered)

other_case : (name : List ℕ) {P : Type 0} (kept : P → Kept) (turn : P → ℕ) (e x : List ℕ × P) (xs : List (List ℕ × P)) → published_as name (seen kept (insert_turn (turn_of turn) e xs)) ≡ published_as name (seen kept xs) → (t b : Bool) → ltb (turn e.1) (turn x.1) ≡ t → pointwise nat_eq x.0 name ≡ b → pointwise nat_eq e.0 name ≡ false → published_as name (seen kept (insert_turn (turn_of turn) e (x ∷ xs))) ≡ published_as name (seen kept (x ∷ xs))
other_case name kept turn e x xs later true b t is differs = rw (t, differs) refl
other_case name kept turn e x xs later false true t is differs = rw (t, is) refl
other_case name kept turn e x xs later false false t is differs = rw (t, is) later

-- an entry with another name
other_placed : (name : List ℕ) {P : Type 0} (kept : P → Kept) (turn : P → ℕ) (e : List ℕ × P) (xs : List (List ℕ × P)) → pointwise nat_eq e.0 name ≡ false → published_as name (seen kept (insert_turn (turn_of turn) e xs)) ≡ published_as name (seen kept xs)
other_placed name kept turn e [] differs = rw differs refl
other_placed name kept turn e (x ∷ xs) differs = other_case name kept turn e x xs (other_placed name kept turn e xs differs) (ltb (turn e.1) (turn x.1)) (pointwise nat_eq x.0 name) refl refl differs

here_case : (name : List ℕ) {P : Type 0} (kept : P → Kept) (turn : P → ℕ) (e x : List ℕ × P) (xs : List (List ℕ × P)) → (published_as name (seen kept xs) ≡ None → published_as name (seen kept (insert_turn (turn_of turn) e xs)) ≡ Some (kept e.1)) → (t b : Bool) → ltb (turn e.1) (turn x.1) ≡ t → pointwise nat_eq x.0 name ≡ b → pointwise nat_eq e.0 name ≡ true → published_as name (seen kept (x ∷ xs)) ≡ None → published_as name (seen kept (insert_turn (turn_of turn) e (x ∷ xs))) ≡ Some (kept e.1)
here_case name kept turn e x xs later true b t is it none = rw (t, it) refl
here_case name kept turn e x xs later false true t is it none = absurd (let there : Some (kept x.1) ≡ None = rw is at none in cc)
here_case name kept turn e x xs later false false t is it none = rw (t, is) (later (rw is at none))

-- the only entry with this name
here_placed : (name : List ℕ) {P : Type 0} (kept : P → Kept) (turn : P → ℕ) (e : List ℕ × P) (xs : List (List ℕ × P)) → pointwise nat_eq e.0 name ≡ true → published_as name (seen kept xs) ≡ None → published_as name (seen kept (insert_turn (turn_of turn) e xs)) ≡ Some (kept e.1)
here_placed name kept turn e [] it none = rw it refl
here_placed name kept turn e (x ∷ xs) it none = here_case name kept turn e x xs (λ h. here_placed name kept turn e xs it h) (ltb (turn e.1) (turn x.1)) (pointwise nat_eq x.0 name) refl refl it none

found_case : (name : List ℕ) {P : Type 0} (kept : P → Kept) (turn : P → ℕ) (e : List ℕ × P) (es : List (List ℕ × P)) → IsStrictlySortedBy by_hash (keys_of (e ∷ es)) → published_as name (seen kept (in_turn (turn_of turn) es)) ≡ option_map kept (lookup (at name) es) → (b : Bool) → at name e.0 ≡ b → published_as name (seen kept (insert_turn (turn_of turn) e (in_turn (turn_of turn) es))) ≡ option_map kept (lookup (at name) (e ∷ es))
found_case name kept turn e es s later true is =
    rw is (here_placed name kept turn e (in_turn (turn_of turn) es) (sym (at_is name e.0) ∙ is) (none_found name kept turn es (no_other name e es s is)))
found_case name kept turn e es s later false is =
    rw is (other_placed name kept turn e (in_turn (turn_of turn) es) (sym (at_is name e.0) ∙ is) ∙ later)

-- a look-up finds the publication with this name
pub found : (name : List ℕ) {P : Type 0} (kept : P → Kept) (turn : P → ℕ) (es : List (List ℕ × P)) → IsStrictlySortedBy by_hash (keys_of es) → published_as name (seen kept (in_turn (turn_of turn) es)) ≡ option_map kept (lookup (at name) es)
unfolding in_turn
found name kept turn [] s = refl
found name kept turn (e ∷ es) s = found_case name kept turn e es s (found name kept turn es (sorted_tail by_hash e.0 (keys_of es) s)) (at name e.0) refl

-- ---- removals

without_seen_case : (name : List ℕ) {P : Type 0} (kept : P → Kept) (x : List ℕ × P) (xs : List (List ℕ × P)) → published_without name (seen kept xs) ≡ seen kept (filter (λ e. not (pointwise nat_eq e.0 name)) xs) → (b : Bool) → pointwise nat_eq x.0 name ≡ b → published_without name (seen kept (x ∷ xs)) ≡ seen kept (filter (λ e. not (pointwise nat_eq e.0 name)) (x ∷ xs))
without_seen_case name kept x xs later true is = rw is later
without_seen_case name kept x xs later false is = rw is (ap (λ ys. shown kept x ∷ ys) later)

without_seen : (name : List ℕ) {P : Type 0} (kept : P → Kept) (xs : List (List ℕ × P)) → published_without name (seen kept xs) ≡ seen kept (filter (λ e. not (pointwise nat_eq e.0 name)) xs)
without_seen name kept [] = refl
without_seen name kept (x ∷ xs) = without_seen_case name kept x xs (without_seen name kept xs) (pointwise nat_eq x.0 name) refl

-- all entries stay
stay : {X : Type 0} (keeps : X → Bool) (xs : List X) → list_all keeps xs ≡ true → filter keeps xs ≡ xs
stay keeps [] h = refl
stay keeps (x ∷ xs) h =
    let p = parts_true (keeps x) (list_all keeps xs) h in
    rw p.0 (ap (λ ys. x ∷ ys) (stay keeps xs p.1))

left_case : (name : List ℕ) {P : Type 0} (turn : P → ℕ) (e : List ℕ × P) (es : List (List ℕ × P)) → IsStrictlySortedBy by_hash (keys_of (e ∷ es)) → in_turn (turn_of turn) (remove_entry (at name) es) ≡ filter (λ e. not (pointwise nat_eq e.0 name)) (in_turn (turn_of turn) es) → (b : Bool) → at name e.0 ≡ b → in_turn (turn_of turn) (remove_entry (at name) (e ∷ es)) ≡ filter (λ e. not (pointwise nat_eq e.0 name)) (insert_turn (turn_of turn) e (in_turn (turn_of turn) es))
unfolding in_turn
left_case name {P} turn e es s later true is =
    let keeps : List ℕ × P → Bool = λ e. not (pointwise nat_eq e.0 name) in
    let goes = ap not (sym (at_is name e.0) ∙ is) in
    let others = all_in_turn (turn_of turn) keeps es (no_other name e es s is) in
    rw is (sym (gone_placed (turn_of turn) keeps e (in_turn (turn_of turn) es) goes ∙ stay keeps (in_turn (turn_of turn) es) others))
left_case name {P} turn e es s later false is =
    let keeps : List ℕ × P → Bool = λ e. not (pointwise nat_eq e.0 name) in
    let stays = ap not (sym (at_is name e.0) ∙ is) in
    rw is (ap (insert_turn (turn_of turn) e) later ∙ sym (kept_in_turn (turn_of turn) keeps e es stays))

left : (name : List ℕ) {P : Type 0} (turn : P → ℕ) (es : List (List ℕ × P)) → IsStrictlySortedBy by_hash (keys_of es) → in_turn (turn_of turn) (remove_entry (at name) es) ≡ filter (λ e. not (pointwise nat_eq e.0 name)) (in_turn (turn_of turn) es)
unfolding in_turn
left name turn [] s = refl
left name turn (e ∷ es) s = left_case name turn e es s (left name turn es (sorted_tail by_hash e.0 (keys_of es) s)) (at name e.0) refl

-- after its entry is removed, the name is not published
pub removed : (name : List ℕ) {P : Type 0} (kept : P → Kept) (turn : P → ℕ) (es : List (List ℕ × P)) → IsStrictlySortedBy by_hash (keys_of es) → seen kept (in_turn (turn_of turn) (remove_entry (at name) es)) ≡ published_without name (seen kept (in_turn (turn_of turn) es))
removed name kept turn es s = ap (seen kept) (left name turn es s) ∙ sym (without_seen name kept (in_turn (turn_of turn) es))

-- ---- one more entry

more_case : {P : Type 0} (turn : P → ℕ) (k : List ℕ) (p : P) (e : List ℕ × P) (es : List (List ℕ × P)) → (lookup (is_at (by_hash k)) es ≡ None → in_turn (turn_of turn) (insert_entry by_hash es k p) ≡ in_turn (turn_of turn) es ++ (k, p) ∷ []) → (o : Ordering) → by_hash k e.0 ≡ o → lookup (is_at (by_hash k)) (e ∷ es) ≡ None → turn e.1 < turn p → list_all (λ f. nat_lt (turn f.1) (turn p)) (in_turn (turn_of turn) (e ∷ es)) ≡ true → in_turn (turn_of turn) (insert_entry by_hash (e ∷ es) k p) ≡ in_turn (turn_of turn) (e ∷ es) ++ (k, p) ∷ []
unfolding in_turn
more_case turn k p e es later Less is none lt all = rw is (placed_last (turn_of turn) (k, p) (insert_turn (turn_of turn) e (in_turn (turn_of turn) es)) all)
more_case turn k p e es later Equal is none lt all = absurd (let there : Some e.1 ≡ None = rw is at none in cc)
more_case turn k p e es later Greater is none lt all =
    rw is (ap (insert_turn (turn_of turn) e) (later (rw is at none)) ∙ placed_under (turn_of turn) e (k, p) (in_turn (turn_of turn) es) lt)

-- a new name with the latest turn comes last
more : {P : Type 0} (turn : P → ℕ) (k : List ℕ) (p : P) (es : List (List ℕ × P)) → lookup (is_at (by_hash k)) es ≡ None → list_all (λ e. nat_lt (turn e.1) (turn p)) es ≡ true → in_turn (turn_of turn) (insert_entry by_hash es k p) ≡ in_turn (turn_of turn) es ++ (k, p) ∷ []
unfolding in_turn
more turn k p [] none h = refl
more turn k p (e ∷ es) none h =
    let q = parts_true (ltb (turn e.1) (turn p)) (list_all (λ f. nat_lt (turn f.1) (turn p)) es) h in
    more_case turn k p e es (λ none. more turn k p es none q.1) (by_hash k e.0) refl none (ltb-true (turn e.1) (turn p) q.0) (all_in_turn (turn_of turn) (λ f. nat_lt (turn f.1) (turn p)) (e ∷ es) h)

pub added : {P : Type 0} (kept : P → Kept) (turn : P → ℕ) (k : List ℕ) (p : P) (es : List (List ℕ × P)) → lookup (is_at (by_hash k)) es ≡ None → list_all (λ e. nat_lt (turn e.1) (turn p)) es ≡ true → seen kept (in_turn (turn_of turn) (insert_entry by_hash es k p)) ≡ seen kept (in_turn (turn_of turn) es) ++ (record { name = k; kept = kept p }) ∷ []
added kept turn k p es none h = ap (seen kept) (more turn k p es none h) ∙ map-append (shown kept) (in_turn (turn_of turn) es) ((k, p) ∷ [])

-- ---- turns

later_turns : {P : Type 0} (turn : P → ℕ) (n m : ℕ) (es : List (List ℕ × P)) → n ≤ m → list_all (λ e. nat_lt (turn e.1) n) es ≡ true → list_all (λ e. nat_lt (turn e.1) m) es ≡ true
later_turns turn n m [] le h = refl
later_turns turn n m (e ∷ es) le h =
    let q = parts_true (ltb (turn e.1) n) (list_all (λ f. nat_lt (turn f.1) n) es) h in
    let lt = ltb-true (turn e.1) n q.0 in
    both_true (lt-ltb (turn e.1) m (omega (arith, lt, le))) (later_turns turn n m es le q.1)

all_inserted_case : {P : Type 0} (test : P → Bool) (k : List ℕ) (p : P) (e : List ℕ × P) (es : List (List ℕ × P)) → list_all (λ e. test e.1) (insert_entry by_hash es k p) ≡ true → (o : Ordering) → by_hash k e.0 ≡ o → test p ≡ true → list_all (λ e. test e.1) (e ∷ es) ≡ true → list_all (λ e. test e.1) (insert_entry by_hash (e ∷ es) k p) ≡ true
all_inserted_case test k p e es later Less is it h = rw is (both_true it h)
all_inserted_case test k p e es later Equal is it h = rw is (both_true it (parts_true (test e.1) (list_all (λ e. test e.1) es) h).1)
all_inserted_case test k p e es later Greater is it h = rw is (both_true (parts_true (test e.1) (list_all (λ e. test e.1) es) h).0 later)

all_inserted : {P : Type 0} (test : P → Bool) (k : List ℕ) (p : P) (es : List (List ℕ × P)) → test p ≡ true → list_all (λ e. test e.1) es ≡ true → list_all (λ e. test e.1) (insert_entry by_hash es k p) ≡ true
all_inserted test k p [] it h = both_true it refl
all_inserted test k p (e ∷ es) it h = all_inserted_case test k p e es (all_inserted test k p es it (parts_true (test e.1) (list_all (λ e. test e.1) es) h).1) (by_hash k e.0) refl it h

-- the next turn is later than all
pub turned : {P : Type 0} (turn : P → ℕ) (k : List ℕ) (p : P) (es : List (List ℕ × P)) → list_all (λ e. nat_lt (turn e.1) (turn p)) es ≡ true → list_all (λ e. nat_lt (turn e.1) (turn p + 1)) (insert_entry by_hash es k p) ≡ true
turned turn k p es h = all_inserted (λ q. nat_lt (turn q) (turn p + 1)) k p es (lt-ltb (turn p) (turn p + 1) (omega arith)) (later_turns turn (turn p) (turn p + 1) es (omega arith) h)

all_removed_case : {P : Type 0} (test : P → Bool) (name : List ℕ) (e : List ℕ × P) (es : List (List ℕ × P)) → test e.1 ≡ true → list_all (λ e. test e.1) es ≡ true → list_all (λ e. test e.1) (remove_entry (at name) es) ≡ true → (b : Bool) → at name e.0 ≡ b → list_all (λ e. test e.1) (remove_entry (at name) (e ∷ es)) ≡ true
all_removed_case test name e es it all later true b = rw b all
all_removed_case test name e es it all later false b = rw b (both_true it later)

pub all_removed : {P : Type 0} (test : P → Bool) (name : List ℕ) (es : List (List ℕ × P)) → list_all (λ e. test e.1) es ≡ true → list_all (λ e. test e.1) (remove_entry (at name) es) ≡ true
all_removed test name [] h = refl
all_removed test name (e ∷ es) h =
    let q = parts_true (test e.1) (list_all (λ e. test e.1) es) h in
    all_removed_case test name e es q.0 q.1 (all_removed test name es q.1) (at name e.0) refl
