-- A search in items sorted by name finds the least item of a name.
use Rattle.std.proofs.Common.{◌≡◌, ◌⊎◌, inl, inr, ℕ, zero, suc, ◌<◌, ◌≤◌, ltb, Bool, true, false, List, [], ◌∷◌, length, map, get_or, drop, Option, Some, None, refl, sym, ap, ◌∙◌, arith}
use Rattle.std.specs.Prelude.{nat_le, ◌==◌, ◌&&◌, ◌||◌, MatchOption}
use Rattle.std.specs.List.{list_any, Contains}
use Rattle.std.specs.List.Sorted.{IsSortedBy, IsPartitionedBy}
use Rattle.std.specs.Cmp.{nat_cmp_is}
use Rattle.std.proofs.lemmas.Bool.{eqb-true, leb-true, ltb-true, ltb-false, lt-ltb}
use Rattle.std.proofs.lemmas.List.{get_or-map, length-map}
use Rattle.std.proofs.lemmas.List.Elements.{Contains-get_or}
use Rattle.std.specs.Ordering.{is_lt, nat_cmp, ordering_then}
use Rattle.std.specs.declared.cmp.Ordering.{Ordering}
use Rattle.std.specs.declared.cmp.Ordering.TheVariants.{Less, Equal, Greater}
use Rattle.std.proofs.lemmas.List.Sorted.{sorted_far}
use Rattle.std.proofs.lemmas.Slice.Eq.{bytes_eq-Decides}
use Rattle.ctf_order.specs.Naming.{Naming, name_or_empty}
use Rattle.ctf_order.specs.Holding.{is_early, precedes, same_entry, IsFound, IsNamed, Stands}
use Rattle.ctf_order.specs.Names.{is_text, rank}
use Rattle.ctf_order.specs.Searching.{first_of}
use Rattle.ctf_order.specs.declared.entries.NamedItem.{NamedItem}
use Rattle.ctf_order.specs.declared.entries.Ranked.{Ranked}
use Rattle.ctf_order.proofs.Lent.{entry_in}
use Rattle.ctf_order.proofs.Ranks.{precedes_ranks}

-- ---- the order

abbrev pub called : Naming → NamedItem → List ℕ
called t e = name_or_empty t e.reference

not_less : (a b : ℕ) → is_lt (nat_cmp a b) ≡ false → b ≤ a
not_less a b g = by_case (ltb a b) refl
  where
    by_case : (u : Bool) → ltb a b ≡ u → b ≤ a
    by_case false e = ltb-false a b e
    by_case true e = absurd (let less : Less ≡ nat_cmp a b = nat_cmp_is a b Less (ltb-true a b e) in let bad : true ≡ false = ap is_lt less ∙ g in cc)

by_name : (o p : Ordering) → is_lt (ordering_then o p) ≡ false → is_lt o ≡ false
by_name Less p h = absurd cc
by_name Equal p h = refl
by_name Greater p h = refl

itself_equal : (n : ℕ) → nat_cmp n n ≡ Equal
itself_equal n = sym (nat_cmp_is n n Equal refl)

-- an entry that precedes another has a rank that is not greater
ranks_up : (t : Naming) (e f : NamedItem) → precedes t f e ≡ false → rank (called t e) ≤ rank (called t f)
ranks_up t e f far = not_less (rank (called t f)) (rank (called t e)) (by_name (nat_cmp (rank (called t f)) (rank (called t e))) (nat_cmp f.item e.item) far)

-- ---- one entry against a text

pub text_is : (t : Naming) (text : List ℕ) (e : NamedItem) → is_text (t e.reference) text ≡ true → IsNamed t text e
text_is t text e h = by_case (t e.reference) refl h
  where
    by_case : (o : Option (List ℕ)) → t e.reference ≡ o → is_text o text ≡ true → o ≡ Some text
    by_case None f g = absurd cc
    by_case (Some x) f g = ap Some ((bytes_eq-Decides x text).0 g)

is_text_of : (t : Naming) (text : List ℕ) (e : NamedItem) → IsNamed t text e → is_text (t e.reference) text ≡ true
is_text_of t text e h = rw h ((bytes_eq-Decides text text).1 refl)

-- ---- all entries from one on

-- every entry has a name
abbrev pub AllNamed : Naming → List NamedItem → Type 0
AllNamed t entries = (e : NamedItem) → Contains entries e → t e.reference ≡ Some (called t e)

-- no entry precedes an earlier one
abbrev pub Rises : Naming → List NamedItem → Type 0
Rises t entries = (i j : ℕ) (d : NamedItem) → i ≤ j → j < length entries → precedes t (get_or entries j d) (get_or entries i d) ≡ false

in_rest : (e f : NamedItem) (entries : List NamedItem) → Contains entries f → Contains (e ∷ entries) f
in_rest e f entries h = (suc h.0, omega (arith, h.1), h.2)

by_place : (e f : NamedItem) (entries : List NamedItem) → Contains (e ∷ entries) f → (e ≡ f) ⊎ Contains entries f
by_place e f entries (zero, lt, is) = inl is
by_place e f entries (suc k, lt, is) = inr (k, omega (arith, lt), is)

rises_on : (t : Naming) (e : NamedItem) (entries : List NamedItem) → Rises t (e ∷ entries) → Rises t entries
rises_on t e entries rises i j d le lt = rises (suc i) (suc j) d (omega (arith, le)) (omega (arith, lt))

from_first : (t : Naming) (e f : NamedItem) (entries : List NamedItem) → Rises t (e ∷ entries) → Contains entries f → precedes t f e ≡ false
from_first t e f entries rises (k, lt, is) = let far : precedes t (get_or entries k f) e ≡ false = rises 0 (suc k) f (omega arith) (omega (arith, lt)) in rw is at far

-- ---- the search

-- the least entry with the name
pub record LeastOf (t : Naming) (text : List ℕ) (entries : List NamedItem) (n : ℕ) : Type 0 where
  pub entry : NamedItem
  pub there : Contains entries entry
  pub named : IsNamed t text entry
  pub is : entry.item ≡ n
  pub least : (e : NamedItem) → Contains entries e → IsNamed t text e → n ≤ e.item

abbrev pub NoneOf : Naming → List ℕ → List NamedItem → Type 0
NoneOf t text entries = (e : NamedItem) → Contains entries e → IsNamed t text e → ⊥

abbrev pub Searched : Naming → List ℕ → List NamedItem → Option ℕ → Type 0
Searched t text entries found = MatchOption found (NoneOf t text entries) (LeastOf t text entries)

-- items with one name are in order
not_smaller : (o : Ordering) (a b : ℕ) → o ≡ Equal → is_lt (ordering_then o (nat_cmp a b)) ≡ false → b ≤ a
not_smaller o a b same h = not_less a b (rw same at h)

same_called : (t : Naming) (text : List ℕ) (e : NamedItem) → IsNamed t text e → called t e ≡ text
same_called t text e h = rw h refl

-- of two entries with one name, the first has the smaller item
in_order : (t : Naming) (text : List ℕ) (e f : NamedItem) → precedes t f e ≡ false → IsNamed t text e → IsNamed t text f → e.item ≤ f.item
in_order t text e f far is also =
    let tie : nat_cmp (rank (called t f)) (rank (called t e)) ≡ Equal = ap (λ x. nat_cmp (rank x) (rank (called t e))) (same_called t text f also) ∙ ap (λ x. nat_cmp (rank text) (rank x)) (same_called t text e is) ∙ itself_equal (rank text) in
    not_smaller (nat_cmp (rank (called t f)) (rank (called t e))) f.item e.item tie far

here : (t : Naming) (text : List ℕ) (e : NamedItem) (entries : List NamedItem) → Rises t (e ∷ entries) → IsNamed t text e → LeastOf t text (e ∷ entries) e.item
here t text e entries rises is = record { entry = e; there = (0, omega arith, refl); named = is; is = refl; least = λ f h also. least_case f also (by_place e f entries h) }
  where
    least_case : (f : NamedItem) → IsNamed t text f → (e ≡ f) ⊎ Contains entries f → e.item ≤ f.item
    least_case f also (inl same) = omega (arith, ap (λ (x : NamedItem). x.item) same)
    least_case f also (inr h) = in_order t text e f (from_first t e f entries rises h) is also

not_here : (t : Naming) (text : List ℕ) (e f : NamedItem) → is_text (t e.reference) text ≡ false → e ≡ f → IsNamed t text f → ⊥
not_here t text e f h same is = let bad : is_text (t e.reference) text ≡ true = is_text_of t text e (rw same is) in absurd cc

-- after an entry with a greater rank, all ranks are greater
past : (t : Naming) (text : List ℕ) (e f : NamedItem) → rank text < rank (called t e) → rank (called t e) ≤ rank (called t f) → IsNamed t text f → ⊥
past t text e f gt far is = absurd (omega (arith, gt, far, ap rank (same_called t text f is)))

none_past : (t : Naming) (text : List ℕ) (e : NamedItem) (entries : List NamedItem) → Rises t (e ∷ entries) → rank text < rank (called t e) → NoneOf t text (e ∷ entries)
none_past t text e entries rises gt f h is = none_case (by_place e f entries h)
  where
    none_case : (e ≡ f) ⊎ Contains entries f → ⊥
    none_case (inl same) = absurd (omega (arith, gt, ap (λ (x : NamedItem). rank (called t x)) same, ap rank (same_called t text f is)))
    none_case (inr there) = past t text e f gt (ranks_up t e f (from_first t e f entries rises there)) is

further : (t : Naming) (text : List ℕ) (e : NamedItem) (entries : List NamedItem) → is_text (t e.reference) text ≡ false → (found : Option ℕ) → Searched t text entries found → Searched t text (e ∷ entries) found
further t text e entries not None none = λ f h is. none_case f is (by_place e f entries h)
  where
    none_case : (f : NamedItem) → IsNamed t text f → (e ≡ f) ⊎ Contains entries f → ⊥
    none_case f is (inl same) = not_here t text e f not same is
    none_case f is (inr h) = none f h is
further t text e entries not (Some n) least = record { entry = least.entry; there = in_rest e least.entry entries least.there; named = least.named; is = least.is; least = λ f h is. least_case f is (by_place e f entries h) }
  where
    least_case : (f : NamedItem) → IsNamed t text f → (e ≡ f) ⊎ Contains entries f → n ≤ f.item
    least_case f is (inl same) = absurd (not_here t text e f not same is)
    least_case f is (inr h) = least.least f h is

search_case : (t : Naming) (text : List ℕ) (r : Ranked) (kept : List Ranked) → Rises t (r.entry ∷ map entry_in kept) → r.rank ≡ rank (called t r.entry) → Searched t text (map entry_in kept) (first_of t (rank text) text kept) → (a b : Bool) → ltb (rank text) r.rank ≡ a → is_text (t r.entry.reference) text ≡ b → Searched t text (map entry_in (r ∷ kept)) (first_of t (rank text) text (r ∷ kept))
unfolding first_of
search_case t text r kept rises ranks rest true b p q = rw p (none_past t text r.entry (map entry_in kept) rises (omega (arith, ltb-true (rank text) r.rank p, ranks)))
search_case t text r kept rises ranks rest false true p q = rw (p, q) (here t text r.entry (map entry_in kept) rises (text_is t text r.entry q))
search_case t text r kept rises ranks rest false false p q = rw (p, q) (further t text r.entry (map entry_in kept) q (first_of t (rank text) text kept) rest)

-- each rank is that of the item's name
abbrev pub AllRanked : Naming → List Ranked → Type 0
AllRanked t kept = (r : Ranked) → Contains kept r → r.rank ≡ rank (called t r.entry)

kept_on : (r s : Ranked) (kept : List Ranked) → Contains kept s → Contains (r ∷ kept) s
kept_on r s kept h = (suc h.0, omega (arith, h.1), h.2)

pub searched : (t : Naming) (text : List ℕ) (kept : List Ranked) → AllRanked t kept → Rises t (map entry_in kept) → Searched t text (map entry_in kept) (first_of t (rank text) text kept)
unfolding first_of
searched t text [] ranked rises = λ e h is. absurd (omega (arith, h.1))
searched t text (r ∷ kept) ranked rises =
    search_case t text r kept rises (ranked r (0, omega arith, refl)) (searched t text kept (λ s h. ranked s (kept_on r s kept h)) (rises_on t r.entry (map entry_in kept) rises)) (ltb (rank text) r.rank) (is_text (t r.entry.reference) text) refl refl

not_ltb : (a b : ℕ) → b ≤ a → ltb a b ≡ false
not_ltb a b le = by_case (ltb a b) refl
  where
    by_case : (u : Bool) → ltb a b ≡ u → u ≡ false
    by_case false e = refl
    by_case true e = absurd (omega (arith, le, ltb-true a b e))

-- ---- entries with lower ranks come first

skipped_one : (t : Naming) (text : List ℕ) (r : Ranked) → r.rank ≡ rank (called t r.entry) → r.rank < rank text → (ltb (rank text) r.rank ≡ false) × (is_text (t r.entry.reference) text ≡ false)
skipped_one t text r ranks lower = (not_ltb (rank text) r.rank (omega (arith, lower)), not_text (is_text (t r.entry.reference) text) refl)
  where
    not_text : (u : Bool) → is_text (t r.entry.reference) text ≡ u → u ≡ false
    not_text false e = refl
    not_text true e = absurd (omega (arith, lower, ranks, ap rank (same_called t text r.entry (text_is t text r.entry e))))

pub skipped : (t : Naming) (text : List ℕ) (from : ℕ) (kept : List Ranked) → AllRanked t kept → ((j : ℕ) (d : Ranked) → j < from → j < length kept → (get_or kept j d).rank < rank text) → first_of t (rank text) text kept ≡ first_of t (rank text) text (drop from kept)
unfolding first_of
skipped t text zero kept ranked before = refl
skipped t text (suc n) [] ranked before = refl
skipped t text (suc n) (r ∷ kept) ranked before =
    let one = skipped_one t text r (ranked r (0, omega arith, refl)) (before 0 r (omega arith) (omega arith)) in
    rw (one.0, one.1) (skipped t text n kept (λ s h. ranked s (kept_on r s kept h)) (λ j d lt inside. before (suc j) d (omega (arith, lt)) (omega (arith, inside))))

-- ---- the index of a text

pub rises_by : (t : Naming) (entries : List NamedItem) → IsSortedBy (precedes t) entries → Rises t entries
rises_by t entries sorted i j d le lt = sorted_far (precedes t) (precedes_ranks t) entries sorted i j d le lt

-- ranks ascend
pub ranks_rise : (t : Naming) (kept : List Ranked) → AllRanked t kept → Rises t (map entry_in kept) → (i j : ℕ) (d : Ranked) → i ≤ j → j < length kept → (get_or kept i d).rank ≤ (get_or kept j d).rank
ranks_rise t kept ranked rises i j d le lt =
    let x = get_or kept i d in
    let y = get_or kept j d in
    let near : i < length kept = omega (arith, le, lt) in
    let first : get_or (map entry_in kept) i d.entry ≡ x.entry = get_or-map entry_in kept i d d.entry near in
    let second : get_or (map entry_in kept) j d.entry ≡ y.entry = get_or-map entry_in kept j d d.entry lt in
    let far : precedes t y.entry x.entry ≡ false = rw (first, second) at (rises i j d.entry le (omega (arith, lt, length-map kept entry_in))) in
    omega (arith, ranks_up t x.entry y.entry far, ranked x (Contains-get_or kept i d near), ranked y (Contains-get_or kept j d lt))

pub parted : (t : Naming) (text : List ℕ) (kept : List Ranked) → AllRanked t kept → Rises t (map entry_in kept) → IsPartitionedBy (λ r. ltb r.rank (rank text)) kept
parted t text kept ranked rises i j d le lt h = lt-ltb (get_or kept i d).rank (rank text) (omega (arith, ranks_rise t kept ranked rises i j d le lt, ltb-true (get_or kept j d).rank (rank text) h))

-- ---- items

pub any_from : {X : Type 0} (p : X → Bool) (xs : List X) → list_any p xs ≡ true → (x : X) × Contains xs x × (p x ≡ true)
any_from p [] h = absurd cc
any_from p (x ∷ xs) h = either_way (p x) refl h (any_from p xs)
  where
    either_way : (u : Bool) → p x ≡ u → (u || list_any p xs) ≡ true → (list_any p xs ≡ true → (y : _) × Contains xs y × (p y ≡ true)) → (y : _) × Contains (x ∷ xs) y × (p y ≡ true)
    either_way true e g rest = (x, (0, omega arith, refl), e)
    either_way false e g rest = let one = rest g in (one.0, (suc one.1.0, omega (arith, one.1.1), one.1.2), one.2)

pub both : (a b : Bool) → (a && b) ≡ true → (a ≡ true) × (b ≡ true)
both true b h = (refl, h)
both false b h = absurd cc

-- an item with that name which is not greater
pub record HasFirst (t : Naming) (text : List ℕ) (entries : List NamedItem) (item : ℕ) : Type 0 where
  pub entry : NamedItem
  pub there : Contains entries entry
  pub named : IsNamed t text entry
  pub least : entry.item ≤ item

pub has_first : (t : Naming) (text : List ℕ) (entries : List NamedItem) (item : ℕ) → list_any (is_early t text item) entries ≡ true → HasFirst t text entries item
has_first t text entries item h =
    let one = any_from (is_early t text item) entries h in
    let says = both (nat_le one.0.item item) (is_text (t one.0.reference) text) one.2 in
    record { entry = one.0; there = one.1; named = text_is t text one.0 says.1; least = leb-true one.0.item item says.0 }

pub found_by : (t : Naming) (items entries : List NamedItem) (text : List ℕ) → Stands t items entries → (found : Option ℕ) → Searched t text entries found → IsFound t items text found
found_by t items entries text stands None none = λ e h is. let has = has_first t text entries e.item (stands.all e text h is) in none has.entry has.there has.named
found_by t items entries text stands (Some n) least =
    let one = any_from (same_entry least.entry) items (stands.inside least.entry least.there) in
    let same = both (least.entry.reference == one.0.reference) (least.entry.item == one.0.item) one.2 in
    let reference : least.entry.reference ≡ one.0.reference = eqb-true least.entry.reference one.0.reference same.0 in
    let item : least.entry.item ≡ one.0.item = eqb-true least.entry.item one.0.item same.1 in
    record { entry = one.0; there = one.1; named = rw reference at least.named; is = sym item ∙ least.is; least = λ e h is. least_case e (has_first t text entries e.item (stands.all e text h is)) }
  where
    least_case : (e : NamedItem) → HasFirst t text entries e.item → n ≤ e.item
    least_case e has = omega (arith, least.least has.entry has.there has.named, has.least)

-- ---- a step of the loop

pub step_stop : (t : Naming) (rank : ℕ) (text : List ℕ) (r : Ranked) (kept : List Ranked) → rank < r.rank → first_of t rank text (r ∷ kept) ≡ None
unfolding first_of
step_stop t rank text r kept p = rw (lt-ltb rank r.rank p) refl

pub step_found : (t : Naming) (rank : ℕ) (text : List ℕ) (r : Ranked) (kept : List Ranked) → r.rank ≤ rank → is_text (t r.entry.reference) text ≡ true → first_of t rank text (r ∷ kept) ≡ Some r.entry.item
unfolding first_of
step_found t rank text r kept p q = rw (not_ltb rank r.rank p, q) refl

pub step_on : (t : Naming) (rank : ℕ) (text : List ℕ) (r : Ranked) (kept : List Ranked) → r.rank ≤ rank → is_text (t r.entry.reference) text ≡ false → first_of t rank text (r ∷ kept) ≡ first_of t rank text kept
unfolding first_of
step_on t rank text r kept p q = rw (not_ltb rank r.rank p, q) refl

pub step_end : (t : Naming) (rank : ℕ) (text : List ℕ) → first_of t rank text [] ≡ None
unfolding first_of
step_end t rank text = refl
