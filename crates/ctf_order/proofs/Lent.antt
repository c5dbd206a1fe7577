-- Items with the ranks of their names: one more at a time, and sorted.
use Rattle.std.proofs.Common.{◌≡◌, ◌⊎◌, inl, inr, ℕ, zero, suc, ◌+◌, ◌==◌, ◌<◌, ◌≤◌, Bool, true, false, List, [], ◌∷◌, ◌++◌, length, map, get_or, Option, Some, None, refl, ap, ◌∙◌, arith}
use Rattle.std.specs.Prelude.{nat_le, ◌&&◌, ◌||◌}
use Rattle.std.specs.List.{list_any, Contains}
use Rattle.std.specs.Option.{option_map, ForSome}
use Rattle.std.proofs.lemmas.Bool.{eqb-true, leb-true, le-leb}
use Rattle.std.proofs.lemmas.Bool.Decides.{Decides-eqb}
use Rattle.std.proofs.lemmas.Slice.Eq.{bytes_eq-Decides}
use Rattle.std.proofs.lemmas.List.Elements.{Contains-append_left, Contains-append_right, Contains-append_cases, Contains-get_or}
use Rattle.std.specs.List.Sorted.{IsPermutation, IsSortedBy}
use Rattle.std.proofs.lemmas.List.{get_or-map, length-map}
use Rattle.std.proofs.lemmas.List.Sorted.{Contains-permutation, IsPermutation-sym}
use Rattle.ctf_order.specs.Naming.{Naming, name_or_empty}
use Rattle.ctf_order.specs.Names.{rank}
use Rattle.ctf_order.specs.Holding.{is_early, precedes, same_entry, Fits, IsNamed, Stands}
use Rattle.ctf_order.specs.Lending.{goes_before, repeats, HasRanked, IsLent, IsRanked, Ranks}
use Rattle.ctf_order.specs.declared.order.Order.{Order}
use Rattle.ctf_order.specs.declared.entries.NamedItem.{NamedItem}
use Rattle.ctf_order.specs.declared.entries.Ranked.{Ranked}
use Rattle.ctf_order.specs.declared.lending.Named.{Named}

pub only : {X : Type 0} (x y : X) → Contains (x ∷ []) y → x ≡ y
only x y (zero, lt, is) = is
only x y (suc k, lt, is) = absurd (omega (arith, lt))

pub itself : {X : Type 0} (x : X) → Contains (x ∷ []) x
itself x = (0, omega arith, refl)

-- ---- one more item

-- an item with the same name that is not greater is already there
abbrev WasThere : Naming → List Ranked → NamedItem → Type 0
WasThere t ranked x = (text : List ℕ) → IsNamed t text x → HasRanked t text ranked x.item

-- the item is among these
pub record HasEntry (ranked : List Ranked) (e : NamedItem) : Type 0 where
  pub one : Ranked
  pub there : Contains ranked one
  pub is : one.entry ≡ e

-- the items ranked so far, and the last one with its name
pub record SoFar (t : Naming) (items : List NamedItem) (ranked : List Ranked) (before : Option Named) : Type 0 where
  pub ranks : Ranks t items ranked
  pub lent : ForSome before (IsLent t)
  pub there : ForSome before (λ n. HasEntry ranked n.entry)

same_item : (a b : ℕ) (c : Bool) → (a == b && c) ≡ true → (a ≡ b) × (c ≡ true)
same_item a b c h = by_case (a == b) refl h
  where
    by_case : (t : Bool) → a == b ≡ t → (t && c) ≡ true → (a ≡ b) × (c ≡ true)
    by_case true e g = (eqb-true a b e, g)
    by_case false e g = absurd cc

repeated : (t : Naming) (ranked : List Ranked) (x : NamedItem) (before : Option Named) → ForSome before (λ n. HasEntry ranked n.entry) → repeats (option_map (λ n. n.entry) before) x ≡ true → WasThere t ranked x
repeated t ranked x None there h = absurd cc
repeated t ranked x (Some n) there h =
    let has : HasEntry ranked n.entry = there n refl in
    let same = same_item n.entry.reference x.reference (nat_le n.entry.item x.item) h in
    λ text is. record { one = has.one; there = has.there; called = rw (has.is, same.0) is; least = rw has.is (leb-true n.entry.item x.item same.1) }

nameless : (t : Naming) (ranked : List Ranked) (x : NamedItem) → t x.reference ≡ None → WasThere t ranked x
nameless t ranked x h = λ text is. absurd cc

was_there : (t : Naming) (ranked : List Ranked) (x : NamedItem) (before : Option Named) → ForSome before (λ n. HasEntry ranked n.entry) → (repeats (option_map (λ n. n.entry) before) x ≡ true) ⊎ (t x.reference ≡ None) → WasThere t ranked x
was_there t ranked x before there (inl h) = repeated t ranked x before there h
was_there t ranked x before there (inr h) = nameless t ranked x h

pub left_out : (t : Naming) (xs : List NamedItem) (x : NamedItem) (ranked : List Ranked) (before : Option Named) → SoFar t xs ranked before → (repeats (option_map (λ n. n.entry) before) x ≡ true) ⊎ (t x.reference ≡ None) → SoFar t (xs ++ x ∷ []) ranked before
left_out t xs x ranked before far why = record {
  ranks = record { inside = λ r h. Contains-append_left xs (x ∷ []) r.entry (far.ranks.inside r h); right = far.ranks.right; all = λ e text h is. all_case e text is (Contains-append_cases xs (x ∷ []) e h) };
  lent = far.lent;
  there = far.there;
}
  where
    all_case : (e : NamedItem) (text : List ℕ) → IsNamed t text e → Contains xs e ⊎ Contains (x ∷ []) e → HasRanked t text ranked e.item
    all_case e text is (inl h) = far.ranks.all e text h is
    all_case e text is (inr h) = rw (← only x e h) (was_there t ranked x before far.there why text (rw (only x e h) is))

more : (t : Naming) (text : List ℕ) (ranked : List Ranked) (r : Ranked) (item : ℕ) → HasRanked t text ranked item → HasRanked t text (ranked ++ r ∷ []) item
more t text ranked r item has = record { one = has.one; there = Contains-append_left ranked (r ∷ []) has.one has.there; called = has.called; least = has.least }

added : (t : Naming) (xs : List NamedItem) (x : NamedItem) (ranked : List Ranked) (r : Ranked) → Ranks t xs ranked → r.entry ≡ x → IsRanked t r → Ranks t (xs ++ x ∷ []) (ranked ++ r ∷ [])
added t xs x ranked r ranks is right = record { inside = λ s h. inside_case s (Contains-append_cases ranked (r ∷ []) s h); right = λ s h. right_case s (Contains-append_cases ranked (r ∷ []) s h); all = λ e text h called. all_case e text called (Contains-append_cases xs (x ∷ []) e h) }
  where
    inside_case : (s : Ranked) → Contains ranked s ⊎ Contains (r ∷ []) s → Contains (xs ++ x ∷ []) s.entry
    inside_case s (inl h) = Contains-append_left xs (x ∷ []) s.entry (ranks.inside s h)
    inside_case s (inr h) = rw (← only r s h, is) (Contains-append_right xs (x ∷ []) x (itself x))

    right_case : (s : Ranked) → Contains ranked s ⊎ Contains (r ∷ []) s → IsRanked t s
    right_case s (inl h) = ranks.right s h
    right_case s (inr h) = rw (← only r s h) right

    all_case : (e : NamedItem) (text : List ℕ) → IsNamed t text e → Contains xs e ⊎ Contains (x ∷ []) e → HasRanked t text (ranked ++ r ∷ []) e.item
    all_case e text called (inl h) = more t text ranked r e.item (ranks.all e text h called)
    all_case e text called (inr h) =
        let same : r.entry ≡ e = is ∙ only x e h in
        record { one = r; there = Contains-append_right ranked (r ∷ []) r (itself r); called = rw same called; least = omega (arith, ap (λ (y : NamedItem). y.item) same) }

some_same : (n m : Named) → ◌≡◌ {A = Option Named} (Some n) (Some m) → n ≡ m
some_same n m h = cc

for_same : (ranked : List Ranked) (n m : Named) → n ≡ m → HasEntry ranked n.entry → HasEntry ranked m.entry
for_same ranked n m same h = rw same at h

pub taken : (t : Naming) (xs : List NamedItem) (x : NamedItem) (ranked : List Ranked) (n : Named) (before : Option Named) → SoFar t xs ranked before → n.entry ≡ x → IsLent t n → SoFar t (xs ++ x ∷ []) (ranked ++ record { rank = rank n.name.now; entry = n.entry } ∷ []) (Some n)
taken t xs x ranked n before far is lent = record {
  ranks = added t xs x ranked (record { rank = rank n.name.now; entry = n.entry }) far.ranks is (record { name = n.name.now; called = lent; ranks = refl });
  lent = λ m same. rw (some_same n m same) at lent;
  there = λ m same. for_same _ n m (some_same n m same) here;
}
  where
    here : HasEntry (ranked ++ record { rank = rank n.name.now; entry = n.entry } ∷ []) n.entry
    here = record { one = record { rank = rank n.name.now; entry = n.entry }; there = Contains-append_right ranked _ _ (itself _); is = refl }

-- ---- sorted

abbrev pub entry_in : Ranked → NamedItem
entry_in r = r.entry

in_map : (ranked : List Ranked) (r : Ranked) → Contains ranked r → Contains (map entry_in ranked) r.entry
in_map [] r h = absurd (omega (arith, h.1))
in_map (s ∷ ranked) r (zero, lt, is) = (0, omega arith, ap entry_in is)
in_map (s ∷ ranked) r (suc k, lt, is) = let rest = in_map ranked r (k, omega (arith, lt), is) in (suc rest.0, omega (arith, rest.1), rest.2)

from_map : (ranked : List Ranked) (e : NamedItem) → Contains (map entry_in ranked) e → (r : Ranked) × Contains ranked r × (r.entry ≡ e)
from_map [] e h = absurd (omega (arith, h.1))
from_map (s ∷ ranked) e (zero, lt, is) = (s, (0, omega arith, refl), is)
from_map (s ∷ ranked) e (suc k, lt, is) = let rest = from_map ranked e (k, omega (arith, lt), is) in (rest.0, (suc rest.1.0, omega (arith, rest.1.1), rest.1.2), rest.2)

pub any_to : {X : Type 0} (p : X → Bool) (xs : List X) (x : X) → p x ≡ true → Contains xs x → list_any p xs ≡ true
any_to p [] x is h = absurd (omega (arith, h.1))
any_to p (y ∷ xs) x is (zero, lt, same) = rw (same, is) refl
any_to p (y ∷ xs) x is (suc k, lt, same) = either_way (p y) (list_any p xs) (any_to p xs x is (k, omega (arith, lt), same))
  where
    either_way : (a b : Bool) → b ≡ true → (a || b) ≡ true
    either_way true b e = refl
    either_way false b e = e

pub same_itself : (e : NamedItem) → same_entry e e ≡ true
same_itself e = rw ((Decides-eqb e.reference e.reference).1 refl, (Decides-eqb e.item e.item).1 refl) refl

pub early : (t : Naming) (text : List ℕ) (item : ℕ) (e : NamedItem) → e.item ≤ item → IsNamed t text e → is_early t text item e ≡ true
early t text item e le is = rw (le-leb e.item item le, is, (bytes_eq-Decides text text).1 refl) refl

named_so : (t : Naming) (r : Ranked) → IsRanked t r → t r.entry.reference ≡ Some (name_or_empty t r.entry.reference)
named_so t r right = rw right.called refl

ranked_so : (t : Naming) (r : Ranked) → IsRanked t r → r.rank ≡ rank (name_or_empty t r.entry.reference)
ranked_so t r right = rw right.called right.ranks

pub stands : (t : Naming) (items sorted : List NamedItem) (ranked arranged : List Ranked) → IsPermutation items sorted → Ranks t sorted ranked → IsPermutation ranked arranged → Stands t items (map entry_in arranged)
stands t items sorted ranked arranged same ranks moved = record { inside = inside_of; named = named_of; all = all_of }
  where
    back : (r : Ranked) → Contains arranged r → Contains ranked r
    back r h = Contains-permutation arranged ranked r (IsPermutation-sym ranked arranged moved) h

    inside_of : (e : NamedItem) → Contains (map entry_in arranged) e → list_any (same_entry e) items ≡ true
    inside_of e h =
        let one = from_map arranged e h in
        let there : Contains items one.0.entry = Contains-permutation sorted items one.0.entry (IsPermutation-sym items sorted same) (ranks.inside one.0 (back one.0 one.1)) in
        let here : Contains items e = rw one.2 at there in
        any_to (same_entry e) items e (same_itself e) here

    named_of : (e : NamedItem) → Contains (map entry_in arranged) e → t e.reference ≡ Some (name_or_empty t e.reference)
    named_of e h =
        let one = from_map arranged e h in
        rw one.2 at (named_so t one.0 (ranks.right one.0 (back one.0 one.1)))

    all_of : (e : NamedItem) (text : List ℕ) → Contains items e → IsNamed t text e → list_any (is_early t text e.item) (map entry_in arranged) ≡ true
    all_of e text h is =
        let one = ranks.all e text (Contains-permutation items sorted e same h) is in
        any_to (is_early t text e.item) (map entry_in arranged) one.one.entry (early t text e.item one.one.entry one.least one.called) (in_map arranged one.one (Contains-permutation ranked arranged one.one moved one.there))

ranked_order : (t : Naming) (a b : Ranked) → IsRanked t a → IsRanked t b → precedes t a.entry b.entry ≡ goes_before a b
ranked_order t a b p q = rw (ranked_so t a p, ranked_so t b q) refl

pub in_order : (t : Naming) (arranged : List Ranked) → ((r : Ranked) → Contains arranged r → IsRanked t r) → IsSortedBy goes_before arranged → IsSortedBy (precedes t) (map entry_in arranged)
in_order t [] right up k d low high = absurd (omega (arith, high))
in_order t (m ∷ ms) right up k d low high =
    let all = m ∷ ms in
    let inside : k + 1 < length all = omega (arith, high, length-map all entry_in) in
    let near : k < length all = omega (arith, inside) in
    let x : get_or (map entry_in all) k d ≡ entry_in (get_or all k m) = get_or-map entry_in all k m d near in
    let y : get_or (map entry_in all) (k + 1) d ≡ entry_in (get_or all (k + 1) m) = get_or-map entry_in all (k + 1) m d inside in
    rw (x, y) (ranked_order t (get_or all (k + 1) m) (get_or all k m) (right _ (Contains-get_or all (k + 1) m inside)) (right _ (Contains-get_or all k m near)) ∙ up k m low inside)

pub fits : (t : Naming) (items sorted : List NamedItem) (ranked : List Ranked) (o : Order) → IsPermutation items sorted → Ranks t sorted ranked → IsPermutation ranked o.entries.items → IsSortedBy goes_before o.entries.items → Fits t items o
fits t items sorted ranked o same ranks moved up = record {
  stands = stands t items sorted ranked o.entries.items same ranks moved;
  sorted = in_order t o.entries.items right up;
  ranked = λ r h. ranked_so t r (right r h);
}
  where
    right : (r : Ranked) → Contains o.entries.items r → IsRanked t r
    right r h = ranks.right r (Contains-permutation o.entries.items ranked r (IsPermutation-sym ranked o.entries.items moved) h)

-- a permutation of the items has the same ranks
pub ranks_moved : (t : Naming) (items sorted : List NamedItem) (ranked : List Ranked) → IsPermutation items sorted → Ranks t sorted ranked → Ranks t items ranked
ranks_moved t items sorted ranked same ranks = record {
  inside = λ r h. Contains-permutation sorted items r.entry (IsPermutation-sym items sorted same) (ranks.inside r h);
  right = ranks.right;
  all = λ e text h is. ranks.all e text (Contains-permutation items sorted e same h) is;
}
