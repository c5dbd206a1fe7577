-- The order of the names of publications. Any total order would do: contracts see publications in
-- the order of their publishing. Source: ours.
use Rattle.std.specs.Prelude.{◌≡◌, ℕ, List, false, IsTrue, Some, nat_eq}
use Rattle.std.proofs.Common.{◌∙◌, ap, refl, sym}
use Rattle.std.specs.Cmp.{IsPartialOrder, IsTotalOrder, nat_cmp_total, on_total, po}
use Rattle.std.specs.Cmp.{then_total, tied_itself}
use Rattle.std.specs.Cmp.Lexicographic.{nat_list_cmp_total, pointwise, slice_cmp, texts_ties}
use Rattle.std.specs.Ordering.{eq_by_cmp, is_eq, is_le, nat_cmp, ordering_then}
use Rattle.std.specs.declared.cmp.Ordering.{Ordering}
use Rattle.std.specs.declared.cmp.Ordering.TheVariants.{Equal, Greater, Less}
use Rattle.std.proofs.lemmas.Map.Lookups.{exact_bytes}
use Rattle.ctf_order.specs.Names.{hash}

-- a hash and a name
abbrev pub Hashed : Type 0
Hashed = ℕ × List ℕ

-- by the hashes; with the same hash, by the names
abbrev pub order_of : Hashed → Hashed → Ordering
order_of x y = ordering_then (nat_cmp x.0 y.0) (slice_cmp nat_cmp x.1 y.1)

abbrev pub hashed : List ℕ → Hashed
hashed name = (hash name, name)

abbrev pub by_hash : List ℕ → List ℕ → Ordering
by_hash x y = order_of (hashed x) (hashed y)

-- ---- laws

pub order_of-total : IsTotalOrder order_of
order_of-total =
    then_total (on_total (λ (x : Hashed). x.0) nat_cmp_total)
    (on_total (λ (x : Hashed). x.1) nat_list_cmp_total)

pub by_hash-total : IsTotalOrder by_hash
by_hash-total = on_total hashed order_of-total

pub order_of-below : (x y z : Hashed) → IsTrue (is_le (order_of x y)) → order_of y z ≡ Less
    → order_of x z ≡ Less
order_of-below x y z le lt = by_order (order_of x y) refl
  where
    by_order : (o : Ordering) → order_of x y ≡ o → order_of x z ≡ Less
    by_order Less is = order_of-total.trans x y z is lt
    by_order Equal is = order_of-total.congr x y z is ∙ lt
    by_order Greater is = absurd (let above : IsTrue (is_le Greater) = rw is at le in cc)

differ : (o p : Ordering) → is_eq p ≡ false → is_eq (ordering_then o p) ≡ false
differ Less p h = refl
differ Equal p h = h
differ Greater p h = refl

-- two names are equal exactly if no order is between them
pub by_hash-ties : (x y : List ℕ) → pointwise nat_eq x y ≡ eq_by_cmp by_hash x y
by_hash-ties x y = texts_ties x y ∙ by_names (slice_cmp nat_cmp x y) refl
  where
    unlike : is_eq (slice_cmp nat_cmp x y) ≡ false
        → is_eq (slice_cmp nat_cmp x y) ≡ is_eq (by_hash x y)
    unlike is = is ∙ sym (differ (nat_cmp (hash x) (hash y)) (slice_cmp nat_cmp x y) is)

    by_names : (o : Ordering) → slice_cmp nat_cmp x y ≡ o
        → is_eq (slice_cmp nat_cmp x y) ≡ is_eq (by_hash x y)
    by_names Equal is =
        let same = exact_bytes x y is in
        let itself = ap is_eq (tied_itself by_hash-total x) in
        ap is_eq is ∙ sym (ap (λ (n : List ℕ). is_eq (by_hash x n)) (sym same) ∙ itself)
    by_names Less is = unlike (ap is_eq is)
    by_names Greater is = unlike (ap is_eq is)

pub by_hash-partial : IsPartialOrder (pointwise nat_eq) (λ x y. Some (by_hash x y))
by_hash-partial = po by_hash-total by_hash-ties
