-- The work that the search may still cause.
use Rattle.std.proofs.Common.{◌≡◌, ℕ, zero, suc, ◌+◌, ◌≤◌, ◌<◌, List, [], ◌∷◌, length, Option, get_or, set, slice_index_or, slice_set, refl, subst, arith}
use Rattle.ctf_chains.specs.Places.{Places, places_at, full_work}
use Rattle.ctf_chains.specs.Search.{busy, debt, work_left}

work_set : (all : Places) (known : List ℕ) (i entry : ℕ) → i < length all → i < length known → work_left all (set known i entry) + debt (places_at all i) (get_or known i 0) ≡ work_left all known + debt (places_at all i) entry
unfolding work_left
work_set [] known i entry a b = absurd (omega arith)
work_set (places ∷ all) [] i entry a b = absurd (omega arith)
work_set (places ∷ all) (old ∷ known) zero entry a b = omega arith
work_set (places ∷ all) (old ∷ known) (suc i) entry a b = omega (arith, work_set all known i entry (omega arith) (omega arith))

-- opening a record pays for its places
pub work_opened : (all : Places) (known : List ℕ) (i : ℕ) → i < length all → i < length known → slice_index_or known i 0 ≡ 0 → work_left all (slice_set known i busy) + (1 + length (places_at all i)) ≡ work_left all known
work_opened all known i a b is =
    let P : ℕ → Type 0 = λ v. work_left all (set known i busy) + debt (places_at all i) v ≡ work_left all known + 0 in
    let h : work_left all (set known i busy) + (1 + length (places_at all i)) ≡ work_left all known + 0 = subst P is (work_set all known i busy a b) in
    omega arith

owed_none : (places : List (Option ℕ)) (entry : ℕ) → 1 ≤ entry → debt places entry ≡ 0
owed_none places zero some = absurd (omega arith)
owed_none places (suc entry) some = refl

-- closing it costs nothing
pub work_closed : (all : Places) (known : List ℕ) (i entry : ℕ) → i < length all → i < length known → 1 ≤ slice_index_or known i 0 → 1 ≤ entry → work_left all (slice_set known i entry) ≡ work_left all known
work_closed all known i entry a b was some =
    omega (arith, work_set all known i entry a b, owed_none (places_at all i) (get_or known i 0) was, owed_none (places_at all i) entry some)

-- a full table leaves no work
pub none_left : (all : Places) (known : List ℕ) → ((j : ℕ) → j < length all → 1 ≤ slice_index_or known j 0) → work_left all known ≡ 0
unfolding work_left
none_left [] known h = refl
none_left (places ∷ all) [] h = refl
none_left (places ∷ all) (entry ∷ known) h =
    let here : debt places entry ≡ 0 = owed_none places entry (h 0 (omega arith)) in
    let rest : work_left all known ≡ 0 = none_left all known (λ j lt. h (suc j) (omega arith)) in
    omega arith

-- an empty table leaves all work
pub all_left : (all : Places) (known : List ℕ) → length known ≡ length all → ((j : ℕ) → slice_index_or known j 0 ≡ 0) → work_left all known ≡ full_work all
unfolding work_left
all_left [] known e h = refl
all_left (places ∷ all) [] e h = absurd (omega arith)
all_left (places ∷ all) (entry ∷ known) e h =
    let entry_is : entry ≡ 0 = h 0 in
    let rest : work_left all known ≡ full_work all = all_left all known (omega arith) (λ j. h (suc j)) in
    rw (entry_is, rest) refl
