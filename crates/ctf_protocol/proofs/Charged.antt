-- The effect of steps on the charge of a library.
use Rattle.std.proofs.Common.{◌≡◌, ◌≤◌, ◌<◌, ℕ, ◌+◌, List, [], ◌∷◌, ◌++◌, length, Bool, true, false, Some, eqb, sum_by, refl, ap, arith}
use Rattle.std.specs.Prelude.{unwrap_or, filter}
use Rattle.std.proofs.lemmas.Bool.{le-ltb, lt-ltb}
use Rattle.std.proofs.lemmas.List.{length-append}
use Rattle.std.proofs.lemmas.List.Sums.{sum_by-cons, sum_by_push}
use Rattle.ctf_model.specs.format.Lists.{Lists}
use Rattle.ctf_model.specs.spaces.Kept.{Kept}
use Rattle.ctf_model.specs.declared.faults.TheConstants.Fault.{QUOTA_FULL}
use Rattle.ctf_protocol.specs.sessions.Charges.{charge, publication_bytes, slot_bytes}
use Rattle.ctf_model.specs.opened.Sizes.{kept_bytes, lists_bytes, parent_bytes}
use Rattle.ctf_protocol.specs.sessions.Slots.{slots_with}
use Rattle.ctf_protocol.specs.sessions.State.{Publication, Slot, State}
use Rattle.ctf_protocol.specs.sessions.Outcomes.{Outcome, quota, refuses, within_quota}
use Rattle.ctf_protocol.specs.sessions.Slots.{slot_at, slots_with_parent, slots_without}
use Rattle.ctf_protocol.specs.sessions.Steps.{list_in, with_staged}
use Rattle.ctf_protocol.specs.declared.requests.ListName.{ListName}
use Rattle.ctf_protocol.specs.declared.requests.ListName.TheVariants.{Ctf, Sym, Str}

-- its parts
pub charge_is : (s : State) → charge s ≡ lists_bytes s.stage + (sum_by slot_bytes s.slots + sum_by publication_bytes s.published)
unfolding charge
charge_is s = refl

-- ---- staged lists

-- a part counts with its bytes
pub staged_more : (list : ListName) (piece : List ℕ) (s : Lists) → lists_bytes (with_staged list (list_in list s ++ piece) s) ≡ lists_bytes s + length piece
staged_more Ctf piece s = omega (arith, length-append s.ctf piece)
staged_more Sym piece s = omega (arith, length-append (unwrap_or s.sym []) piece)
staged_more Str piece s = omega (arith, length-append (unwrap_or s.strs []) piece)

-- ---- slots

abbrev all_bytes : List Slot → ℕ
all_bytes slots = sum_by slot_bytes slots

with_case : (n : ℕ) (old new x : Slot) (xs : List Slot) → (slot_at n xs ≡ Some old → all_bytes (slots_with n new xs) + slot_bytes old ≡ all_bytes xs + slot_bytes new) → (t : Bool) → eqb x.number n ≡ t → slot_at n (x ∷ xs) ≡ Some old → all_bytes (slots_with n new (x ∷ xs)) + slot_bytes old ≡ all_bytes (x ∷ xs) + slot_bytes new
with_case n old new x xs later true t e =
    let here : Some x ≡ Some old = rw t at e in
    let same : x ≡ old = cc in
    let bytes = ap slot_bytes same in
    rw t (omega (arith, bytes, sum_by-cons slot_bytes x xs, sum_by-cons slot_bytes new xs))
with_case n old new x xs later false t e =
    let there : slot_at n xs ≡ Some old = rw t at e in
    let rest = later there in
    rw t (omega (arith, rest, sum_by-cons slot_bytes x xs, sum_by-cons slot_bytes x (slots_with n new xs)))

-- another slot in place of one
pub with_bytes : (n : ℕ) (old new : Slot) (slots : List Slot) → slot_at n slots ≡ Some old → all_bytes (slots_with n new slots) + slot_bytes old ≡ all_bytes slots + slot_bytes new
with_bytes n old new [] e = absurd cc
with_bytes n old new (x ∷ xs) e = with_case n old new x xs (λ h. with_bytes n old new xs h) (eqb x.number n) refl e

without_case : (n : ℕ) (old x : Slot) (xs : List Slot) → (slot_at n xs ≡ Some old → all_bytes (slots_without n xs) + slot_bytes old ≡ all_bytes xs) → (t : Bool) → eqb x.number n ≡ t → slot_at n (x ∷ xs) ≡ Some old → all_bytes (slots_without n (x ∷ xs)) + slot_bytes old ≡ all_bytes (x ∷ xs)
without_case n old x xs later true t e =
    let here : Some x ≡ Some old = rw t at e in
    let same : x ≡ old = cc in
    let bytes = ap slot_bytes same in
    rw t (omega (arith, bytes, sum_by-cons slot_bytes x xs))
without_case n old x xs later false t e =
    let there : slot_at n xs ≡ Some old = rw t at e in
    let rest = later there in
    rw t (omega (arith, rest, sum_by-cons slot_bytes x xs, sum_by-cons slot_bytes x (slots_without n xs)))

-- one slot less
pub without_bytes : (n : ℕ) (old : Slot) (slots : List Slot) → slot_at n slots ≡ Some old → all_bytes (slots_without n slots) + slot_bytes old ≡ all_bytes slots
without_bytes n old [] e = absurd cc
without_bytes n old (x ∷ xs) e = without_case n old x xs (λ h. without_bytes n old xs h) (eqb x.number n) refl e

parent_case : (n : ℕ) (p : Kept) (old x : Slot) (xs : List Slot) → (slot_at n xs ≡ Some old → all_bytes (slots_with_parent n p xs) + parent_bytes old.parent ≡ all_bytes xs + kept_bytes p) → (t : Bool) → eqb x.number n ≡ t → slot_at n (x ∷ xs) ≡ Some old → all_bytes (slots_with_parent n p (x ∷ xs)) + parent_bytes old.parent ≡ all_bytes (x ∷ xs) + kept_bytes p
parent_case n p old x xs later true t e =
    let here : Some x ≡ Some old = rw t at e in
    let same : x ≡ old = cc in
    let bytes = ap (λ (s : Slot). parent_bytes s.parent) same in
    rw t (omega (arith, bytes, sum_by-cons slot_bytes x xs, sum_by-cons slot_bytes (record x { parent = Some p }) xs))
parent_case n p old x xs later false t e =
    let there : slot_at n xs ≡ Some old = rw t at e in
    let rest = later there in
    rw t (omega (arith, rest, sum_by-cons slot_bytes x xs, sum_by-cons slot_bytes x (slots_with_parent n p xs)))

-- another parent for a slot
pub parent_more : (n : ℕ) (p : Kept) (old : Slot) (slots : List Slot) → slot_at n slots ≡ Some old → all_bytes (slots_with_parent n p slots) + parent_bytes old.parent ≡ all_bytes slots + kept_bytes p
parent_more n p old [] e = absurd cc
parent_more n p old (x ∷ xs) e = parent_case n p old x xs (λ h. parent_more n p old xs h) (eqb x.number n) refl e

-- ---- publications

filter_case : (keep : Publication → Bool) (x : Publication) (xs : List Publication) (t : Bool) → keep x ≡ t → sum_by publication_bytes (filter keep xs) ≤ sum_by publication_bytes xs → sum_by publication_bytes (filter keep (x ∷ xs)) ≤ sum_by publication_bytes (x ∷ xs)
filter_case keep x xs true t le = rw t (omega (arith, le, sum_by-cons publication_bytes x xs, sum_by-cons publication_bytes x (filter keep xs)))
filter_case keep x xs false t le = rw t (omega (arith, le, sum_by-cons publication_bytes x xs))

pub filter_bytes : (keep : Publication → Bool) (xs : List Publication) → sum_by publication_bytes (filter keep xs) ≤ sum_by publication_bytes xs
filter_bytes keep [] = omega arith
filter_bytes keep (x ∷ xs) = filter_case keep x xs (keep x) refl (filter_bytes keep xs)

-- ---- steps

-- a step within the quota is granted
pub granted : (o : Outcome) (s : State) → charge o.state ≤ quota → within_quota o s ≡ o
granted o s le = rw (le-ltb quota (charge o.state) le) refl

-- any other is refused
pub over : (o : Outcome) (s : State) → quota < charge o.state → within_quota o s ≡ refuses QUOTA_FULL s
over o s lt = rw (lt-ltb quota (charge o.state) lt) refl

pub part_charge : (list : ListName) (piece : List ℕ) (s : State) → charge (record s { stage = with_staged list (list_in list s.stage ++ piece) s.stage }) ≡ charge s + length piece
part_charge list piece s = omega (arith, charge_is s, charge_is (record s { stage = with_staged list (list_in list s.stage ++ piece) s.stage }), staged_more list piece s.stage)

pub slot_charge : (slot : Slot) (next : ℕ) (s : State) → charge (record s { slots = s.slots ++ slot ∷ []; next = next }) ≡ charge s + slot_bytes slot
slot_charge slot next s = omega (arith, charge_is s, charge_is (record s { slots = s.slots ++ slot ∷ []; next = next }), sum_by_push slot_bytes s.slots slot)

pub publication_charge : (p : Publication) (s : State) → charge (record s { published = s.published ++ p ∷ [] }) ≡ charge s + publication_bytes p
publication_charge p s = omega (arith, charge_is s, charge_is (record s { published = s.published ++ p ∷ [] }), sum_by_push publication_bytes s.published p)

pub parent_charge : (d : ℕ) (parent : Kept) (child : Slot) (s : State) → slot_at d s.slots ≡ Some child → charge (record s { slots = slots_with_parent d parent s.slots }) + parent_bytes child.parent ≡ charge s + kept_bytes parent
parent_charge d parent child s at = omega (arith, charge_is s, charge_is (record s { slots = slots_with_parent d parent s.slots }), parent_more d parent child s.slots at)

pub slot_becomes_charge : (d : ℕ) (old new : Slot) (s : State) → slot_at d s.slots ≡ Some old → charge (record s { slots = slots_with d new s.slots }) + slot_bytes old ≡ charge s + slot_bytes new
slot_becomes_charge d old new s at = omega (arith, charge_is s, charge_is (record s { slots = slots_with d new s.slots }), with_bytes d old new s.slots at)

-- a slot counts
pub slot_counts : (d : ℕ) (slot : Slot) (s : State) → slot_at d s.slots ≡ Some slot → slot_bytes slot ≤ charge s
slot_counts d slot s at = omega (arith, charge_is s, without_bytes d slot s.slots at)
