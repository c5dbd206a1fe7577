-- Lists of good slots and of faultless publications.
use Rattle.std.proofs.Common.{◌≡◌, ℕ, List, [], ◌∷◌, Bool, true, false, Some, None, eqb, refl, subst}
use Rattle.std.specs.Prelude.{nat_eq, not}
use Rattle.std.specs.Cmp.Lexicographic.{pointwise}
use Rattle.std.specs.List.{AllByRecursion}
use Rattle.ctf_model.specs.spaces.Kept.{Kept, fault_over}
use Rattle.ctf_protocol.specs.sessions.Slots.{slots_with}
use Rattle.ctf_protocol.specs.sessions.Publications.{published_as, published_without}
use Rattle.ctf_protocol.specs.sessions.State.{Publication, Slot}
use Rattle.ctf_protocol.specs.sessions.Slots.{slot_at, slots_with_parent, slots_without}
use Rattle.ctf_laws.specs.Good.{IsFaultless, IsGoodSlot, Serves}

abbrev pub AllGood : List Slot → Type 0
AllGood slots = AllByRecursion IsGoodSlot slots

abbrev pub AllFaultless : List Publication → Type 0
AllFaultless publications = AllByRecursion (λ p. IsFaultless p.kept) publications

-- ---- the slot of a number

found_case : (n : ℕ) (x slot : Slot) (rest : List Slot) → IsGoodSlot x → (slot_at n rest ≡ Some slot → IsGoodSlot slot) → (t : Bool) → eqb x.number n ≡ t → slot_at n (x ∷ rest) ≡ Some slot → IsGoodSlot slot
found_case n x slot rest g later true t e =
    let here : Some x ≡ Some slot = rw t at e in
    let same : x ≡ slot = cc in
    subst IsGoodSlot same g
found_case n x slot rest g later false t e =
    let there : slot_at n rest ≡ Some slot = rw t at e in
    later there

pub found_good : (n : ℕ) (slot : Slot) (slots : List Slot) → AllGood slots → slot_at n slots ≡ Some slot → IsGoodSlot slot
found_good n slot [] g e = absurd cc
found_good n slot (x ∷ rest) g e = found_case n x slot rest g.0 (found_good n slot rest g.1) (eqb x.number n) refl e

without_case : (n : ℕ) (x : Slot) (rest : List Slot) → IsGoodSlot x → AllGood rest → AllGood (slots_without n rest) → (t : Bool) → eqb x.number n ≡ t → AllGood (slots_without n (x ∷ rest))
without_case n x rest g all later true e = rw e all
without_case n x rest g all later false e = rw e (g, later)

pub without_good : (n : ℕ) (slots : List Slot) → AllGood slots → AllGood (slots_without n slots)
without_good n [] g = g
without_good n (x ∷ rest) g = without_case n x rest g.0 g.1 (without_good n rest g.1) (eqb x.number n) refl

with_case : (n : ℕ) (now x : Slot) (rest : List Slot) → IsGoodSlot now → IsGoodSlot x → AllGood rest → AllGood (slots_with n now rest) → (t : Bool) → eqb x.number n ≡ t → AllGood (slots_with n now (x ∷ rest))
with_case n now x rest good g all later true e = rw e (good, all)
with_case n now x rest good g all later false e = rw e (g, later)

pub with_good : (n : ℕ) (now : Slot) (slots : List Slot) → IsGoodSlot now → AllGood slots → AllGood (slots_with n now slots)
with_good n now [] good g = g
with_good n now (x ∷ rest) good g = with_case n now x rest good g.0 g.1 (with_good n now rest good g.1) (eqb x.number n) refl

-- ---- parents

parent_case : (n : ℕ) (p : Kept) (x : Slot) (rest : List Slot) → IsGoodSlot x → AllGood rest → ((y : Slot) → slot_at n (x ∷ rest) ≡ Some y → IsGoodSlot (record y { parent = Some p })) → (((y : Slot) → slot_at n rest ≡ Some y → IsGoodSlot (record y { parent = Some p })) → AllGood (slots_with_parent n p rest)) → (t : Bool) → eqb x.number n ≡ t → AllGood (slots_with_parent n p (x ∷ rest))
parent_case n p x rest g all h later true e =
    let here : slot_at n (x ∷ rest) ≡ Some x = rw e refl in
    rw e (h x here, all)
parent_case n p x rest g all h later false e =
    rw e (g, later (λ y i. let there : slot_at n (x ∷ rest) ≡ Some y = rw e i in h y there))

pub parents_good : (n : ℕ) (p : Kept) (slots : List Slot) → AllGood slots → ((y : Slot) → slot_at n slots ≡ Some y → IsGoodSlot (record y { parent = Some p })) → AllGood (slots_with_parent n p slots)
parents_good n p [] g h = g
parents_good n p (x ∷ rest) g h = parent_case n p x rest g.0 g.1 h (parents_good n p rest g.1) (eqb x.number n) refl

-- ---- publications

published_case : (name : List ℕ) (x : Publication) (kept : Kept) (rest : List Publication) → IsFaultless x.kept → (published_as name rest ≡ Some kept → IsFaultless kept) → (t : Bool) → pointwise nat_eq x.name name ≡ t → published_as name (x ∷ rest) ≡ Some kept → IsFaultless kept
published_case name x kept rest g later true t e =
    let here : Some x.kept ≡ Some kept = rw t at e in
    let same : x.kept ≡ kept = cc in
    subst IsFaultless same g
published_case name x kept rest g later false t e =
    let there : published_as name rest ≡ Some kept = rw t at e in
    later there

pub published_good : (name : List ℕ) (kept : Kept) (all : List Publication) → AllFaultless all → published_as name all ≡ Some kept → IsFaultless kept
published_good name kept [] g e = absurd cc
published_good name kept (x ∷ rest) g e = published_case name x kept rest g.0 (published_good name kept rest g.1) (pointwise nat_eq x.name name) refl e

withdrawn_case : (name : List ℕ) (x : Publication) (rest : List Publication) → IsFaultless x.kept → AllFaultless (published_without name rest) → (t : Bool) → not (pointwise nat_eq x.name name) ≡ t → AllFaultless (published_without name (x ∷ rest))
withdrawn_case name x rest g later true e = rw e (g, later)
withdrawn_case name x rest g later false e = rw e later

pub withdrawn_good : (name : List ℕ) (all : List Publication) → AllFaultless all → AllFaultless (published_without name all)
withdrawn_good name [] g = g
withdrawn_good name (x ∷ rest) g = withdrawn_case name x rest g.0 (withdrawn_good name rest g.1) (not (pointwise nat_eq x.name name)) refl

-- ---- new slots, and one that gets a parent

pub new_good : (number : ℕ) (kept : Kept) → IsFaultless kept → IsGoodSlot (record { number = number; kept = kept; parent = None; draft = None })
new_good number kept h = record {
  faultless = h;
  parent = λ p e. absurd cc;
  draft = λ d e. absurd cc;
}

pub child_good : (child : Slot) (p : Kept) → IsGoodSlot child → child.draft ≡ None → IsFaultless p → fault_over child.kept p ≡ None → IsGoodSlot (record child { parent = Some p })
child_good child p g none h under = record {
  faultless = g.faultless;
  parent = λ q e. let same : p ≡ q = cc in subst (Serves child.kept) same (record { faultless = h; under = under });
  draft = λ d e. let clash = rw none at e in absurd cc;
}
