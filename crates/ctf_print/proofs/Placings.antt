-- The first enumerator with a value, as searched and as stored.
use Rattle.std.proofs.Common.{◌≡◌, ℕ, ℤ, zero, suc, ◌+◌, ◌-◌, ◌<◌, ◌≤◌, inl, inr, true, false, Bool, cond, List, [], ◌∷◌, length, drop, Option, Some, None, refl, sym, ap, ◌∙◌, arith}
use Rattle.std.specs.Prelude.{slice_get, OnErr, OnOk, Result, Ok, Err, is_err}
use Rattle.std.specs.BTreeMap.{BTreeMap, IsEmpty, IsUnchanged, Updates, get, is_at}
use Rattle.std.specs.Option.{option_map}
use Rattle.std.specs.Cmp.{nat_cmp_is}
use Rattle.std.specs.Ordering.{int_cmp, int_eq, is_eq, nat_cmp}
use Rattle.std.specs.declared.cmp.Ordering.TheVariants.{Greater, Less}
use Rattle.std.proofs.lemmas.Bool.{cases_order}
use Rattle.std.proofs.lemmas.List.{drop_all}
use Rattle.std.proofs.lemmas.Option.{same_Some}
use Rattle.ctf_model.specs.dumps.Texts.{signed_decimal}
use Rattle.ctf_model.specs.declared.faults.Fault.{Fault}
use Rattle.ctf_model.specs.format.Shown.{Shape, shape}
use Rattle.ctf_model.specs.format.Term.{Enumerator, Term}
use Rattle.ctf_model.specs.spaces.Space.{Space, space_type}
use Rattle.ctf_model.specs.spaces.TypeNumbers.{or_no_type}
use Rattle.ctf_model.specs.values.Values.{name_of_value}
use Rattle.ctf_print.specs.Placing.{AreFirstByValue, AreKept, IsFirstOf, enumerators_of, first_with, rule_of_result, shown_how}
use Rattle.ctf_print.specs.ShowRules.{rule_in}
use Rattle.ctf_print.specs.declared.places.FirstByValue.{FirstByValue}
use Rattle.ctf_print.proofs.Names.{Says}

from_here : (es : List Enumerator) (i : ℕ) (e : Enumerator) → slice_get es i ≡ Some e → drop i es ≡ e ∷ drop (suc i) es
from_here (x ∷ es) zero e h = let same : x ≡ e = cc in rw same refl
from_here (x ∷ es) (suc i) e h = from_here es i e h
from_here [] i e h = absurd cc

-- ---- checking each in turn

first_front : (value : ℤ) (i : ℕ) (e : Enumerator) (es : List Enumerator) (t : Bool) → int_eq e.value value ≡ t → first_with value i (e ∷ es) ≡ cond t (Some i) (first_with value (suc i) es)
unfolding first_with
first_front value i e es t h = rw h refl

no_answer : (t : Bool) → Some t ≡ None → ⊥
no_answer t e = absurd cc

says_case : (es : List Enumerator) (value : ℤ) (i : ℕ) (t : Bool) → Says es value i t → (o : Option Enumerator) → slice_get es i ≡ o → first_with value i (drop i es) ≡ cond t (Some i) (first_with value (suc i) (drop (suc i) es))
says_case es value i t says None h = absurd (no_answer t (rw h at says))
says_case es value i t says (Some e) h =
    let is : int_eq e.value value ≡ t = same_Some _ _ (sym (rw h at says)) in
    ap (first_with value i) (from_here es i e h) ∙ first_front value i e (drop (suc i) es) t is

pub found_here : (es : List Enumerator) (value : ℤ) (i : ℕ) → Says es value i true → first_with value i (drop i es) ≡ Some i
found_here es value i says = says_case es value i true says (slice_get es i) refl

pub found_later : (es : List Enumerator) (value : ℤ) (i : ℕ) → Says es value i false → first_with value i (drop i es) ≡ first_with value (i + 1) (drop (i + 1) es)
found_later es value i says = let one : suc i ≡ i + 1 = omega arith in rw (← one) (says_case es value i false says (slice_get es i) refl)

pub found_nowhere : (es : List Enumerator) (value : ℤ) (i : ℕ) → length es ≤ i → first_with value i (drop i es) ≡ None
unfolding first_with
found_nowhere es value i h = rw (drop_all i es h) refl

-- ---- all of them, from the last to the first

one_case : (es : List Enumerator) (i : ℕ) (x : ℤ) (old new : BTreeMap ℤ ℕ) → ((v : ℤ) → get int_cmp old v ≡ first_with v (suc i) (drop (suc i) es)) → Updates int_cmp old new x (Some i)
    → (o : Option Enumerator) → slice_get es i ≡ o → Some x ≡ option_map (λ (e : Enumerator). e.value) o → (v : ℤ) → get int_cmp new v ≡ first_with v i (drop i es)
one_case es i x old new known updates None h says v = absurd cc
one_case es i x old new known updates (Some e) h says v =
    let same : x ≡ e.value = same_Some _ _ says in
    let here = ap (first_with v i) (from_here es i e h) ∙ first_front v i e (drop (suc i) es) (int_eq e.value v) refl in
    updates.0 v ∙ ap (λ (o : Option ℕ). cond (int_eq x v) (Some i) o) (known v) ∙ ap (λ (y : ℤ). cond (int_eq y v) (Some i) (first_with v (suc i) (drop (suc i) es))) same ∙ sym here

pub one_more : (es : List Enumerator) (left : ℕ) (x : ℤ) (old new : BTreeMap ℤ ℕ) → 0 < left → ((v : ℤ) → get int_cmp old v ≡ first_with v left (drop left es)) → Updates int_cmp old new x (Some (left - 1))
    → Some x ≡ option_map (λ (e : Enumerator). e.value) (slice_get es (left - 1)) → (v : ℤ) → get int_cmp new v ≡ first_with v (left - 1) (drop (left - 1) es)
one_more es zero x old new lt known updates says = absurd (omega arith)
one_more es (suc i) x old new lt known updates says =
    let less : suc i - 1 ≡ i = omega arith in
    rw less (one_case es i x old new known (rw less at updates) (slice_get es i) refl (rw less at says))

pub none_left : (es : List Enumerator) (m : BTreeMap ℤ ℕ) (left : ℕ) → left ≡ length es → ((v : ℤ) → get int_cmp m v ≡ None) → (v : ℤ) → get int_cmp m v ≡ first_with v left (drop left es)
none_left es m left e none v = none v ∙ sym (found_nowhere es v left (omega arith))

-- ---- a found index

-- the first enumerator with a value gives its name
pub record IsPlace (es : List Enumerator) (value : ℤ) (at : ℕ) : Type 0 where
  pub inside : at < length es
  pub named : (e : Enumerator) → slice_get es at ≡ Some e → name_of_value es value ≡ e.name

later : (e : Enumerator) (es : List Enumerator) (value : ℤ) (at : ℕ) → int_eq e.value value ≡ false → IsPlace es value at → IsPlace (e ∷ es) value (suc at)
unfolding name_of_value
later e es value at other place = record { inside = omega (arith, place.inside); named = λ x h. rw other (place.named x h) }

here_now : (e : Enumerator) (es : List Enumerator) (value : ℤ) → int_eq e.value value ≡ true → IsPlace (e ∷ es) value 0
unfolding name_of_value
here_now e es value same = record { inside = omega arith; named = λ x h. rw same (ap (λ (y : Enumerator). y.name) (same_Some _ _ h)) }

place_case : (e : Enumerator) (es : List Enumerator) (value : ℤ) (i k : ℕ) → (first_with value (suc i) es ≡ Some k → (suc i ≤ k) × IsPlace es value (k - suc i)) → (t : Bool) → int_eq e.value value ≡ t → first_with value i (e ∷ es) ≡ Some k → (i ≤ k) × IsPlace (e ∷ es) value (k - i)
place_case e es value i k rest true h first =
    let same : i ≡ k = same_Some _ _ (sym (first_front value i e es true h) ∙ first) in
    let none : k - i ≡ 0 = omega arith in
    (omega arith, rw none (here_now e es value h))
place_case e es value i k rest false h first =
    let r = rest (sym (first_front value i e es false h) ∙ first) in
    let le = r.0 in
    let more : k - i ≡ suc (k - suc i) = omega arith in
    (omega arith, rw more (later e es value (k - suc i) h r.1))

no_number : (n : ℕ) → None ≡ Some n → ⊥
no_number n e = absurd cc

nothing : (v : ℤ) (j n : ℕ) → first_with v j [] ≡ Some n → ⊥
unfolding first_with
nothing v j n h = no_number n h

place_from : (es : List Enumerator) (value : ℤ) (i k : ℕ) → first_with value i es ≡ Some k → (i ≤ k) × IsPlace es value (k - i)
place_from [] value i k first = absurd (nothing value i k first)
place_from (e ∷ es) value i k first = place_case e es value i k (place_from es value (suc i) k) (int_eq e.value value) refl first

pub is_place : (es : List Enumerator) (value : ℤ) (k : ℕ) → Some k ≡ first_with value 0 es → IsPlace es value k
is_place es value k first = let same : k - 0 ≡ k = omega arith in rw same at (place_from es value 0 k (sym first)).1

no_place_case : (e : Enumerator) (es : List Enumerator) (value : ℤ) (i : ℕ) → (first_with value (suc i) es ≡ None → name_of_value es value ≡ signed_decimal value) → (t : Bool) → int_eq e.value value ≡ t → first_with value i (e ∷ es) ≡ None → name_of_value (e ∷ es) value ≡ signed_decimal value
unfolding name_of_value
no_place_case e es value i rest true h first = absurd (no_number i (sym first ∙ first_front value i e es true h))
no_place_case e es value i rest false h first = rw h (rest (sym (first_front value i e es false h) ∙ first))

no_place_from : (es : List Enumerator) (value : ℤ) (i : ℕ) → first_with value i es ≡ None → name_of_value es value ≡ signed_decimal value
unfolding name_of_value
no_place_from [] value i first = refl
no_place_from (e ∷ es) value i first = no_place_case e es value i (no_place_from es value (suc i)) (int_eq e.value value) refl first

pub no_place : (es : List Enumerator) (value : ℤ) → None ≡ first_with value 0 es → name_of_value es value ≡ signed_decimal value
no_place es value first = no_place_from es value 0 (sym first)

-- ---- stored enums

pub none_in : (m : BTreeMap ℤ ℕ) → IsEmpty m → (v : ℤ) → get int_cmp m v ≡ None
none_in m e v = rw e refl

pub none_kept : (s : Space) (m : BTreeMap ℕ (Option FirstByValue)) → IsEmpty m → AreKept s m
unfolding AreKept
none_kept s m e q p is = absurd (no_places p ((rw e at is)))
  where
    no_places : (x : FirstByValue) → None ≡ Some (Some x) → ⊥
    no_places x h = absurd cc

pub not_err : {A B : Type 0} (r : Result A B) (P : Type 0) → is_err r ≡ false → OnOk r P → P
not_err (Ok x) P e h = h
not_err (Err x) P e h = absurd cc

same_key : (n q : ℕ) → is_at (nat_cmp n) q ≡ true → n ≡ q
same_key n q h = elim (cases_order n q) [
  | inl e ↦ e
  | inr (inl lt) ↦ absurd (apart (ap is_eq (nat_cmp_is n q Less lt) ∙ h))
  | inr (inr gt) ↦ absurd (apart (ap is_eq (nat_cmp_is n q Greater gt) ∙ h))
]
  where
    apart : false ≡ true → ⊥
    apart f = absurd cc

kept_case : (s : Space) (old new : BTreeMap ℕ (Option FirstByValue)) (n : ℕ) (w : Option FirstByValue) → AreKept s old → ((p : FirstByValue) → w ≡ Some p → (es : List Enumerator) → enumerators_of (shown_how s n) ≡ Some es → AreFirstByValue es p)
    → (q : ℕ) (p : FirstByValue) (t : Bool) → is_at (nat_cmp n) q ≡ t → cond t (Some w) (get nat_cmp old q) ≡ Some (Some p) → (es : List Enumerator) → enumerators_of (shown_how s q) ≡ Some es → AreFirstByValue es p
unfolding AreKept
kept_case s old new n w kept right q p true same is es rule = right p (same_Some _ _ is) es (ap (λ (k : ℕ). enumerators_of (shown_how s k)) (same_key n q same) ∙ rule)
kept_case s old new n w kept right q p false other is es rule = kept q p is es rule

pub kept_more : {A B : Type 0} (s t : Space) (old new : BTreeMap ℕ (Option FirstByValue)) (n : ℕ) (w : Option FirstByValue) (r : Result A B) → s ≡ t → AreKept s old → OnOk r (Updates nat_cmp old new n (Some w)) → OnErr r (IsUnchanged old new)
    → ((p : FirstByValue) → w ≡ Some p → (es : List Enumerator) → enumerators_of (shown_how t n) ≡ Some es → AreFirstByValue es p) → AreKept s new
unfolding AreKept
kept_more s t old new n w (Ok x) e kept updates same right q p is es rule =
    kept_case s old new n w kept (λ x from xs h. right x from xs (ap (λ (y : Space). enumerators_of (shown_how y n)) (sym e) ∙ h)) q p (is_at (nat_cmp n) q) refl (sym (updates.0 q) ∙ is) es rule
kept_more s t old new n w (Err x) e kept updates same right q p is es rule = kept q p (rw same at is) es rule

pub places_of : (s t : Space) (m : BTreeMap ℕ (Option FirstByValue)) (q : ℕ) (p : FirstByValue) (es : List Enumerator) → s ≡ t → AreKept s m → get nat_cmp m q ≡ Some (Some p) → enumerators_of (shown_how t q) ≡ Some es → AreFirstByValue es p
unfolding AreKept
places_of s t m q p es e kept is rule = kept q p is es (ap (λ (y : Space). enumerators_of (shown_how y q)) e ∙ rule)

-- ---- the rule of a type

told_case : (o : Option Term) (x : Shape) (r : Result Term Fault) → or_no_type o ≡ r → option_map (λ z. shape z.body) o ≡ Some x → rule_of_result r ≡ rule_in x
told_case None x r e is = absurd (nothing_there x is)
  where
    nothing_there : (y : Shape) → None ≡ Some y → ⊥
    nothing_there y h = absurd cc
told_case (Some z) x r e is = ap rule_of_result (sym e) ∙ ap rule_in (same_Some _ _ is)

pub told_is : (s : Space) (n : ℕ) (o : Option Term) (x : Shape) → or_no_type o ≡ space_type s n → option_map (λ z. shape z.body) o ≡ Some x → shown_how s n ≡ rule_in x
unfolding shown_how
told_is s n o x e is = told_case o x (space_type s n) e is

-- ---- the last look-up

pub is_place_of : (s : Space) (n : ℕ) (value : ℤ) (place : Option ℕ) (es : List Enumerator) → enumerators_of (shown_how s n) ≡ Some es → place ≡ first_with value 0 es → IsFirstOf s n value place
unfolding IsFirstOf
is_place_of s n value place es rule is others h =
    let same : es ≡ others = same_Some _ _ (sym rule ∙ h) in
    is ∙ ap (first_with value 0) same
