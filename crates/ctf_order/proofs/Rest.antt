-- The name at a reference into the inside of another name.
use Rattle.std.proofs.Common.{◌≡◌, ℕ, zero, suc, ◌+◌, ◌-◌, ◌^◌, ◌/◌, ◌%◌, ◌==◌, ◌≤◌, Bool, true, false, List, [], ◌∷◌, length, take, drop, Option, Some, None, refl, sym, ap, ◌∙◌, arith}
use Rattle.std.specs.Prelude.{if◌then◌else◌}
use Rattle.std.specs.List.{list_any, before_first, position_or_len}
use Rattle.std.specs.Option.{option_map}
use Rattle.std.proofs.lemmas.Bool.{eqb-true}
use Rattle.std.proofs.lemmas.List.{drop-drop, length-drop, take_all}
use Rattle.ctf_model.specs.format.Name.{Tables, is_zero, name, table, text, text_at}
use Rattle.ctf_sections.specs.StringsView.{tables}
use Rattle.ctf_order.specs.Naming.{naming}
use Rattle.ctf_order.specs.declared.texts.Texts.{Texts}
use Rattle.ctf_order.specs.declared.texts.Texts.TheVariants.{Dictionary, Program}

text_cons_case : (x : ℕ) (xs : List ℕ) (t : Bool) → is_zero x ≡ t → text (x ∷ xs) ≡ (if t then Some [] else option_map (λ b. x ∷ b) (text xs))
text_cons_case x xs true e = rw e refl
text_cons_case x xs false e = let one : 1 + position_or_len is_zero xs ≡ suc (position_or_len is_zero xs) = omega arith in rw (e, one) (any (list_any is_zero xs) refl)
  where
    any : (u : Bool) → list_any is_zero xs ≡ u → (if u then Some (x ∷ before_first is_zero xs) else None) ≡ option_map (λ b. x ∷ b) (text xs)
    any true f = rw f refl
    any false f = rw f refl

empty_text : (x : List ℕ) (k : ℕ) → ◌≡◌ {A = Option (List ℕ)} (Some []) (Some x) → suc k ≤ length x → ⊥
empty_text [] k h le = absurd (omega (arith, le))
empty_text (y ∷ x) k h le = absurd cc

tail_text : (b : ℕ) (o : Option (List ℕ)) (x : List ℕ) → option_map (λ y. b ∷ y) o ≡ Some x → (y : List ℕ) × (o ≡ Some y) × (x ≡ b ∷ y)
tail_text b None x h = absurd cc
tail_text b (Some y) x h = (y, refl, (let same : b ∷ y ≡ x = cc in sym same))

rest_case : (b : ℕ) (bs x : List ℕ) (k : ℕ) → ((y : List ℕ) → text bs ≡ Some y → k ≤ length y → text (drop k bs) ≡ Some (drop k y)) → text (b ∷ bs) ≡ Some x → suc k ≤ length x → (t : Bool) → is_zero b ≡ t → text (drop k bs) ≡ Some (drop (suc k) x)
rest_case b bs x k rest h le true e = absurd (empty_text x k (sym (text_cons_case b bs true e) ∙ h) le)
rest_case b bs x k rest h le false e =
    let found = tail_text b (text bs) x (sym (text_cons_case b bs false e) ∙ h) in
    rw found.2 (rest found.0 found.1 (omega (arith, ap length found.2, le)))

text_rest : (bytes x : List ℕ) (k : ℕ) → text bytes ≡ Some x → k ≤ length x → text (drop k bytes) ≡ Some (drop k x)
text_rest bytes x zero h le = h
text_rest [] x (suc k) h le = absurd cc
text_rest (b ∷ bs) x (suc k) h le = rest_case b bs x k (λ y. text_rest bs y k) h le (is_zero b) refl

text_at_rest : (o : Option (List ℕ)) (at k : ℕ) (x : List ℕ) → text_at o at ≡ Some x → k ≤ length x → text_at o (at + k) ≡ Some (drop k x)
text_at_rest None at k x h le = absurd cc
text_at_rest (Some bytes) at k x h le = rw (← drop-drop k at bytes) (text_rest (drop at bytes) x k h le)

-- the offset and table of a reference, as numbers
offset_more : (r k : ℕ) → r / 2 ^ 31 ≡ (r + k) / 2 ^ 31 → (r + k) % 2 ^ 31 ≡ r % 2 ^ 31 + k
offset_more r k same = omega (arith, same)

not_zero : (n k : ℕ) → n == 0 ≡ false → n + k == 0 ≡ false
not_zero n k h = by_case (n + k == 0) refl
  where
    by_case : (t : Bool) → n + k == 0 ≡ t → t ≡ false
    by_case false e = refl
    by_case true e = absurd (zero_case n (omega (arith, eqb-true (n + k) 0 e)) h)
      where
        zero_case : (m : ℕ) → m ≡ 0 → m == 0 ≡ false → ⊥
        zero_case m z g = let bad : 0 == 0 ≡ false = rw z at g in absurd cc

empty_name : (x : List ℕ) → ◌≡◌ {A = Option (List ℕ)} (Some []) (Some x) → length x ≡ 0
empty_name [] h = refl
empty_name (y ∷ x) h = absurd cc

by_offset : (t : Tables) (r : ℕ) → r % 2 ^ 31 == 0 ≡ false → name t r ≡ text_at (table t r) (r % 2 ^ 31)
by_offset t r e = rw e refl

at_zero : (t : Tables) (r : ℕ) → r % 2 ^ 31 == 0 ≡ true → ◌≡◌ {A = Option (List ℕ)} (Some []) (name t r)
at_zero t r e = rw e refl

table_same : (t : Tables) (r s : ℕ) → r / 2 ^ 31 ≡ s / 2 ^ 31 → table t s ≡ table t r
table_same t r s same = ap (λ (q : ℕ). if q == 0 then Some t.internal else t.elf) (sym same)

nothing_skipped : (t : Tables) (r k : ℕ) (x : List ℕ) → k ≡ 0 → name t r ≡ Some x → name t (r + k) ≡ Some (drop k x)
nothing_skipped t r k x z h = let same : r + k ≡ r = omega (arith, z) in rw (same, z) h

name_case : (t : Tables) (r k : ℕ) (x : List ℕ) → r / 2 ^ 31 ≡ (r + k) / 2 ^ 31 → k ≤ length x → (b : Bool) → r % 2 ^ 31 == 0 ≡ b → name t r ≡ Some x → name t (r + k) ≡ Some (drop k x)
name_case t r k x same le true e h = nothing_skipped t r k x (omega (arith, le, empty_name x (at_zero t r e ∙ h))) h
name_case t r k x same le false e h =
    let here : text_at (table t r) (r % 2 ^ 31) ≡ Some x = sym (by_offset t r e) ∙ h in
    let there : (r + k) % 2 ^ 31 == 0 ≡ false = ap (λ (n : ℕ). n == 0) (offset_more r k same) ∙ not_zero (r % 2 ^ 31) k e in
    by_offset t (r + k) there ∙ ap (λ q. text_at q ((r + k) % 2 ^ 31)) (table_same t r (r + k) same) ∙ ap (λ (n : ℕ). text_at (table t r) n) (offset_more r k same) ∙ text_at_rest (table t r) (r % 2 ^ 31) k x here le

dictionary_rest : (t : Tables) (r k : ℕ) (x : List ℕ) → r / 2 ^ 31 ≡ (r + k) / 2 ^ 31 → name t r ≡ Some x → k ≤ length x → name t (r + k) ≡ Some (drop k x)
dictionary_rest t r k x same h le = name_case t r k x same le (r % 2 ^ 31 == 0) refl h

pub name_rest : (texts : Texts) (r k : ℕ) (x : List ℕ) → r / 2 ^ 31 ≡ (r + k) / 2 ^ 31 → naming texts r ≡ Some x → k ≤ length x → naming texts (r + k) ≡ Some (drop k x)
name_rest (Dictionary strings) r k x same h le = dictionary_rest (tables strings) r k x same h le
name_rest (Program strs) r k x same h le = text_at_rest (Some strs.now) r k x h le

-- `&s[at..]`
pub tail_all : {X : Type 0} (xs : List X) (at : ℕ) → take (length xs - at) (drop at xs) ≡ drop at xs
tail_all xs at = take_all (length xs - at) (drop at xs) (omega (arith, length-drop at xs))
