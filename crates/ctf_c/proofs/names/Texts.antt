-- A text in a section is a text in the whole.
use Rattle.std.proofs.Common.{◌≡◌, ℕ, zero, suc, ◌+◌, ◌-◌, ◌/◌, ◌%◌, ◌^◌, ◌≤◌, Bool, true, false, cond, not, ◌||◌, eqb, List, [], ◌∷◌, length, take, drop, Option, Some, None, refl, sym, ap, ◌∙◌, arith, drop-drop, ne_eqb}
use Rattle.std.specs.List.{list_any, position_or_len}
use Rattle.std.specs.Option.{option_map}
use Rattle.ctf_model.proofs.BoundedValues.{keeps_all}
use Rattle.ctf_model.proofs.HeaderRules.{kept_end}
use Rattle.ctf_model.specs.format.Header.{fields, section}
use Rattle.ctf_model.specs.format.Lists.{Lists, tables}
use Rattle.ctf_model.specs.format.Name.{is_zero, name, text, text_at}
use Rattle.ctf_model.specs.declared.sections.Section.TheVariants.{SStrings}
use Rattle.ctf_model.specs.rules.Faults.{first_fault}

text_cons : (x : ℕ) (xs : List ℕ) → text (x ∷ xs) ≡ cond (is_zero x) (Some []) (option_map (λ (t : List ℕ). x ∷ t) (text xs))
text_cons x xs = by_case (is_zero x) (list_any is_zero xs)
  where
    by_case : (b any : Bool) → cond (b || any) (Some (take (cond (not b) (1 + position_or_len is_zero xs) 0) (x ∷ xs))) None ≡ cond b (Some []) (option_map (λ (t : List ℕ). x ∷ t) (cond any (Some (take (position_or_len is_zero xs) xs)) None))
    by_case true any = refl
    by_case false true = let one : 1 + position_or_len is_zero xs ≡ suc (position_or_len is_zero xs) = omega arith in rw one refl
    by_case false false = refl

-- a text in a prefix of some bytes is one in all of them
text_front : (n : ℕ) (xs t : List ℕ) → text (take n xs) ≡ Some t → text xs ≡ Some t
text_front zero xs t h = absurd cc
text_front (suc n) [] t h = absurd cc
text_front (suc n) (x ∷ xs) t h = text_cons x xs ∙ by_case (is_zero x) (text (take n xs)) (text xs) (text_front n xs) (sym (text_cons x (take n xs)) ∙ h)
  where
    by_case : (b : Bool) (o p : Option (List ℕ)) → ((u : List ℕ) → o ≡ Some u → p ≡ Some u)
        → cond b (Some []) (option_map (λ (u : List ℕ). x ∷ u) o) ≡ Some t → cond b (Some []) (option_map (λ (u : List ℕ). x ∷ u) p) ≡ Some t
    by_case true o p more e = e
    by_case false None p more e = absurd cc
    by_case false (Some u) p more e = rw (more u refl) e

text_within : (o n : ℕ) (xs t : List ℕ) → text (drop o (take n xs)) ≡ Some t → text (drop o xs) ≡ Some t
text_within zero n xs t h = text_front n xs t h
text_within (suc o) zero xs t h = absurd cc
text_within (suc o) (suc n) [] t h = absurd cc
text_within (suc o) (suc n) (x ∷ xs) t h = text_within o n xs t h

-- a text in the strings is in the dictionary, at the offset from their start
pub in_dictionary : (s : Lists) (o : ℕ) (t : List ℕ) → text_at (Some (section s.ctf SStrings)) o ≡ Some t → text_at (Some s.ctf) (36 + (fields s.ctf).stroff + o) ≡ Some t
in_dictionary s o t h =
    let begin = 36 + (fields s.ctf).stroff in
    let long = begin + (fields s.ctf).strlen - begin in
    let there = text_within o long (drop begin s.ctf) t h in
    sym (ap text (drop-drop o begin s.ctf ∙ ap (λ (at : ℕ). drop at s.ctf) (omega arith))) ∙ there

-- a faultless dictionary has a whole header
pub header_inside : (s : Lists) → first_fault s ≡ None → 36 ≤ length s.ctf
header_inside s h = let ends = kept_end s 9 (omega arith) (λ rule lt. keeps_all s h rule) in omega arith

-- ---- the name of a reference

named_inside : (r q : ℕ) (inside t : List ℕ) (elf : Option (List ℕ)) → cond (eqb r 0) (Some []) (text_at (cond (eqb q 0) (Some inside) elf) r) ≡ Some t → (r ≡ 0 → ⊥) → q ≡ 0 → text_at (Some inside) r ≡ Some t
named_inside r q inside t elf h some own = rw (ne_eqb r 0 some, own) at h

-- a reference whose highest bit is 0
pub internal_there : (s : Lists) (begin at reference : ℕ) (t : List ℕ) → at ≡ reference % 2 ^ 31 → (at ≡ 0 → ⊥) → reference / 2 ^ 31 ≡ 0 → begin ≡ 36 + (fields s.ctf).stroff → name (tables s) reference ≡ Some t
    → text_at (Some s.ctf) (begin + at) ≡ Some t
internal_there s begin at reference t e some own f h =
    let there = named_inside (reference % 2 ^ 31) (reference / 2 ^ 31) (section s.ctf SStrings) t s.strs h (λ none. some (e ∙ none)) own in
    rw (e, f) (in_dictionary s (reference % 2 ^ 31) t there)
