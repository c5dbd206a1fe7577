-- Each rule of the header agrees with its fact.
use Rattle.std.proofs.Common.{◌≡◌, ◌≢◌, ℕ, ◌+◌, ◌-◌, ◌%◌, ◌<◌, ◌≤◌, Bool, eqb, ltb, List, length, take, drop, refl, sym, ap, ◌∙◌, arith, true, false, ◌⊎◌, inl, inr, ⊎_elim}
use Rattle.std.specs.Prelude.{slice_index, not, ◌&&◌, ◌||◌}
use Rattle.std.specs.Bool.{Decides}
use Rattle.std.proofs.Math.Bool.{or_assoc}
use Rattle.std.proofs.lemmas.Bool.{cases_lt, false≢true}
use Rattle.std.proofs.lemmas.Bool.Decides.{Decides-eqb, Decides-ltb, Decides-not, Decides-or, Decides-and, Decides-like, Decides-at}
use Rattle.std.proofs.lemmas.List.{length-take, length-drop, get_or-take, get_or-drop}
use Rattle.ctf_model.specs.format.Bytes.{u16_at}
use Rattle.ctf_model.specs.rules.Faults.{if_broken, too_short, bad_magic, bad_version, compression, short_header, bad_order, bad_align, past_end, bad_strings, is_out_of_order, is_misaligned}
use Rattle.ctf_model.specs.format.Header.{Fields, fields, section}
use Rattle.ctf_model.specs.format.Lists.{Lists}
use Rattle.ctf_model.specs.rules.Rules.{IsBroken, Keeps, IsOutOfOrder, IsMisaligned}
use Rattle.ctf_model.specs.declared.sections.Section.TheVariants.{SStrings}
use Rattle.ctf_model.proofs.FirstFault.{Agrees, test_agrees}

pub too_short_agrees : (s : Lists) → Agrees (too_short s.ctf) (IsBroken s 1)
too_short_agrees s = test_agrees _ _ (Decides-ltb (length s.ctf) 4)

pub bad_magic_agrees : (s : Lists) → Agrees (bad_magic s.ctf) (IsBroken s 2)
bad_magic_agrees s = test_agrees _ _ (Decides-not _ (Decides-eqb (u16_at s.ctf 0) 0xcff1))

pub bad_version_agrees : (s : Lists) → Agrees (bad_version s.ctf) (IsBroken s 3)
bad_version_agrees s = test_agrees _ _ (Decides-not _ (Decides-eqb (slice_index s.ctf 2) 2))

pub compressed_agrees : (s : Lists) → Agrees (compression s.ctf) (IsBroken s 4)
compressed_agrees s = test_agrees _ _ (Decides-eqb (slice_index s.ctf 3 % 2) 1)

pub short_header_agrees : (s : Lists) → Agrees (short_header s.ctf) (IsBroken s 5)
short_header_agrees s = test_agrees _ _ (Decides-ltb (length s.ctf) 36)

-- four tests, grouped from the left or from the right
from_right : (a b c d : Bool) → (((a || b) || c) || d) ≡ (a || (b || (c || d)))
from_right a b c d = or_assoc (a || b) c d ∙ or_assoc a b (c || d)

-- if their tests decide four facts, the disjunction is decided
four_decided : {A B C D : Type 0} (a b c d : Bool) → Decides a A → Decides b B → Decides c C → Decides d D → Decides (((a || b) || c) || d) (A ⊎ (B ⊎ (C ⊎ D)))
four_decided a b c d p q r t = Decides-at _ _ (from_right a b c d) (Decides-or a _ p (Decides-or b _ q (Decides-or c d r t)))

-- the test of order decides its fact
order_decided : (h : Fields) → Decides (is_out_of_order h) (IsOutOfOrder h)
order_decided h = four_decided _ _ _ _ (Decides-ltb h.objtoff h.lbloff) (Decides-ltb h.funcoff h.objtoff) (Decides-ltb h.typeoff h.funcoff) (Decides-ltb h.stroff h.typeoff)

pub bad_order_agrees : (s : Lists) → Agrees (bad_order s.ctf) (IsBroken s 6)
bad_order_agrees s = test_agrees _ _ (order_decided (fields s.ctf))

-- the test of alignment decides its fact
align_decided : (h : Fields) → Decides (is_misaligned h) (IsMisaligned h)
align_decided h = four_decided _ _ _ _ (Decides-ltb 0 (h.lbloff % 4)) (Decides-ltb 0 (h.objtoff % 2)) (Decides-ltb 0 (h.funcoff % 2)) (Decides-ltb 0 (h.typeoff % 4))

pub bad_align_agrees : (s : Lists) → Agrees (bad_align s.ctf) (IsBroken s 7)
bad_align_agrees s = test_agrees _ _ (align_decided (fields s.ctf))

pub past_end_agrees : (s : Lists) → Agrees (past_end s.ctf) (IsBroken s 8)
past_end_agrees s = test_agrees _ _ (Decides-ltb (length s.ctf) (36 + (fields s.ctf).stroff + (fields s.ctf).strlen))

-- ---- consequences of the kept rules

-- each section begins at or after the start of the previous one
pub record InOrder (h : Fields) : Type 0 where
  pub objects : h.lbloff ≤ h.objtoff
  pub functions : h.objtoff ≤ h.funcoff
  pub types : h.funcoff ≤ h.typeoff
  pub strings : h.typeoff ≤ h.stroff

-- a number that is not less is greater or equal
from_not : (m n : ℕ) → ¬ (m < n) → n ≤ m
from_not m n h = ⊎_elim (λ lt. absurd (h lt)) (λ le. le) (cases_lt m n)

-- offsets that are not out of order are in order
pub in_order : (h : Fields) → ¬ IsOutOfOrder h → InOrder h
in_order h ok = record {
  objects = from_not h.objtoff h.lbloff (λ lt. ok (inl lt));
  functions = from_not h.funcoff h.objtoff (λ lt. ok (inr (inl lt)));
  types = from_not h.typeoff h.funcoff (λ lt. ok (inr (inr (inl lt))));
  strings = from_not h.stroff h.typeoff (λ lt. ok (inr (inr (inr lt))));
}

-- where the rule of order is kept, the offsets are in order
pub kept_order : (s : Lists) (n : ℕ) → 6 < n → Keeps s n → InOrder (fields s.ctf)
kept_order s n lt keeps = in_order (fields s.ctf) (λ o. keeps 6 lt 0 (refl, o))

-- where the rule of the end is kept, the strings lie inside
pub kept_end : (s : Lists) (n : ℕ) → 8 < n → Keeps s n → 36 + (fields s.ctf).stroff + (fields s.ctf).strlen ≤ length s.ctf
kept_end s n lt keeps = from_not (length s.ctf) (36 + (fields s.ctf).stroff + (fields s.ctf).strlen) (λ o. keeps 8 lt 0 (refl, o))

-- a section inside the bytes has its full length
pub section_len : (ctf : List ℕ) (a b : ℕ) → a ≤ b → b ≤ length ctf → length (take (b - a) (drop a ctf)) ≡ b - a
section_len ctf a b le inside = omega (arith, length-take (b - a) (drop a ctf), length-drop a ctf)

-- ---- the string section

-- the start of the strings
abbrev start : List ℕ → ℕ
start ctf = 36 + (fields ctf).stroff

-- strings inside the bytes have the length that the header states
strings_len : (ctf : List ℕ) → start ctf + (fields ctf).strlen ≤ length ctf → length (section ctf SStrings) ≡ (fields ctf).strlen
strings_len ctf h = omega (arith, section_len ctf (start ctf) (start ctf + (fields ctf).strlen) (omega arith) h)

-- their first byte is at the start that the header states
strings_first : (ctf : List ℕ) → 0 < (fields ctf).strlen → slice_index (section ctf SStrings) 0 ≡ slice_index ctf (start ctf)
strings_first ctf h =
    let n = start ctf + (fields ctf).strlen - start ctf in
    let zero_is : start ctf + 0 ≡ start ctf = omega arith in
    let lt : 0 < start ctf + (fields ctf).strlen - start ctf = omega arith in
    get_or-take n (drop (start ctf) ctf) 0 0 lt ∙ get_or-drop (start ctf) ctf 0 0 ∙ ap (λ (i : ℕ). slice_index ctf i) zero_is

-- the string section is not empty and does not begin with a zero byte
abbrev AreBad : List ℕ → Type 0
AreBad ctf = (0 < length (section ctf SStrings)) × (slice_index (section ctf SStrings) 0 ≢ 0)

-- the test for such strings decides this
strings_decided : (ctf : List ℕ) → start ctf + (fields ctf).strlen ≤ length ctf → Decides (ltb 0 (fields ctf).strlen && not (eqb (slice_index ctf (start ctf)) 0)) (AreBad ctf)
strings_decided ctf h =
    let len = strings_len ctf h in
    Decides-like _
    (λ (p : (0 < (fields ctf).strlen) × (slice_index ctf (start ctf) ≢ 0)). let some : 0 < length (section ctf SStrings) = omega (arith, len, p.0) in (some, λ e. p.1 (sym (strings_first ctf p.0) ∙ e)))
    (λ q. let some : 0 < (fields ctf).strlen = omega (arith, len, q.0) in (some, λ e. q.1 (strings_first ctf some ∙ e)))
    (Decides-and _ _ (Decides-ltb 0 (fields ctf).strlen) (Decides-not _ (Decides-eqb (slice_index ctf (start ctf)) 0)))

pub bad_strings_agrees : (s : Lists) → Keeps s 9 → Agrees (bad_strings s.ctf) (IsBroken s 9)
bad_strings_agrees s keeps = at _ (strings_decided s.ctf (kept_end s 9 (omega arith) keeps))
  where
    at : (b : Bool) → Decides b (AreBad s.ctf) → Agrees (if_broken b) (IsBroken s 9)
    at true d = let f = d.0 refl in ((refl, f.0, f.1), λ q lt f. absurd (omega arith))
    at false d = λ p f. absurd (false≢true (d.1 (f.1, f.2)))
