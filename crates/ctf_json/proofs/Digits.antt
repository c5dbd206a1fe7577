-- The value of a text of digits only.
use Rattle.std.proofs.Common.{is_some, lit<, ◌≤◌, ◌≡◌, ◌≢◌, ◌==◌, ℕ, ◌<◌, ◌^◌, List, [], length, slice_index, true, false, Some, refl, sym, ap, ◌∙◌, arith, append-nil}
use Rattle.std.specs.Prelude.{nat_lt}
use Rattle.std.proofs.lemmas.Bool.Decides.{nat_tests}
use Rattle.std.specs.Str.Parse.{AllDigits, digits_value}
use Rattle.std.proofs.lemmas.Str.Parse.{IsNumeralModel, numerals_by_value, tells_digits, digits_value_short, not_in_digits}
use Rattle.fast_float.specs.Text.{Parts, scan, IsWellFormed}
use Rattle.fast_float.proofs.Writing.{scan-text_of}
use Rattle.serde_json.specs.Data.{unsigned}
use Rattle.serde_json.specs.Read.{number_from, number_of}
use Rattle.ctf_json.proofs.Telling.{by_sign}

abbrev alone : List ℕ → Parts
alone ds = record { whole = ds; point = false; fraction = []; exponent_negative = false; exponent = []; len = length ds }

alone-well : (ds : List ℕ) → AllDigits 10 ds → IsWellFormed (alone ds)
alone-well ds all = record {
  whole_digits = all;
  fraction_digits = tt;
  exponent_digits = tt;
  no_point = λ e. refl;
  no_exponent = λ e. refl;
  len_is = ap length (sym (append-nil ds));
}

scan-alone : (ds : List ℕ) → AllDigits 10 ds → scan ds ≡ alone ds
scan-alone ds all = ap scan (sym (append-nil ds)) ∙ scan-text_of (alone ds) (alone-well ds all)

below : (a b : ℕ) → a < b → nat_lt a b ≡ true
below a b h = grind (arith, nat_tests, h)

by_tests : (ds : List ℕ) → nat_lt 0 (length ds) ≡ true → nat_lt (digits_value 10 ds) (2 ^ 64) ≡ true → number_from false (alone ds) ≡ Some (unsigned (digits_value 10 ds))
by_tests ds some fits = rw (append-nil ds, some, fits) refl

pub number_alone : (ds : List ℕ) (n : ℕ) → 0 < length ds → AllDigits 10 ds → digits_value 10 ds < 2 ^ 64 → n ≡ digits_value 10 ds → number_from false (scan ds) ≡ Some (unsigned n)
number_alone ds n some all fits same =
    ap (number_from false) (scan-alone ds all) ∙ by_tests ds (below _ _ some) (below _ _ fits) ∙ ap (λ m. Some (unsigned m)) (sym same)

not_minus : (n : ℕ) → n ≢ 45 → (n == 45) ≡ false
not_minus n h = grind (arith, nat_tests)

own : IsNumeralModel (AllDigits 10) (digits_value 10)
own = numerals_by_value (AllDigits 10) tells_digits

-- a number with few digits is in range
pub few_valued : (ds : List ℕ) → 0 < length ds → length ds ≤ 19 → AllDigits 10 ds → is_some (number_of ds) ≡ true
few_valued ds some few all =
    let short : digits_value 10 ds < 10 ^ 19 = digits_value_short own ds 19 all few in
    let limit : 10 ^ 19 < 2 ^ 64 = lit< tt in
    let first : slice_index ds 0 ≢ 45 = not_in_digits own ds 45 all (λ r. omega (arith, r)) 0 some in
    ap is_some (by_sign ds false (sym (not_minus (slice_index ds 0) first)) ∙ number_alone ds (digits_value 10 ds) some all (omega (arith, short, limit)) refl)

-- a text of digits only is its number, without a sign
pub number_of_alone : (ds : List ℕ) (n : ℕ) → 0 < length ds → AllDigits 10 ds → digits_value 10 ds < 2 ^ 64 → n ≡ digits_value 10 ds → number_of ds ≡ Some (unsigned n)
number_of_alone ds n some all fits same =
    let first : slice_index ds 0 ≢ 45 = not_in_digits own ds 45 all (λ r. omega (arith, r)) 0 some in
    by_sign ds false (sym (not_minus (slice_index ds 0) first)) ∙ number_alone ds n some all fits same
