-- A number at the front of a text that has only digits, before a comma or a brace.
use Rattle.std.proofs.Common.{◌≡◌, ℕ, suc, ◌+◌, ◌-◌, ◌<◌, ◌≤◌, Bool, true, false, ◌&&◌, ◌||◌, cond, ◌==◌, nat_le, List, [], ◌∷◌, length, take, drop, Some, None, option_and_then, ◌⊎◌, inl, inr, refl, sym, ap, ◌∙◌, subst, arith}
use Rattle.std.proofs.lemmas.Bool.{ne_eqb, eqb-true, leb-true, and_parts}
use Rattle.std.proofs.lemmas.Bool.Decides.{nat_tests}
use Rattle.std.proofs.lemmas.List.{length-drop}
use Rattle.std.proofs.lemmas.List.Sums.{prefix_len-le-length}
use Rattle.std.proofs.lemmas.List.Folds.{length-prefix_len}
use Rattle.std.proofs.lemmas.Str.{digit_value_digit}
use Rattle.std.specs.List.{prefix_len}
use Rattle.std.specs.Char.{is_ascii_digit}
use Rattle.std.specs.Str.Parse.{AllDigits}
use Rattle.json.specs.Token.{Token, number, bad}
use Rattle.json.specs.Lex.{quote, backslash, operator, space, other, class, between, in_word, lex}
use Rattle.json.specs.Word.{head, is_operator, is_space, after_digits, after_whole, after_fraction, after_exponent, after_sign, after_number, number_before, word}
use Rattle.ctf_json.specs.Plain.{IsNumber}
use Rattle.ctf_json.proofs.Digits.{few_valued}
use Rattle.ctf_json.proofs.Lexing.{behind_word, word_goes, word_stops}

neither : (b c : Bool) → b ≡ false → c ≡ false → (b || c) ≡ false
neither true c e f = e
neither false c e f = f

both : (b c : Bool) → b ≡ true → c ≡ true → (b && c) ≡ true
both true c e f = f
both false c e f = e

not_zero : (n : ℕ) → 0 < n → (n == 0) ≡ false
not_zero n h = ne_eqb n 0 (λ e. omega (arith, e, h))

-- ---- digits

is_digit : (x : ℕ) → 48 ≤ x → x ≤ 57 → is_ascii_digit x ≡ true
is_digit x low high = both (nat_le 48 x) (nat_le x 57) (grind (arith, nat_tests, low)) (grind (arith, nat_tests, high))

no_operator : (x : ℕ) → 48 ≤ x → x ≤ 57 → is_operator x ≡ false
no_operator x low high =
    neither _ _ (neither _ _ (neither _ _ (neither _ _ (neither _ _ (ne_eqb x 123 (λ e. omega (arith, e, high))) (ne_eqb x 125 (λ e. omega (arith, e, high))))
    (ne_eqb x 91 (λ e. omega (arith, e, high)))) (ne_eqb x 93 (λ e. omega (arith, e, high)))) (ne_eqb x 58 (λ e. omega (arith, e, high)))) (ne_eqb x 44 (λ e. omega (arith, e, low)))

no_space : (x : ℕ) → 48 ≤ x → is_space x ≡ false
no_space x low =
    neither _ _ (neither _ _ (neither _ _ (ne_eqb x 32 (λ e. omega (arith, e, low))) (ne_eqb x 9 (λ e. omega (arith, e, low)))) (ne_eqb x 10 (λ e. omega (arith, e, low)))) (ne_eqb x 13 (λ e. omega (arith, e, low)))

goes_on : (x : ℕ) (xs : List ℕ) → 48 ≤ x → x ≤ 57 → lex in_word (x ∷ xs) ≡ lex in_word xs
goes_on x xs low high = word_goes x xs (neither _ _ (no_operator x low high) (no_space x low))

kind : (q b o s : Bool) → q ≡ false → b ≡ false → o ≡ false → s ≡ false → cond q quote (cond b backslash (cond o operator (cond s space other))) ≡ other
kind true b o s e f g h = absurd (subst (λ k. cond k ⊥ ℕ) (sym e) 0)
kind false true o s e f g h = absurd (subst (λ k. cond k ⊥ ℕ) (sym f) 0)
kind false false true s e f g h = absurd (subst (λ k. cond k ⊥ ℕ) (sym g) 0)
kind false false false true e f g h = absurd (subst (λ k. cond k ⊥ ℕ) (sym h) 0)
kind false false false false e f g h = refl

digit_class : (x : ℕ) → 48 ≤ x → x ≤ 57 → class x ≡ other
digit_class x low high = kind (x == 34) (x == 92) (is_operator x) (is_space x) (ne_eqb x 34 (λ e. omega (arith, e, low))) (ne_eqb x 92 (λ e. omega (arith, e, high))) (no_operator x low high) (no_space x low)

-- ---- a run of digits

some_digits : (t : List ℕ) → 48 ≤ head t → head t ≤ 57 → 0 < prefix_len is_ascii_digit t
some_digits [] low high = let no : ⊥ = omega (arith, low) in absurd no
some_digits (x ∷ xs) low high = subst (λ b. 0 < cond b (1 + prefix_len is_ascii_digit xs) 0) (sym (is_digit x (omega (arith, low)) high)) (omega arith)

run_byte : (p : Bool) (x n : ℕ) (xs : List ℕ) → p ≡ is_ascii_digit x → lex in_word xs ≡ lex in_word (drop n xs) → lex in_word (x ∷ xs) ≡ lex in_word (drop (cond p (1 + n) 0) (x ∷ xs))
run_byte false x n xs e ih = refl
run_byte true x n xs e ih =
    let next : suc n ≡ 1 + n = omega arith in
    let range : (nat_le 48 x ≡ true) × (nat_le x 57 ≡ true) = and_parts _ _ (sym e) in
    goes_on x xs (leb-true 48 x range.0) (leb-true x 57 range.1) ∙ ih ∙ ap (λ k. lex in_word (drop k (x ∷ xs))) next

run_passed : (xs : List ℕ) → lex in_word xs ≡ lex in_word (drop (prefix_len is_ascii_digit xs) xs)
run_passed [] = refl
run_passed (x ∷ xs) = run_byte (is_ascii_digit x) x (prefix_len is_ascii_digit xs) xs refl (run_passed xs)

first_passed : (t : List ℕ) → 48 ≤ head t → head t ≤ 57 → lex in_word t ≡ lex in_word (drop 1 t)
first_passed [] low high = refl
first_passed (x ∷ xs) low high = goes_on x xs (omega (arith, low)) high

all_byte : (p : Bool) (x n : ℕ) (xs : List ℕ) → p ≡ is_ascii_digit x → AllDigits 10 (take n xs) → AllDigits 10 (take (cond p (1 + n) 0) (x ∷ xs))
all_byte false x n xs e ih = tt
all_byte true x n xs e ih =
    let next : suc n ≡ 1 + n = omega arith in
    let range : (nat_le 48 x ≡ true) × (nat_le x 57 ≡ true) = and_parts _ _ (sym e) in
    subst (λ k. AllDigits 10 (take k (x ∷ xs))) next (omega (arith, digit_value_digit x (leb-true 48 x range.0, leb-true x 57 range.1), leb-true x 57 range.1), ih)

all_digits : (xs : List ℕ) → AllDigits 10 (take (prefix_len is_ascii_digit xs) xs)
all_digits [] = tt
all_digits (x ∷ xs) = all_byte (is_ascii_digit x) x (prefix_len is_ascii_digit xs) xs refl (all_digits xs)

-- ---- its end

abbrev pub Ends : ℕ → Type 0
Ends x = (x ≡ 44) ⊎ (x ≡ 125)

pub by_end : (P : ℕ → Type 0) (x : ℕ) → Ends x → P 44 → P 125 → P x
by_end P x (inl e) comma brace = subst P (sym e) comma
by_end P x (inr e) comma brace = subst P (sym e) brace

ends_there : (r : List ℕ) → Ends (head r) → lex between r ≡ lex in_word r
ends_there [] (inl e) = let no : ⊥ = omega (arith, e) in absurd no
ends_there [] (inr e) = let no : ⊥ = omega (arith, e) in absurd no
ends_there (x ∷ xs) h = word_stops xs x (by_end (λ y. (is_operator y || is_space y) ≡ true) x h refl refl)

-- ---- the number

last_of : (a b c : Bool) (x y z w : Token) → a ≡ false → b ≡ false → c ≡ false → cond a x (cond b y (cond c z w)) ≡ w
last_of a b c x y z w e f g = (λ i. cond (e i) x (cond (f i) y (cond (g i) z w)))

module _ (t : List ℕ) (n : ℕ) (is : n ≡ prefix_len is_ascii_digit t) (low : 48 ≤ head t) (high : head t ≤ 57) (zero : head t ≡ 48 → n ≤ 1) (ends : Ends (head (drop n t))) where
  some : 0 < n
  some = omega (arith, is, some_digits t low high)

  digits_are : after_digits t ≡ Some (drop n t)
  digits_are = ap (λ k. cond (k == 0) None (Some (drop k t))) (sym is) ∙ ap (λ b. cond b None (Some (drop n t))) (not_zero n some)

  by_zero : (b : Bool) → (head t == 48) ≡ b → cond b (Some (drop 1 t)) (after_digits t) ≡ Some (drop n t)
  by_zero true e =
      let one : 1 ≡ n = omega (arith, some, zero (eqb-true (head t) 48 e)) in
      ap (λ k. Some (drop k t)) one
  by_zero false e = digits_are

  number_end : after_number t ≡ Some (drop n t)
  unfolding after_number
  number_end =
      let r = drop n t in
      ap (λ b. option_and_then after_exponent (option_and_then after_fraction (after_whole (cond b (drop 1 t) t)))) (ne_eqb (head t) 45 (λ e. omega (arith, e, low)))
      ∙ ap (λ o. option_and_then after_exponent (option_and_then after_fraction o)) (by_zero (head t == 48) refl)
      ∙ ap (λ b. option_and_then after_exponent (cond b (after_digits (drop 1 r)) (Some r))) (by_end (λ x. (x == 46) ≡ false) (head r) ends refl refl)
      ∙ ap (λ b. cond b (after_digits (after_sign (drop 1 r))) (Some r)) (by_end (λ x. ((x == 101) || (x == 69)) ≡ false) (head r) ends refl refl)

  whole_run : length t - length (drop n t) ≡ n
  whole_run = omega (arith, is, prefix_len-le-length is_ascii_digit t, length-drop n t)

  word_is : word t ≡ number (take n t)
  unfolding word
  word_is =
      last_of (head t == 116) (head t == 102) (head t == 110) _ _ _ _ (ne_eqb (head t) 116 (λ e. omega (arith, e, high))) (ne_eqb (head t) 102 (λ e. omega (arith, e, high))) (ne_eqb (head t) 110 (λ e. omega (arith, e, high)))
      ∙ ap (number_before t) number_end
      ∙ ap (λ b. cond b (number (take (length t - length (drop n t)) t)) bad) (by_end (λ x. (is_operator x || is_space x) ≡ true) (head (drop n t)) ends refl refl)
      ∙ ap (λ k. number (take k t)) whole_run

  pub number_at : n ≤ 19 → IsNumber t (take n t)
  number_at few =
      let same = ap (λ k. take k t) is in
      let len : length (take n t) ≡ n = ap length same ∙ length-prefix_len is_ascii_digit t ∙ sym is in
      (digit_class (head t) (omega (arith, low)) high, word_is, few_valued (take n t) (omega (arith, len, some)) (omega (arith, len, few)) (subst (AllDigits 10) (sym same) (all_digits t)))

  pub number_passed : lex between (drop n t) ≡ drop 1 (lex between t)
  number_passed =
      sym (behind_word t (digit_class (head t) (omega (arith, low)) high) ∙ sym (first_passed t low high) ∙ run_passed t ∙ ap (λ k. lex in_word (drop k t)) (sym is) ∙ sym (ends_there (drop n t) ends))
