-- Lexemes of a text, from an offset on.
use Rattle.std.proofs.Common.{◌≡◌, ℕ, suc, ◌+◌, ◌-◌, ◌<◌, ◌≤◌, Bool, true, false, not, ◌||◌, cond, ◌==◌, nat_lt, List, [], ◌∷◌, ◌++◌, length, take, drop, get_or, Option, Some, None, add-zero, lt_of_not-le, refl, sym, ap, ◌∙◌, subst, arith}
use Rattle.std.proofs.lemmas.List.{drop_more, append_assoc, append-nil, drop-drop, drop_all, get_or-drop, get_or_default, get_or_past, length-drop}
use Rattle.std.proofs.lemmas.Bool.{false≢true, true≢false, or_parts, not-true, eqb-true, ne_eqb}
use Rattle.std.specs.List.{prefix_len}
use Rattle.json.specs.Token.{bad}
use Rattle.json.specs.Text.{after_backslash, content, plain, prepend}
use Rattle.json.specs.Word.{head, is_operator, is_space, word}
use Rattle.json.specs.Lex.{Lexeme, token, Class, quote, backslash, operator, space, other, class, operator_lexeme, string_token, Mode, between, in_word, in_string, lex_byte, lex}
use Rattle.json.specs.Align.{is_blank}
use Rattle.json.specs.Run.{is_plain}

-- ---- the first lexeme

abbrev pub first_lexeme : Class → List ℕ → Lexeme
first_lexeme quote t = token (string_token (content plain (drop 1 t)))
first_lexeme backslash t = token bad
first_lexeme operator t = operator_lexeme (head t)
first_lexeme space t = token bad
first_lexeme other t = token (word t)

first_is : (c : Class) (x : ℕ) (xs : List ℕ) (k : Mode → List Lexeme) → is_blank c ≡ false → lex_byte between c x xs k ≡ first_lexeme c (x ∷ xs) ∷ drop 1 (lex_byte between c x xs k)
first_is quote x xs k h = refl
first_is backslash x xs k h = refl
first_is operator x xs k h = refl
first_is space x xs k h = absurd (true≢false h)
first_is other x xs k h = refl

pub lex_first : (c : Class) (t : List ℕ) → class (head t) ≡ c → is_blank c ≡ false → lex between t ≡ first_lexeme c t ∷ drop 1 (lex between t)
unfolding lex
lex_first c [] e h = absurd (true≢false (ap is_blank e ∙ h))
lex_first c (x ∷ xs) e h = first_is (class x) x xs (λ n. lex n xs) (ap is_blank e ∙ h) ∙ ap (λ k. first_lexeme k (x ∷ xs) ∷ drop 1 (lex between (x ∷ xs))) e

pub lex-nil : lex between [] ≡ []
unfolding lex
lex-nil = refl

-- ---- one more byte

abbrev next_of : Class → List ℕ → List Lexeme
next_of quote xs = lex in_string xs
next_of backslash xs = lex in_word xs
next_of operator xs = lex between xs
next_of space xs = lex between xs
next_of other xs = lex in_word xs

behind : (c : Class) (x : ℕ) (xs : List ℕ) → is_blank c ≡ false → drop 1 (lex_byte between c x xs (λ n. lex n xs)) ≡ next_of c xs
behind quote x xs h = refl
behind backslash x xs h = refl
behind operator x xs h = refl
behind space x xs h = absurd (true≢false h)
behind other x xs h = refl

-- after the first lexeme of a text
lex_behind : (c : Class) (t : List ℕ) → class (head t) ≡ c → is_blank c ≡ false → drop 1 (lex between t) ≡ next_of c (drop 1 t)
unfolding lex
lex_behind c [] e h = absurd (true≢false (ap is_blank e ∙ h))
lex_behind c (x ∷ xs) e h = behind (class x) x xs (ap is_blank e ∙ h) ∙ ap (λ k. next_of k xs) e

pub behind_operator : (t : List ℕ) → class (head t) ≡ operator → drop 1 (lex between t) ≡ lex between (drop 1 t)
behind_operator t e = lex_behind operator t e refl

pub behind_word : (t : List ℕ) → class (head t) ≡ other → drop 1 (lex between t) ≡ lex in_word (drop 1 t)
behind_word t e = lex_behind other t e refl

pub behind_quote : (t : List ℕ) → head t ≡ 34 → drop 1 (lex between t) ≡ lex in_string (drop 1 t)
behind_quote t e = lex_behind quote t (ap class e) refl

-- ---- blanks

blank_byte : (c : Class) (x : ℕ) (xs : List ℕ) (k : Mode → List Lexeme) → is_blank c ≡ true → lex_byte between c x xs k ≡ k between
blank_byte quote x xs k h = absurd (false≢true h)
blank_byte backslash x xs k h = absurd (false≢true h)
blank_byte operator x xs k h = absurd (false≢true h)
blank_byte space x xs k h = refl
blank_byte other x xs k h = absurd (false≢true h)

pub blank_passed : (d : List ℕ) (i : ℕ) → i < length d → is_blank (class (get_or d i 0)) ≡ true → lex between (drop i d) ≡ lex between (drop (i + 1) d)
unfolding lex
blank_passed d i h e = ap (lex between) (drop_more d i 0 h) ∙ blank_byte (class (get_or d i 0)) (get_or d i 0) (drop (i + 1) d) (λ n. lex n (drop (i + 1) d)) e

-- ---- words

word_byte : (q b : Bool) (x : ℕ) (xs : List ℕ) (k : Mode → List Lexeme) → lex_byte in_word (cond q quote (cond b backslash other)) x xs k ≡ k in_word
word_byte true b x xs k = refl
word_byte false true x xs k = refl
word_byte false false x xs k = refl

pub word_goes : (x : ℕ) (xs : List ℕ) → (is_operator x || is_space x) ≡ false → lex in_word (x ∷ xs) ≡ lex in_word xs
unfolding lex
word_goes x xs h =
    let parts = or_parts (is_operator x) (is_space x) h in
    (λ i. lex_byte in_word (cond (x == 34) quote (cond (x == 92) backslash (cond (parts.0 i) operator (cond (parts.1 i) space other)))) x xs (λ n. lex n xs))
    ∙ word_byte (x == 34) (x == 92) x xs (λ n. lex n xs)

pub word_passed : (d : List ℕ) (i : ℕ) → i < length d → (is_operator (get_or d i 0) || is_space (get_or d i 0)) ≡ false → lex in_word (drop i d) ≡ lex in_word (drop (i + 1) d)
word_passed d i h e = ap (lex in_word) (drop_more d i 0 h) ∙ word_goes (get_or d i 0) (drop (i + 1) d) e

or_last : (P : ℕ → Type 0) (x c : ℕ) (b : Bool) → P c → (b ≡ true → P x) → (b || (x == c)) ≡ true → P x
or_last P x c true p f e = f refl
or_last P x c false p f e = subst P (sym (eqb-true x c e)) p

either : (a b : Bool) (P : Type 0) → (a ≡ true → P) → (b ≡ true → P) → (a || b) ≡ true → P
either true b P f g e = f refl
either false b P f g e = g e

pub word_stops : (xs : List ℕ) (x : ℕ) → (is_operator x || is_space x) ≡ true → lex between (x ∷ xs) ≡ lex in_word (x ∷ xs)
unfolding lex
word_stops xs x h =
    let P : ℕ → Type 0 = λ c. lex between (c ∷ xs) ≡ lex in_word (c ∷ xs) in
    either (is_operator x) (is_space x) (P x)
    (or_last P x 44 _ refl (or_last P x 58 _ refl (or_last P x 93 _ refl (or_last P x 91 _ refl (or_last P x 125 _ refl (λ e. subst P (sym (eqb-true x 123 e)) refl))))))
    (or_last P x 13 _ refl (or_last P x 10 _ refl (or_last P x 9 _ refl (λ e. subst P (sym (eqb-true x 32 e)) refl)))) h

pub word_ended : (d : List ℕ) (i : ℕ) → i < length d → (is_operator (get_or d i 0) || is_space (get_or d i 0)) ≡ true → lex between (drop i d) ≡ lex in_word (drop i d)
word_ended d i h e = ap (lex between) (drop_more d i 0 h) ∙ word_stops (drop (i + 1) d) (get_or d i 0) e ∙ ap (lex in_word) (sym (drop_more d i 0 h))

nothing_more : lex between [] ≡ lex in_word []
unfolding lex
nothing_more = refl

pub word_at_end : (d : List ℕ) (i : ℕ) → length d ≤ i → lex between (drop i d) ≡ lex in_word (drop i d)
word_at_end d i h = ap (lex between) (drop_all i d h) ∙ nothing_more ∙ ap (lex in_word) (sym (drop_all i d h))

-- ---- strings

string_byte : (o s : Bool) (x : ℕ) (xs : List ℕ) (k : Mode → List Lexeme) → lex_byte in_string (cond o operator (cond s space other)) x xs k ≡ k in_string
string_byte true s x xs k = refl
string_byte false true x xs k = refl
string_byte false false x xs k = refl

string_goes : (p : Bool) (x n : ℕ) (xs : List ℕ) → p ≡ is_plain x → lex in_string xs ≡ lex in_string (drop n xs) → lex in_string (x ∷ xs) ≡ lex in_string (drop (cond p (1 + n) 0) (x ∷ xs))
unfolding lex
string_goes false x n xs e ih = refl
string_goes true x n xs e ih =
    let next : suc n ≡ 1 + n = omega arith in
    let none = or_parts ((x == 34) || (x == 92)) _ (not-true _ (sym e)) in
    let tests = or_parts (x == 34) _ none.0 in
    (λ i. lex_byte in_string (cond (tests.0 i) quote (cond (tests.1 i) backslash (cond (is_operator x) operator (cond (is_space x) space other)))) x xs (λ m. lex m xs))
    ∙ string_byte (is_operator x) (is_space x) x xs (λ m. lex m xs) ∙ ih ∙ ap (λ k. lex in_string (drop k (x ∷ xs))) next

string_run : (xs : List ℕ) → lex in_string xs ≡ lex in_string (drop (prefix_len is_plain xs) xs)
string_run [] = refl
string_run (x ∷ xs) = string_goes (is_plain x) x (prefix_len is_plain xs) xs refl (string_run xs)

string_quote : (xs : List ℕ) → lex in_string (34 ∷ xs) ≡ lex between xs
unfolding lex
string_quote xs = refl

-- a string that is closed at `stop`
pub string_passed : (d : List ℕ) (i stop : ℕ) → stop ≡ i + prefix_len is_plain (drop i d) → stop < length d → get_or d stop 0 ≡ 34 → lex in_string (drop i d) ≡ lex between (drop (stop + 1) d)
string_passed d i stop is h e =
    string_run (drop i d) ∙ ap (lex in_string) (drop-drop _ i d ∙ ap (λ k. drop k d) (sym is) ∙ drop_more d stop 0 h ∙ ap (λ x. x ∷ drop (stop + 1) d) e) ∙ string_quote (drop (stop + 1) d)

-- ---- the content of a string

pub prepend-prepend : (a b : List ℕ) (r : Option (List ℕ)) → prepend a (prepend b r) ≡ prepend (a ++ b) r
prepend-prepend a b None = refl
prepend-prepend a b (Some s) = ap Some (sym (append_assoc a b s))

prepend-nil : (r : Option (List ℕ)) → prepend [] r ≡ r
prepend-nil None = refl
prepend-nil (Some s) = refl

run_byte : (p : Bool) (x n : ℕ) (xs : List ℕ) → p ≡ is_plain x → content plain xs ≡ prepend (take n xs) (content plain (drop n xs))
    → content plain (x ∷ xs) ≡ prepend (take (cond p (1 + n) 0) (x ∷ xs)) (content plain (drop (cond p (1 + n) 0) (x ∷ xs)))
unfolding content
run_byte false x n xs e ih = sym (prepend-nil _)
run_byte true x n xs e ih =
    let next : suc n ≡ 1 + n = omega arith in
    let none = or_parts ((x == 34) || (x == 92)) _ (not-true _ (sym e)) in
    let tests = or_parts (x == 34) _ none.0 in
    (λ i. cond (tests.0 i) (Some []) (cond (tests.1 i) (content after_backslash xs) (cond (none.1 i) None (prepend (x ∷ []) (ih i)))))
    ∙ prepend-prepend (x ∷ []) (take n xs) _ ∙ ap (λ k. prepend (take k (x ∷ xs)) (content plain (drop k (x ∷ xs)))) next

content-run : (xs : List ℕ) → content plain xs ≡ prepend (take (prefix_len is_plain xs) xs) (content plain (drop (prefix_len is_plain xs) xs))
content-run [] = sym (prepend-nil _)
content-run (x ∷ xs) = run_byte (is_plain x) x (prefix_len is_plain xs) xs refl (content-run xs)

-- plain bytes stand for themselves
pub content-to_stop : (d : List ℕ) (i stop : ℕ) → stop ≡ i + prefix_len is_plain (drop i d) → content plain (drop i d) ≡ prepend (take (stop - i) (drop i d)) (content plain (drop stop d))
content-to_stop d i stop is =
    let n : prefix_len is_plain (drop i d) ≡ stop - i = omega arith in
    content-run (drop i d) ∙ ap (λ l. prepend (take (prefix_len is_plain (drop i d)) (drop i d)) (content plain l)) (drop-drop _ i d ∙ ap (λ k. drop k d) (sym is))
    ∙ ap (λ k. prepend (take k (drop i d)) (content plain (drop stop d))) n

quote_ends : (xs : List ℕ) → content plain (34 ∷ xs) ≡ Some []
unfolding content
quote_ends xs = refl

pub content_closed : (d : List ℕ) (i stop : ℕ) → stop ≡ i + prefix_len is_plain (drop i d) → stop < length d → get_or d stop 0 ≡ 34 → content plain (drop i d) ≡ Some (take (stop - i) (drop i d))
content_closed d i stop is h e =
    content-to_stop d i stop is ∙ ap (prepend (take (stop - i) (drop i d))) (ap (content plain) (drop_more d stop 0 h ∙ ap (λ x. x ∷ drop (stop + 1) d) e) ∙ quote_ends (drop (stop + 1) d))
    ∙ ap Some (append-nil _)

-- ---- unclosed strings

nothing_spelled : content plain [] ≡ None
unfolding content
nothing_spelled = refl

content-byte : (d : List ℕ) (i : ℕ) → i < length d → content plain (drop i d)
    ≡ cond (get_or d i 0 == 34) (Some []) (cond (get_or d i 0 == 92) (content after_backslash (drop (i + 1) d)) (cond (nat_lt (get_or d i 0) 32) None (prepend (get_or d i 0 ∷ []) (content plain (drop (i + 1) d)))))
unfolding content
content-byte d i h = ap (content plain) (drop_more d i 0 h)

stops_byte : (p : Bool) (x n : ℕ) (xs : List ℕ) → p ≡ is_plain x → (n < length xs → is_plain (get_or xs n 0) ≡ false) → cond p (1 + n) 0 < length (x ∷ xs) → is_plain (get_or (x ∷ xs) (cond p (1 + n) 0) 0) ≡ false
stops_byte false x n xs e ih h = sym e
stops_byte true x n xs e ih h = let next : 1 + n ≡ suc n = omega arith in ap (λ k. is_plain (get_or (x ∷ xs) k 0)) next ∙ ih (omega arith)

stops_there : (xs : List ℕ) → prefix_len is_plain xs < length xs → is_plain (get_or xs (prefix_len is_plain xs) 0) ≡ false
stops_there [] h = let no : ⊥ = omega arith in absurd no
stops_there (x ∷ xs) h = stops_byte (is_plain x) x (prefix_len is_plain xs) xs refl (stops_there xs) h

-- at a byte that is neither plain, nor a quote, nor a backslash
control : (q b l : Bool) (n s : Option (List ℕ)) → q ≡ false → b ≡ false → not ((q || b) || l) ≡ false → cond q (Some []) (cond b n (cond l None s)) ≡ None
control true b l n s e f h = absurd (true≢false e)
control false true l n s e f h = absurd (true≢false f)
control false false true n s e f h = refl
control false false false n s e f h = absurd (true≢false h)

pub content_open : (d : List ℕ) (i stop : ℕ) → stop ≡ i + prefix_len is_plain (drop i d) → stop ≤ length d → (get_or d stop 32 ≡ 34 → ⊥) → (get_or d stop 32 ≡ 92 → ⊥) → content plain (drop i d) ≡ None
content_open d i stop is within not_quote not_escape = content-to_stop d i stop is ∙ ap (prepend (take (stop - i) (drop i d))) (by_place (nat_lt stop (length d)) refl)
  where
    there : stop < length d → content plain (drop stop d) ≡ None
    there h =
        let x = get_or d stop 0 in
        let same = get_or_default d stop 0 32 h in
        let odd : is_plain x ≡ false = ap is_plain (ap (λ k. get_or d k 0) is ∙ sym (get_or-drop i d _ 0)) ∙ stops_there (drop i d) (omega (arith, length-drop i d)) in
        content-byte d stop h
        ∙ control (x == 34) (x == 92) (nat_lt x 32) _ _ (ne_eqb x 34 (λ e. not_quote (sym same ∙ e))) (ne_eqb x 92 (λ e. not_escape (sym same ∙ e))) odd

    by_place : (b : Bool) → nat_lt stop (length d) ≡ b → content plain (drop stop d) ≡ None
    by_place true e = there (grind (arith, e))
    by_place false e = ap (content plain) (drop_all stop d (grind (arith, e))) ∙ nothing_spelled

-- ---- a quote at an offset

pub record AtQuote (d : List ℕ) (p : ℕ) : Type 0 where
  pub within : p < length d
  pub byte : get_or d p 0 ≡ 34
  pub spaced : get_or d p 32 ≡ 34
  pub rest : drop 1 (drop p d) ≡ drop (p + 1) d

pub quote_at : (d : List ℕ) (p : ℕ) → head (drop p d) ≡ 34 → AtQuote d p
quote_at d p e =
    let here : get_or d p 32 ≡ 34 = ap (λ j. get_or d j 32) (sym (add-zero p)) ∙ sym (get_or-drop p d 0 32) ∙ e in
    let within : p < length d = lt_of_not-le (λ h. omega (arith, get_or_past d p 32 h)) in
    record { within = within; byte = get_or_default d p 0 32 within ∙ here; spaced = here; rest = drop-drop 1 p d }
