-- The result of `punctuate`, by the first byte of the text.
use Rattle.std.proofs.Common.{◌≡◌, ◌≢◌, ℕ, Bool, true, false, cond, ◌==◌, List, [], ◌∷◌, drop, Option, Some, None, ◌⊎◌, inl, inr, refl, sym, ap, ◌∙◌, subst}
use Rattle.std.proofs.lemmas.Bool.{true≢false, false≢true, eqb-true, or_cases}
use Rattle.std.specs.Prelude.{⊤}
use Rattle.json.specs.Token.{Token, begin_object, end_object, begin_array, end_array, key, string, number, boolean, null, bad}
use Rattle.json.specs.Text.{content, plain}
use Rattle.json.specs.Word.{is_operator, is_space, head, ends_word, after_number, number_before, word}
use Rattle.json.specs.Lex.{Lexeme, token, comma, colon, Class, quote, backslash, operator, space, other, class, operator_lexeme, string_token, between, lex}
use Rattle.json.specs.Lex.{Place, fresh, after_value, after_comma, after_key, begins_colon, may_begin, may_close, if_allowed, place_token, punctuate}
use Rattle.json.specs.Align.{is_good, is_blank}
use Rattle.json.specs.Json.{after_end_array}
use Rattle.ctf_json.specs.PlainReader.{tokens_at, closes_at, begins_at, refused_at, NotBeforeComma}
use Rattle.ctf_json.specs.declared.plain_reader.Place as reader
use Rattle.ctf_json.specs.declared.plain_reader.Place.TheVariants.{Fresh, AfterValue, AfterComma, Failed}
use Rattle.ctf_json.proofs.Lexing.{lex_first, lex-nil}

abbrev pub rest : List ℕ → List Lexeme
rest t = drop 1 (lex between t)

pub at_operator : (c : ℕ) (t : List ℕ) → class c ≡ operator → head t ≡ c → lex between t ≡ operator_lexeme c ∷ rest t
at_operator c t k e = lex_first operator t (ap class e ∙ k) refl ∙ ap (λ x. operator_lexeme x ∷ rest t) e

pub at_string : (t : List ℕ) (o : Option (List ℕ)) → head t ≡ 34 → content plain (drop 1 t) ≡ o → lex between t ≡ token (string_token o) ∷ rest t
at_string t o e found = lex_first quote t (ap class e) refl ∙ ap (λ r. token (string_token r) ∷ rest t) found

-- ---- a word is a number, a literal or invalid

abbrev pub IsWord : Token → Type 0
IsWord begin_object = ⊥
IsWord end_object = ⊥
IsWord begin_array = ⊥
IsWord end_array = ⊥
IsWord (key s) = ⊥
IsWord (string s) = ⊥
IsWord (number s) = ⊤
IsWord (boolean v) = ⊤
IsWord null = ⊤
IsWord bad = ⊤

either : (b : Bool) (x y : Token) → IsWord x → IsWord y → IsWord (cond b x y)
either true x y p q = p
either false x y p q = q

number_word : (t : List ℕ) (o : Option (List ℕ)) → IsWord (number_before t o)
number_word t None = tt
number_word t (Some r) = either (ends_word r) _ bad tt tt

pub IsWord-word : (t : List ℕ) → IsWord (word t)
unfolding word
IsWord-word t =
    either (head t == 116) _ _ (either _ (boolean true) bad tt tt) (either (head t == 102) _ _ (either _ (boolean false) bad tt tt)
    (either (head t == 110) _ _ (either _ null bad tt tt) (number_word t (after_number t))))

-- ---- the cases of the first lexeme

abbrev is_operator_class : Class → Bool
is_operator_class quote = false
is_operator_class backslash = false
is_operator_class operator = true
is_operator_class space = false
is_operator_class other = false

tested : (q b o s : Bool) → is_operator_class (cond q quote (cond b backslash (cond o operator (cond s space other)))) ≡ true → o ≡ true
tested true b o s h = absurd (false≢true h)
tested false true o s h = absurd (false≢true h)
tested false false true s h = refl
tested false false false true h = h
tested false false false false h = h

or_last : (P : ℕ → Type 0) (x c : ℕ) (b : Bool) → P c → (b ≡ true → P x) → (b ≡ true) ⊎ ((x == c) ≡ true) → P x
or_last P x c b p f (inl e) = f e
or_last P x c b p f (inr e) = subst P (sym (eqb-true x c e)) p

pub six : (P : ℕ → Type 0) → P 123 → P 125 → P 91 → P 93 → P 58 → P 44 → (x : ℕ) → class x ≡ operator → P x
six P a b c d e f x k =
    or_last P x 44 _ f (λ h. or_last P x 58 _ e (λ i. or_last P x 93 _ d (λ j. or_last P x 91 _ c (λ l. or_last P x 125 _ b (λ m. subst P (sym (eqb-true x 123 m)) a)
    (or_cases _ _ l)) (or_cases _ _ j)) (or_cases _ _ i)) (or_cases _ _ h)) (or_cases _ _ (tested (x == 34) (x == 92) (is_operator x) (is_space x) (ap is_operator_class k)))

abbrev is_quote_class : Class → Bool
is_quote_class quote = true
is_quote_class backslash = false
is_quote_class operator = false
is_quote_class space = false
is_quote_class other = false

quoted : (q b o s : Bool) → is_quote_class (cond q quote (cond b backslash (cond o operator (cond s space other)))) ≡ true → q ≡ true
quoted true b o s h = refl
quoted false true o s h = h
quoted false false true s h = h
quoted false false false true h = h
quoted false false false false h = h

a_quote : (x : ℕ) → class x ≡ quote → x ≡ 34
a_quote x e = eqb-true x 34 (quoted (x == 34) (x == 92) (is_operator x) (is_space x) (ap is_quote_class e))

abbrev pub Ends : List ℕ → Type 0
Ends t = is_blank (class (head t)) ≡ true → t ≡ []

module _ (t : List ℕ) (P : List Lexeme → Type 0) (end : is_blank (class (head t)) ≡ true → P (lex between t)) (text : (o : Option (List ℕ)) → head t ≡ 34 → P (token (string_token o) ∷ rest t))
    (words : (k : Token) → IsWord k → P (token k ∷ rest t)) (marks : (x : ℕ) → class x ≡ operator → head t ≡ x → P (operator_lexeme x ∷ rest t)) where
  by_class : (c : Class) → class (head t) ≡ c → P (lex between t)
  by_class quote e = subst P (sym (lex_first quote t e refl)) (text _ (a_quote (head t) e))
  by_class backslash e = subst P (sym (lex_first backslash t e refl)) (words bad tt)
  by_class operator e = subst P (sym (lex_first operator t e refl)) (marks (head t) e refl)
  by_class space e = end (ap is_blank e)
  by_class other e = subst P (sym (lex_first other t e refl)) (words (word t) (IsWord-word t))

  pub first_cases : P (lex between t)
  first_cases = by_class (class (head t)) refl

pub no_colon : (t : List ℕ) → Ends t → head t ≢ 58 → begins_colon (lex between t) ≡ false
no_colon t ends other_byte =
    first_cases t (λ ls. begins_colon ls ≡ false) (λ b. ap begins_colon (ap (lex between) (ends b) ∙ lex-nil)) (λ o h. refl) (λ k w. refl)
    (six (λ x. head t ≡ x → begins_colon (operator_lexeme x ∷ rest t) ≡ false) (λ e. refl) (λ e. refl) (λ e. refl) (λ e. refl) (λ e. absurd (other_byte e)) (λ e. refl))

-- ---- where a value may begin

pub allowed : (b : Bool) (t : Token) (k : Place → List Token) (next : Place) → b ≡ true → if_allowed b t k next ≡ t ∷ k next
allowed b t k next e = ap (λ x. if_allowed x t k next) e

pub good_word : (p : Place) (k : Token) (ls : List Lexeme) → IsWord k → is_good k ≡ true → may_begin p ≡ true → punctuate p (token k ∷ ls) ≡ k ∷ punctuate after_value ls
unfolding punctuate
good_word p begin_object ls w good e = absurd w
good_word p end_object ls w good e = absurd w
good_word p begin_array ls w good e = absurd w
good_word p end_array ls w good e = absurd w
good_word p (key s) ls w good e = absurd w
good_word p (string s) ls w good e = absurd w
good_word p (number s) ls w good e = allowed (may_begin p) (number s) (λ n. punctuate n ls) after_value e
good_word p (boolean v) ls w good e = allowed (may_begin p) (boolean v) (λ n. punctuate n ls) after_value e
good_word p null ls w good e = allowed (may_begin p) null (λ n. punctuate n ls) after_value e
good_word p bad ls w good e = absurd (false≢true good)

pub bad_word : (p : Place) (k : Token) (ls : List Lexeme) → is_good k ≡ false → punctuate p (token k ∷ ls) ≡ k ∷ []
unfolding punctuate
bad_word p begin_object ls e = absurd (true≢false e)
bad_word p end_object ls e = absurd (true≢false e)
bad_word p begin_array ls e = absurd (true≢false e)
bad_word p end_array ls e = absurd (true≢false e)
bad_word p (key s) ls e = absurd (true≢false e)
bad_word p (string s) ls e = absurd (true≢false e)
bad_word p (number s) ls e = absurd (true≢false e)
bad_word p (boolean v) ls e = absurd (true≢false e)
bad_word p null ls e = absurd (true≢false e)
bad_word p bad ls e = refl

stray_mark : (p : Place) (ls : List Lexeme) → may_begin p ≡ true → (punctuate p (comma ∷ ls) ≡ bad ∷ []) × (punctuate p (colon ∷ ls) ≡ bad ∷ [])
unfolding punctuate
stray_mark fresh ls e = (refl, refl)
stray_mark after_value ls e = absurd (false≢true e)
stray_mark after_comma ls e = (refl, refl)
stray_mark after_key ls e = absurd (false≢true e)

pub stray : (p : Place) (t : List ℕ) → may_begin p ≡ true → (head t ≡ 44) ⊎ ((head t ≡ 58) ⊎ (head t ≡ 92)) → punctuate p (lex between t) ≡ bad ∷ []
stray p t may (inl e) = ap (punctuate p) (at_operator 44 t refl e) ∙ (stray_mark p (rest t) may).0
stray p t may (inr (inl e)) = ap (punctuate p) (at_operator 58 t refl e) ∙ (stray_mark p (rest t) may).1
stray p t may (inr (inr e)) = ap (punctuate p) (lex_first backslash t (ap class e) refl) ∙ bad_word p bad (rest t) refl

pub closes_by_operator : (t : List ℕ) → (head t ≡ 125) ⊎ (head t ≡ 93) → class (head t) ≡ operator
closes_by_operator t (inl e) = ap class e
closes_by_operator t (inr e) = ap class e

-- ---- from the reader's states

pub begun : (place : reader.Place) (t : List ℕ) (ts : List Token) → begins_at place ≡ true → ((p : Place) → may_begin p ≡ true → punctuate p (lex between t) ≡ ts) → tokens_at place t ≡ ts
begun Fresh t ts e f = f fresh refl
begun AfterValue t ts e f = absurd (false≢true e)
begun AfterComma t ts e f = f after_comma refl
begun Failed t ts e f = absurd (false≢true e)

pub closed : (place : reader.Place) (t : List ℕ) (ts : List Token) → closes_at place ≡ true → ((p : Place) → may_close p ≡ true → punctuate p (lex between t) ≡ ts) → tokens_at place t ≡ ts
closed Fresh t ts e f = f fresh refl
closed AfterValue t ts e f = f after_value refl
closed AfterComma t ts e f = absurd (false≢true e)
closed Failed t ts e f = absurd (false≢true e)

closing_after_comma : (t : List ℕ) → (head t ≡ 125) ⊎ (head t ≡ 93) → punctuate after_comma (lex between t) ≡ bad ∷ []
unfolding punctuate
closing_after_comma t (inl e) = ap (punctuate after_comma) (at_operator 125 t refl e)
closing_after_comma t (inr e) = ap (punctuate after_comma) (at_operator 93 t refl e)

pub not_closed : (place : reader.Place) (t : List ℕ) → closes_at place ≡ false → (head t ≡ 125) ⊎ (head t ≡ 93) → tokens_at place t ≡ refused_at place
not_closed Fresh t e h = absurd (true≢false e)
not_closed AfterValue t e h = absurd (true≢false e)
not_closed AfterComma t e h = closing_after_comma t h
not_closed Failed t e h = refl

pub ended : (place : reader.Place) (t : List ℕ) → t ≡ [] → tokens_at place t ≡ cond (closes_at place) [] (refused_at place)
unfolding punctuate
ended Fresh t e = ap (punctuate fresh) (ap (lex between) e ∙ lex-nil)
ended AfterValue t e = ap (punctuate after_value) (ap (lex between) e ∙ lex-nil)
ended AfterComma t e = ap (punctuate after_comma) (ap (lex between) e ∙ lex-nil)
ended Failed t e = refl

pub text_after_value : (o : Option (List ℕ)) (b : Bool) (k : Place → List Token) → place_token after_value (string_token o) b k ≡ bad ∷ []
text_after_value None b k = refl
text_after_value (Some s) true k = refl
text_after_value (Some s) false k = refl

pub word_after_value : (w : Token) (b : Bool) (k : Place → List Token) → IsWord w → place_token after_value w b k ≡ bad ∷ []
word_after_value begin_object b k h = absurd h
word_after_value end_object b k h = absurd h
word_after_value begin_array b k h = absurd h
word_after_value end_array b k h = absurd h
word_after_value (key s) b k h = absurd h
word_after_value (string s) b k h = absurd h
word_after_value (number s) b k h = refl
word_after_value (boolean v) b k h = refl
word_after_value null b k h = refl
word_after_value bad b k h = refl

pub not_begun : (place : reader.Place) (t : List ℕ) → begins_at place ≡ false → NotBeforeComma place t → is_blank (class (head t)) ≡ false → head t ≢ 125 → head t ≢ 93 → tokens_at place t ≡ refused_at place
unfolding punctuate
not_begun Fresh t e passed solid a b = absurd (true≢false e)
not_begun AfterValue t e passed solid a b =
    first_cases t (λ ls. punctuate after_value ls ≡ bad ∷ []) (λ blank. absurd (true≢false (sym blank ∙ solid))) (λ o h. text_after_value o _ _) (λ k w. word_after_value k _ _ w)
    (six (λ x. head t ≡ x → punctuate after_value (operator_lexeme x ∷ rest t) ≡ bad ∷ []) (λ h. refl) (λ h. absurd (a h)) (λ h. refl) (λ h. absurd (b h)) (λ h. refl) (λ h. absurd (passed h)))
not_begun AfterComma t e passed solid a b = absurd (true≢false e)
not_begun Failed t e passed solid a b = refl

-- ---- where no array closes

other_token : (b : Bool) (t : Token) (k : Place → List Token) (next : Place) → after_end_array (t ∷ k next) ≡ None → after_end_array (if_allowed b t k next) ≡ None
other_token true t k next e = e
other_token false t k next e = refl

text_no_end : (p : Place) (o : Option (List ℕ)) (b : Bool) (k : Place → List Token) → after_end_array (place_token p (string_token o) b k) ≡ None
text_no_end p None b k = refl
text_no_end p (Some s) true k = other_token (may_begin p) (key s) k after_key refl
text_no_end p (Some s) false k = other_token (may_begin p) (string s) k after_value refl

word_no_end : (p : Place) (w : Token) (b : Bool) (k : Place → List Token) → IsWord w → after_end_array (place_token p w b k) ≡ None
word_no_end p begin_object b k h = absurd h
word_no_end p end_object b k h = absurd h
word_no_end p begin_array b k h = absurd h
word_no_end p end_array b k h = absurd h
word_no_end p (key s) b k h = absurd h
word_no_end p (string s) b k h = absurd h
word_no_end p (number s) b k h = other_token (may_begin p) (number s) k after_value refl
word_no_end p (boolean v) b k h = other_token (may_begin p) (boolean v) k after_value refl
word_no_end p null b k h = other_token (may_begin p) null k after_value refl
word_no_end p bad b k h = refl

no_end : (p : Place) (t : List ℕ) → Ends t → head t ≢ 93 → after_end_array (punctuate p []) ≡ None → (head t ≡ 44 → after_end_array (punctuate p (comma ∷ rest t)) ≡ None)
    → after_end_array (punctuate p (colon ∷ rest t)) ≡ None → after_end_array (punctuate p (lex between t)) ≡ None
unfolding punctuate
no_end p t ends other_byte none at_comma at_colon =
    let k = λ (n : Place). punctuate n (rest t) in
    first_cases t (λ ls. after_end_array (punctuate p ls) ≡ None) (λ b. ap (λ ls. after_end_array (punctuate p ls)) (ap (lex between) (ends b) ∙ lex-nil) ∙ none)
    (λ o h. text_no_end p o _ k) (λ w h. word_no_end p w _ k h)
    (six (λ x. head t ≡ x → after_end_array (punctuate p (operator_lexeme x ∷ rest t)) ≡ None) (λ h. other_token (may_begin p) begin_object k fresh refl) (λ h. other_token (may_close p) end_object k after_value refl)
    (λ h. other_token (may_begin p) begin_array k fresh refl) (λ h. absurd (other_byte h)) (λ h. at_colon) at_comma)

pub no_end_array : (place : reader.Place) (t : List ℕ) → Ends t → NotBeforeComma place t → head t ≢ 93 → after_end_array (tokens_at place t) ≡ None
unfolding punctuate
no_end_array Fresh t ends passed h = no_end fresh t ends h refl (λ e. refl) refl
no_end_array AfterValue t ends passed h = no_end after_value t ends h refl (λ e. absurd (passed e)) refl
no_end_array AfterComma t ends passed h = no_end after_comma t ends h refl (λ e. refl) refl
no_end_array Failed t ends passed h = refl

pub refused_no_end : (place : reader.Place) → after_end_array (refused_at place) ≡ None
refused_no_end Fresh = refl
refused_no_end AfterValue = refl
refused_no_end AfterComma = refl
refused_no_end Failed = refl
