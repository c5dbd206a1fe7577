use Rattle.std.proofs.Common.{◌≡◌, ◌≢◌, ◌∷◌, false, Some, refl, sym, ap, ◌∙◌, arith}
use Rattle.std.proofs.lemmas.Bool.{true≢false}
use Rattle.json.specs.Token as spec
use Rattle.json.specs.Word.{head}
use Rattle.json.specs.Lex.{token, class, other, between, lex, after_value, may_begin, place_token, punctuate}
use Rattle.json.specs.Align.{is_blank}
use Rattle.ctf_json.proofs.Lexing.{lex_first}
use Rattle.ctf_json.proofs.Numerals.{by_end}
use Rattle.ctf_json.proofs.Punctuation.{rest, allowed, at_string, good_word, no_colon}
use Rattle.ctf_json.proofs.plain_reader.field.Goals as goal

pub returns-in_ok-string_before : goal.returns-in_ok-string_before
unfolding punctuate
returns-in_ok-string_before c =
    let t = c.args.lexer.now in
    let s = c.in_ok-string_before.field-0.now in
    let after = c.string_before.new.self in
    let found = c.in_ok-string_before.ensures in
    let quote : head t ≡ 34 = omega (arith, c.peek.ensures.value) in
    let solid : is_blank (class (head after)) ≡ false = by_end (λ x. is_blank (class x) ≡ false) (head after) found.next refl refl in
    let other_byte : head after ≢ 58 = by_end (λ x. x ≢ 58) (head after) found.next (λ e. omega (arith, e)) (λ e. omega (arith, e)) in (
      λ p may. ap (punctuate p) (at_string t (Some s) quote found.value ∙ ap (λ ls. token (spec.string s) ∷ ls) (sym found.after))
          ∙ ap (λ b. place_token p (spec.string s) b (λ n. punctuate n (lex between after))) (no_colon after (λ b. absurd (true≢false (sym b ∙ solid))) other_byte)
          ∙ allowed (may_begin p) (spec.string s) (λ n. punctuate n (lex between after)) after_value may,
      refl,
    )

pub returns-in_ok-digits : goal.returns-in_ok-digits
unfolding punctuate
returns-in_ok-digits c =
    let t = c.args.lexer.now in
    let s = c.in_ok-digits.field-0.now in
    let found = c.in_ok-digits.ensures in
    let first = lex_first other t found.value.0 refl ∙ ap (λ w. token w ∷ rest t) found.value.1 in
    (λ p may. ap (punctuate p) first ∙ good_word p (spec.number s) (rest t) tt refl may ∙ ap (λ ls. spec.number s ∷ punctuate after_value ls) (sym found.after), found.value.2)
