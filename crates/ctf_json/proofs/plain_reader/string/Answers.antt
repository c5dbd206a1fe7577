use Rattle.std.proofs.Common.{◌≡◌, ◌∷◌, None, Some, refl, sym, ap, ◌∙◌, arith}
use Rattle.json.specs.Token as spec
use Rattle.json.specs.Word.{head}
use Rattle.json.specs.Lex.{token, colon, class, between, lex, fresh, after_value, after_key, may_begin, place_token, punctuate}
use Rattle.json.specs.Align.{is_blank}
use Rattle.ctf_json.proofs.Punctuation.{rest, at_operator, at_string, no_colon, allowed}
use Rattle.ctf_json.proofs.plain_reader.string.Goals as goal

pub returns-in_default-clause-value : goal.returns-in_default-clause-value
unfolding punctuate
returns-in_default-clause-value c p may = ap (punctuate p) (at_string c.args.lexer.now None c.requires (grind arith))

pub skip-requires : goal.skip-requires
skip-requires c =
    let e : head c.string.new.self ≡ 58 = omega (arith, c.peek.ensures.value) in
    ap class e

pub returns-then-peek-eq58-clause-value : goal.returns-then-peek-eq58-clause-value
unfolding punctuate
returns-then-peek-eq58-clause-value c p may =
    let s = c.in-Some.text.now in
    let after = c.string.new.self in
    let next = sym c.in-Some.ensures.after ∙ at_operator 58 after refl (omega (arith, c.peek.ensures.value)) in
    ap (punctuate p) (at_string c.args.lexer.now (Some s) c.requires c.in-Some.ensures.value ∙ ap (λ ls. token (spec.string s) ∷ ls) next)
    ∙ allowed (may_begin p) (spec.key s) (λ n. punctuate n (colon ∷ rest after)) after_key may ∙ ap (λ ls. spec.key s ∷ punctuate fresh ls) (sym c.skip.ensures)

pub returns-else-peek-eq58-clause-value : goal.returns-else-peek-eq58-clause-value
unfolding punctuate
returns-else-peek-eq58-clause-value c p may =
    let s = c.in-Some.text.now in
    let after = c.string.new.self in
    let seen = c.peek.ensures.value in
    ap (punctuate p) (at_string c.args.lexer.now (Some s) c.requires c.in-Some.ensures.value ∙ ap (λ ls. token (spec.string s) ∷ ls) (sym c.in-Some.ensures.after))
    ∙ ap (λ b. place_token p (spec.string s) b (λ n. punctuate n (lex between after))) (no_colon after (λ b. c.peek.ensures.end (ap (λ x. is_blank (class x)) seen ∙ b)) (λ e. omega (arith, seen)))
    ∙ allowed (may_begin p) (spec.string s) (λ n. punctuate n (lex between after)) after_value may ∙ ap (λ ts. spec.string s ∷ ts) (sym c.after_value.ensures.same)
