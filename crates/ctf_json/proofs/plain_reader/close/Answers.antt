use Rattle.std.proofs.Common.{◌≡◌, ◌∷◌, refl, sym, ap, ◌∙◌, arith}
use Rattle.json.specs.Token as spec
use Rattle.json.specs.Word.{head}
use Rattle.json.specs.Lex.{after_value, may_close, punctuate}
use Rattle.ctf_json.proofs.Punctuation.{rest, at_operator, allowed, closes_by_operator}
use Rattle.ctf_json.proofs.plain_reader.close.Goals as goal

pub skip-requires : goal.skip-requires
skip-requires c = closes_by_operator c.args.lexer.now (grind arith)

pub returns-then-c-eq125-clause-value : goal.returns-then-c-eq125-clause-value
unfolding punctuate
returns-then-c-eq125-clause-value c p may =
    let t = c.args.lexer.now in
    let e : head t ≡ 125 = grind arith in
    ap (punctuate p) (at_operator 125 t refl e) ∙ allowed (may_close p) spec.end_object (λ n. punctuate n (rest t)) after_value may
    ∙ ap (λ ts. spec.end_object ∷ ts) (ap (punctuate after_value) (sym c.skip.ensures) ∙ sym c.after_value-place.ensures.same)

pub returns-else-c-eq125-clause-value : goal.returns-else-c-eq125-clause-value
unfolding punctuate
returns-else-c-eq125-clause-value c p may =
    let t = c.args.lexer.now in
    let e : head t ≡ 93 = grind arith in
    ap (punctuate p) (at_operator 93 t refl e) ∙ allowed (may_close p) spec.end_array (λ n. punctuate n (rest t)) after_value may
    ∙ ap (λ ts. spec.end_array ∷ ts) (ap (punctuate after_value) (sym c.skip.ensures) ∙ sym c.after_value-place.ensures.same)
