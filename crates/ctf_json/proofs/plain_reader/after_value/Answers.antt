use Rattle.std.proofs.Common.{◌≡◌, refl, sym, ap, ◌∙◌, arith}
use Rattle.json.specs.Word.{head}
use Rattle.json.specs.Lex.{class, after_value, after_comma, punctuate}
use Rattle.ctf_json.proofs.Punctuation.{at_operator}
use Rattle.ctf_json.proofs.plain_reader.after_value.Goals as goal

pub skip-requires : goal.skip-requires
skip-requires c =
    let e : head c.args.lexer.now ≡ 44 = omega (arith, c.peek.ensures.value) in
    ap class e

pub returns-then-peek-eq44-clause-same : goal.returns-then-peek-eq44-clause-same
unfolding punctuate
returns-then-peek-eq44-clause-same c = ap (punctuate after_comma) c.skip.ensures ∙ sym (ap (punctuate after_value) (at_operator 44 c.args.lexer.now refl (omega (arith, c.peek.ensures.value))))
