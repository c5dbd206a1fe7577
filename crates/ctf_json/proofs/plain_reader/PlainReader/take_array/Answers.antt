use Rattle.std.proofs.Common.{◌≡◌, ◌∷◌, refl, sym, ap, ◌∙◌, arith}
use Rattle.json.specs.Token as spec
use Rattle.json.specs.Word.{head}
use Rattle.json.specs.Lex.{class, fresh, may_begin, punctuate}
use Rattle.ctf_json.proofs.Punctuation.{rest, allowed, at_operator, begun}
use Rattle.ctf_json.proofs.plain_reader.PlainReader.take_array.Goals as goal

pub skip-requires : goal.skip-requires
skip-requires c =
    let e : head c.self.inside.lexer ≡ 91 = grind arith in
    ap class e

pub returns : goal.returns
unfolding punctuate
returns c =
    let a = c.self.inside in
    let t = a.lexer in
    let bracket : head t ≡ 91 = grind arith in
    let first = begun a.place t _ (grind arith) (λ p may.
    ap (punctuate p) (at_operator 91 t refl bracket) ∙ allowed (may_begin p) spec.begin_array (λ n. punctuate n (rest t)) fresh may
    ∙ ap (λ ls. spec.begin_array ∷ punctuate fresh ls) (sym c.skip.ensures)) in
    sym c.self.view_is ∙ first
