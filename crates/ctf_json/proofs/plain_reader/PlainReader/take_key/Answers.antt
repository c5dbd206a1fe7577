use Rattle.std.proofs.Common.{◌≡◌, ◌∷◌, Some, refl, sym, ap, ◌∙◌, ⊎_elim, arith}
use Rattle.json.specs.Token as spec
use Rattle.json.specs.Word.{head}
use Rattle.json.specs.Lex.{token, colon, fresh, after_key, may_begin, punctuate}
use Rattle.ctf_json.proofs.Punctuation.{rest, allowed, at_operator, at_string, begun}
use Rattle.ctf_json.proofs.plain_reader.PlainReader.take_key.Goals as goal

pub returns : goal.returns
unfolding punctuate
returns c =
    let a = c.self.inside in
    let t = a.lexer in
    let s = c.in_ok-key.key.now in
    let after = c.string_before.new.self in
    let quote : head t ≡ 34 = grind arith in
    let at_colon : head after ≡ 58 = ⊎_elim (λ e. e) (λ e. e) c.in_ok-key.ensures.next in
    let next = sym c.in_ok-key.ensures.after ∙ at_operator 58 after refl at_colon in
    let first = begun a.place t _ (grind arith) (λ p may.
    ap (punctuate p) (at_string t (Some s) quote c.in_ok-key.ensures.value ∙ ap (λ ls. token (spec.string s) ∷ ls) next)
    ∙ allowed (may_begin p) (spec.key s) (λ n. punctuate n (colon ∷ rest after)) after_key may ∙ ap (λ ls. spec.key s ∷ punctuate fresh ls) (sym c.skip.ensures)) in
    sym c.self.view_is ∙ first
