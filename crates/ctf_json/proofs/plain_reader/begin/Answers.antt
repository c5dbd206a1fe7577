use Rattle.std.proofs.Common.{◌≡◌, ◌∷◌, true, refl, sym, ap, ◌∙◌, subst, arith, rules}
use Rattle.json.specs.Token as spec
use Rattle.json.specs.Word.{head}
use Rattle.json.specs.Lex.{token, class, other, fresh, after_value, may_begin, punctuate}
use Rattle.json.specs.Align.{is_good}
use Rattle.json.specs.Reads.{token_of}
use Rattle.ctf_json.proofs.Lexing.{lex_first}
use Rattle.ctf_json.proofs.Punctuation.{rest, at_operator, allowed, IsWord, IsWord-word, good_word, bad_word, stray}
use Rattle.ctf_json.proofs.plain_reader.begin.Goals as goal

pub skip-requires : goal.skip-requires
skip-requires c = ap class (c.requires.first.0 ∙ c.in-123.is)

pub skip-requires-in-91 : goal.skip-requires-in-91
skip-requires-in-91 c = ap class (c.requires.first.0 ∙ c.in-91.is)

pub returns-in-123-clause-value : goal.returns-in-123-clause-value
unfolding punctuate
returns-in-123-clause-value c p may =
    let t = c.args.lexer.now in
    ap (punctuate p) (at_operator 123 t refl (c.requires.first.0 ∙ c.in-123.is)) ∙ allowed (may_begin p) spec.begin_object (λ n. punctuate n (rest t)) fresh may ∙ ap (λ ls. spec.begin_object ∷ punctuate fresh ls) (sym c.skip.ensures)

pub returns-in-91-clause-value : goal.returns-in-91-clause-value
unfolding punctuate
returns-in-91-clause-value c p may =
    let t = c.args.lexer.now in
    ap (punctuate p) (at_operator 91 t refl (c.requires.first.0 ∙ c.in-91.is)) ∙ allowed (may_begin p) spec.begin_array (λ n. punctuate n (rest t)) fresh may ∙ ap (λ ls. spec.begin_array ∷ punctuate fresh ls) (sym c.skip-in-91.ensures)

pub returns-in-44-clause-value : goal.returns-in-44-clause-value
returns-in-44-clause-value c p may = stray p c.args.lexer.now may (grind arith)

pub returns-then-is_good-clause-value : goal.returns-then-is_good-clause-value
returns-then-is_good-clause-value c p may =
    let t = c.args.lexer.now in
    let k = token_of c.word-token.result in
    let kind : class (head t) ≡ other = search rules in
    let first = lex_first other t kind refl ∙ ap (λ w. token w ∷ rest t) (sym c.word-token.ensures.value) in
    let good : is_good k ≡ true = sym c.is_good.ensures ∙ c.if-is_good.true in
    ap (punctuate p) first ∙ good_word p k (rest t) (subst IsWord (sym c.word-token.ensures.value) (IsWord-word t)) good may
    ∙ ap (λ ts. k ∷ ts) (ap (punctuate after_value) (sym (c.word-token.ensures.after)) ∙ sym c.after_value.ensures.same)

pub returns-else-is_good-clause-value : goal.returns-else-is_good-clause-value
returns-else-is_good-clause-value c p may =
    let t = c.args.lexer.now in
    let k = token_of c.word-token.result in
    let kind : class (head t) ≡ other = search rules in
    let first = lex_first other t kind refl ∙ ap (λ w. token w ∷ rest t) (sym c.word-token.ensures.value) in
    ap (punctuate p) first ∙ bad_word p k (rest t) (sym c.is_good.ensures ∙ c.if-is_good.false)
