use Rattle.std.proofs.Common.{◌≡◌, None, Some, refl, sym, ap, ◌∙◌, inr, ⊎_elim, arith}
use Rattle.json.specs.Token as spec
use Rattle.json.specs.Word.{head}
use Rattle.json.specs.Lex.{class, after_value, may_close, punctuate}
use Rattle.json.specs.Align.{is_blank}
use Rattle.json.specs.Json.{after_end_array}
use Rattle.ctf_json.specs.PlainReader.{tokens_at}
use Rattle.ctf_json.proofs.Punctuation.{rest, at_operator, allowed, closed, not_closed, no_end_array, refused_no_end}
use Rattle.std.proofs.lemmas.Bool.{cases_eq}
use Rattle.ctf_json.proofs.plain_reader.PlainReader.take_end_array.Goals as goal

pub returns-then-peek-may_close : goal.returns-then-peek-may_close
returns-then-peek-may_close c =
    let a = c.self.inside in
    let seen = c.peek.ensures.value in
    let none : after_end_array (tokens_at a.place a.lexer) ≡ None = ⊎_elim
    (λ e. ap after_end_array (not_closed a.place a.lexer (grind arith) (inr e)) ∙ refused_no_end a.place)
    (no_end_array a.place a.lexer (λ b. c.peek.ensures.end (ap (λ x. is_blank (class x)) seen ∙ b)) c.self.invariant) (cases_eq (head a.lexer) 93) in
    (ap after_end_array (sym c.self.view_is) ∙ none, refl)

pub skip-requires : goal.skip-requires
skip-requires c =
    let e : head c.self.inside.lexer ≡ 93 = grind arith in
    ap class e

pub returns : goal.returns
unfolding punctuate
returns c =
    let a = c.self.inside in
    let t = a.lexer in
    let e : head t ≡ 93 = grind arith in
    let first = closed a.place t _ (grind arith) (λ p may. ap (punctuate p) (at_operator 93 t refl e) ∙ allowed (may_close p) spec.end_array (λ n. punctuate n (rest t)) after_value may) in
    ap after_end_array (sym c.self.view_is ∙ first) ∙ ap Some (ap (punctuate after_value) (sym c.skip.ensures) ∙ sym c.after_value-self-inside.ensures.same)
