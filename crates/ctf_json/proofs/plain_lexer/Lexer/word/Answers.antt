use Rattle.std.proofs.Common.{◌≡◌, ◌+◌, ℕ, List, drop, sym, ap, ◌∙◌, subst}
use Rattle.std.proofs.lemmas.List.{drop-drop}
use Rattle.json.specs.Lex.{class, other, between, in_word, lex}
use Rattle.json.specs.Word.{head}
use Rattle.ctf_json.proofs.Lexing.{behind_word}
use Rattle.ctf_json.proofs.plain_lexer.Lexer.word.Goals as goal

pub returns-in-Some-clause-value : goal.returns-in-Some-clause-value
returns-in-Some-clause-value c = sym c.in-Some.ensures.value.1

pub returns-clause-after : goal.returns-clause-after
returns-clause-after c =
    let a = c.self.inside in
    let d = a.text.now in
    let end = c.word_end-end in
    let same : c.digits.new.self ≡ c.args.self.now = c.in_default.ensures.value in
    let next = c.blanks_end-self-inside in
    let P : List ℕ → Type 0 = λ t. lex between (drop next.result t) ≡ lex between (drop end.result t) in
    let Q : List ℕ → Type 0 = λ t. lex between (drop end.result t) ≡ lex in_word (drop (a.at + 1) t) in
    subst P c.as_bytes-2.ensures.value next.ensures.same
    ∙ subst Q c.as_bytes.ensures.value end.ensures.same
    ∙ sym (behind_word c.digits.new.self (subst (λ x. class (head x) ≡ other) (sym same) c.requires) ∙ ap (lex in_word) (ap (drop 1) (sym c.self.view_is) ∙ drop-drop 1 a.at d))
    ∙ ap (λ x. drop 1 (lex between x)) same
