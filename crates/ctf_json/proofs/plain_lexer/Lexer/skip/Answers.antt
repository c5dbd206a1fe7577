use Rattle.std.proofs.Common.{◌≡◌, ◌+◌, ℕ, List, drop, sym, ap, ◌∙◌, subst}
use Rattle.std.proofs.lemmas.List.{drop-drop}
use Rattle.json.specs.Lex.{between, lex}
use Rattle.ctf_json.proofs.Lexing.{behind_operator}
use Rattle.ctf_json.proofs.plain_lexer.Lexer.skip.Goals as goal

pub returns : goal.returns
returns c =
    let a = c.self.inside in
    let d = a.text.now in
    let next = c.blanks_end-self-inside in
    let P : List ℕ → Type 0 = λ t. lex between (drop next.result t) ≡ lex between (drop (a.at + 1) t) in
    subst P c.as_bytes.ensures.value next.ensures.same
    ∙ sym (behind_operator c.args.self.now c.requires ∙ ap (lex between) (ap (drop 1) (sym c.self.view_is) ∙ drop-drop 1 a.at d))
