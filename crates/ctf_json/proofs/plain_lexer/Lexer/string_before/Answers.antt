use Rattle.std.proofs.Common.{◌≡◌, ◌+◌, ◌<◌, length, drop, get_or, Some, sym, ap, ◌∙◌, arith, lt_of_not-le}
use Rattle.std.proofs.lemmas.List.{get_or_default, get_or_past}
use Rattle.std.proofs.lemmas.Str.{IsCharBoundary-after_ascii}
use Rattle.std.specs.List.{prefix_len}
use Rattle.json.specs.Lex.{in_string, lex}
use Rattle.json.specs.Run.{is_plain}
use Rattle.json.specs.Text.{content, plain}
use Rattle.json.specs.Word.{head}
use Rattle.ctf_json.proofs.Lexing.{behind_quote, content_closed, quote_at, string_passed}
use Rattle.ctf_json.proofs.plain_lexer.Lexer.string_before.Goals as goal

pub range-requires-clause-start_boundary : goal.range-requires-clause-start_boundary
range-requires-clause-start_boundary c some =
    let a = c.self.inside in
    let q = quote_at a.text.now a.at (ap head c.self.view_is ∙ c.requires.opening) in
    IsCharBoundary-after_ascii a.text.now a.at c.self.invariant.utf8 q.within (omega (arith, q.byte))

pub returns-clause-value : goal.returns-clause-value
returns-clause-value c =
    let a = c.self.inside in
    let d = a.text.now in
    let q = quote_at d a.at (ap head c.self.view_is ∙ c.requires.opening) in
    let stop = c.plain_end-stop in
    let is : stop.result ≡ a.at + 1 + prefix_len is_plain (drop (a.at + 1) d) = rw (← c.as_bytes.ensures.value) stop.ensures.value in
    let here = ap (λ t. get_or t stop.result 32) c.as_bytes-2.ensures.value in
    let closing : get_or d stop.result 32 ≡ 34 = omega (arith, c.byte_at.ensures.value, here, c.if-byte_at-ne34.false) in
    let within : stop.result < length d = lt_of_not-le (λ h. omega (arith, closing, get_or_past d stop.result 32 h)) in
    ap (content plain) (ap (drop 1) (sym c.self.view_is) ∙ q.rest)
    ∙ content_closed d (a.at + 1) stop.result is within (get_or_default d stop.result 0 32 within ∙ closing) ∙ ap Some (sym c.range.ensures.value)

pub returns-clause-after : goal.returns-clause-after
returns-clause-after c =
    let a = c.self.inside in
    let d = a.text.now in
    let q = quote_at d a.at (ap head c.self.view_is ∙ c.requires.opening) in
    let stop = c.plain_end-stop in
    let is : stop.result ≡ a.at + 1 + prefix_len is_plain (drop (a.at + 1) d) = rw (← c.as_bytes.ensures.value) stop.ensures.value in
    let here = ap (λ t. get_or t stop.result 32) c.as_bytes-2.ensures.value in
    let closing : get_or d stop.result 32 ≡ 34 = omega (arith, c.byte_at.ensures.value, here, c.if-byte_at-ne34.false) in
    let within : stop.result < length d = lt_of_not-le (λ h. omega (arith, closing, get_or_past d stop.result 32 h)) in
    sym (behind_quote c.args.self.now c.requires.opening ∙ ap (lex in_string) (ap (drop 1) (sym c.self.view_is) ∙ q.rest)
    ∙ string_passed d (a.at + 1) stop.result is within (get_or_default d stop.result 0 32 within ∙ closing))
