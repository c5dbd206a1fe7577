use Rattle.std.proofs.Common.{◌≡◌, ◌+◌, ◌-◌, ◌≤◌, drop, refl, sym, ap, ◌∙◌, subst, arith, rules}
use Rattle.std.proofs.lemmas.List.{drop-drop}
use Rattle.std.specs.List.{prefix_len}
use Rattle.std.specs.Char.{is_ascii_digit}
use Rattle.json.specs.Lex.{between, lex}
use Rattle.json.specs.Word.{head}
use Rattle.ctf_json.specs.Plain.{IsNumber}
use Rattle.ctf_json.proofs.Numerals.{Ends, number_at, number_passed}
use Rattle.ctf_json.proofs.plain_lexer.Lexer.digits.Goals as goal

pub returns-clause-value : goal.returns-clause-value
returns-clause-value c =
    let a = c.self.inside in
    let d = a.text.now in
    let t = drop a.at d in
    let end = c.digits_end-end in
    let n = end.result - a.at in
    let first : c.byte_at-first.result ≡ head t = rw (← c.as_bytes-bytes.ensures.value) c.byte_at-first.ensures.head in
    let is : end.result ≡ a.at + prefix_len is_ascii_digit t = rw (← c.as_bytes-bytes.ensures.value) end.ensures.value in
    let byte : c.byte_at-next.result ≡ head (drop end.result d) = rw (← c.as_bytes-bytes.ensures.value) c.byte_at-next.ensures.head in
    let run : n ≡ prefix_len is_ascii_digit t = omega (arith, is) in
    let back : a.at + n ≡ end.result = omega (arith, is) in
    let there : drop n t ≡ drop end.result d = drop-drop n a.at d ∙ ap (λ k. drop k d) back in
    let range = c.if-not-is_digit.ensures refl in
    let few = c.if-not-are_few.ensures refl in
    let zero : head t ≡ 48 → n ≤ 1 = λ e. few.1 (first ∙ e) in
    let last : Ends c.byte_at-next.result = first_of (grind arith, search rules) in
    let number = number_at t n run (omega (arith, first, range.0)) (omega (arith, first, range.1)) zero (subst Ends (byte ∙ ap head (sym there)) last) few.0 in
    subst (λ x. IsNumber x c.range.result.now) c.self.view_is (subst (IsNumber t) (sym c.range.ensures.value) number)

pub returns-clause-after : goal.returns-clause-after
returns-clause-after c =
    let a = c.self.inside in
    let d = a.text.now in
    let t = drop a.at d in
    let end = c.digits_end-end in
    let n = end.result - a.at in
    let first : c.byte_at-first.result ≡ head t = rw (← c.as_bytes-bytes.ensures.value) c.byte_at-first.ensures.head in
    let is : end.result ≡ a.at + prefix_len is_ascii_digit t = rw (← c.as_bytes-bytes.ensures.value) end.ensures.value in
    let byte : c.byte_at-next.result ≡ head (drop end.result d) = rw (← c.as_bytes-bytes.ensures.value) c.byte_at-next.ensures.head in
    let run : n ≡ prefix_len is_ascii_digit t = omega (arith, is) in
    let back : a.at + n ≡ end.result = omega (arith, is) in
    let there : drop n t ≡ drop end.result d = drop-drop n a.at d ∙ ap (λ k. drop k d) back in
    let range = c.if-not-is_digit.ensures refl in
    let few = c.if-not-are_few.ensures refl in
    let zero : head t ≡ 48 → n ≤ 1 = λ e. few.1 (first ∙ e) in
    let last : Ends c.byte_at-next.result = first_of (grind arith, search rules) in
    ap (lex between) (sym there)
    ∙ number_passed t n run (omega (arith, first, range.0)) (omega (arith, first, range.1)) zero (subst Ends (byte ∙ ap head (sym there)) last)
    ∙ ap (λ x. drop 1 (lex between x)) c.self.view_is
