use Rattle.std.proofs.Common.{◌≡◌, [], cond, sym, ap, ◌∙◌, subst, arith}
use Rattle.json.specs.Lex.{class}
use Rattle.json.specs.Align.{is_blank}
use Rattle.json.specs.Reads.{Yields}
use Rattle.ctf_json.specs.PlainReader.{tokens_at, refused_at}
use Rattle.ctf_json.proofs.Punctuation.{not_closed, ended, not_begun}
use Rattle.ctf_json.proofs.plain_reader.read.Goals as goal

pub returns-then-not-may_close-clause-value : goal.returns-then-not-may_close-clause-value
returns-then-not-may_close-clause-value c =
    let t = c.args.lexer.now in
    let place = c.args.place in
    let r = c.refuse in
    let seen = c.peek-c.ensures.value in
    let none : tokens_at place t ≡ refused_at place = not_closed place t (grind arith) (grind arith) in
    subst (λ p. Yields (tokens_at place t) r.result.0 (tokens_at p t)) (sym r.ensures.1) (subst (λ ts. Yields ts r.result.0 []) (sym none) r.ensures.0)

pub returns-then-may_close-clause-value : goal.returns-then-may_close-clause-value
returns-then-may_close-clause-value c =
    let t = c.args.lexer.now in
    let place = c.args.place in
    let none = ended place t (c.peek-c.ensures.end (sym c.is_white.ensures ∙ c.if-is_white.true)) ∙ ap (λ b. cond b [] (refused_at place)) (sym c.may_close-then-is_white.ensures ∙ c.if-may_close.true) in
    (none, none)

pub returns-else-may_close-clause-value : goal.returns-else-may_close-clause-value
returns-else-may_close-clause-value c =
    let t = c.args.lexer.now in
    let place = c.args.place in
    let r = c.refuse-else-may_close in
    let seen = c.peek-c.ensures.value in
    let none : tokens_at place t ≡ refused_at place = ended place t (c.peek-c.ensures.end (sym c.is_white.ensures ∙ c.if-is_white.true)) ∙ ap (λ b. cond b [] (refused_at place)) (sym c.may_close-then-is_white.ensures ∙ c.if-may_close.false) in
    subst (λ p. Yields (tokens_at place t) r.result.0 (tokens_at p t)) (sym r.ensures.1) (subst (λ ts. Yields ts r.result.0 []) (sym none) r.ensures.0)

pub returns-then-not-may_begin-clause-value : goal.returns-then-not-may_begin-clause-value
returns-then-not-may_begin-clause-value c =
    let t = c.args.lexer.now in
    let place = c.args.place in
    let r = c.refuse-then-not-may_begin in
    let seen = c.peek-c.ensures.value in
    let none : tokens_at place t ≡ refused_at place = not_begun place t (grind arith) c.requires (ap (λ x. is_blank (class x)) (sym seen) ∙ sym c.is_white.ensures ∙ c.if-is_white.false) (grind arith) (grind arith) in
    subst (λ p. Yields (tokens_at place t) r.result.0 (tokens_at p t)) (sym r.ensures.1) (subst (λ ts. Yields ts r.result.0 []) (sym none) r.ensures.0)
