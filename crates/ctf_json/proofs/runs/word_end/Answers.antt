use Rattle.std.proofs.Common.{◌≡◌, true, false, sym, ◌∙◌, arith}
use Rattle.ctf_json.proofs.Lexing.{word_at_end, word_ended, word_passed}
use Rattle.ctf_json.proofs.runs.word_end.Goals as goal

pub loop-i-preserved : goal.loop-i-preserved
loop-i-preserved c =
    let d = c.args.text.now in
    let i = c.loop-i.i in
    let within = c.loop-i-test.true in
    let inside : c.is_delimiter.result ≡ false = grind arith in
    (sym (word_passed d i within (sym c.is_delimiter.ensures ∙ inside)) ∙ c.loop-i.invariant.0, omega (arith, within))

pub returns-else-not-is_delimiter-clause-same : goal.returns-else-not-is_delimiter-clause-same
returns-else-not-is_delimiter-clause-same c =
    let ends : c.is_delimiter.result ≡ true = grind arith in
    word_ended c.args.text.now c.loop-i.i c.loop-i-test.true (sym c.is_delimiter.ensures ∙ ends) ∙ c.loop-i.invariant.0

pub returns-after-loop-i-clause-same : goal.returns-after-loop-i-clause-same
returns-after-loop-i-clause-same c =
    let past = c.loop-i-test.false in
    word_at_end c.args.text.now c.loop-i.i (omega (arith, past)) ∙ c.loop-i.invariant.0
