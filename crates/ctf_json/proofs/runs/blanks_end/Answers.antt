use Rattle.std.proofs.Common.{sym, ◌∙◌, arith}
use Rattle.ctf_json.proofs.Lexing.{blank_passed}
use Rattle.ctf_json.proofs.runs.blanks_end.Goals as goal

pub loop-i-preserved : goal.loop-i-preserved
loop-i-preserved c =
    let within = c.loop-i-test.true in
    (sym (blank_passed c.args.text.now c.loop-i.i within (sym c.is_white.ensures ∙ c.if-is_white.true)) ∙ c.loop-i.invariant.0, omega (arith, within))
