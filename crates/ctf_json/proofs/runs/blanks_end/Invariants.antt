use Rattle.std.proofs.Common.{◌≡◌, ◌-◌, ◌≤◌, length, drop}
use Rattle.json.specs.Lex.{between, lex}
use Rattle.ctf_json.proofs.runs.blanks_end.Given as goal

abbrev pub invariant-loop-i : goal.invariant-loop-i
invariant-loop-i l = (lex between (drop l.i l.text) ≡ lex between (drop l.from l.text)) × (l.i ≤ length l.text)

abbrev pub decreases-loop-i : goal.decreases-loop-i
decreases-loop-i l = length l.text - l.i
