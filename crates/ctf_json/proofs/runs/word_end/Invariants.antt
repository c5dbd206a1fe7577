use Rattle.std.proofs.Common.{◌≡◌, ◌-◌, ◌≤◌, length, drop}
use Rattle.json.specs.Lex.{in_word, lex}
use Rattle.ctf_json.proofs.runs.word_end.Given as goal

abbrev pub invariant-loop-i : goal.invariant-loop-i
invariant-loop-i l = (lex in_word (drop l.i l.text) ≡ lex in_word (drop l.from l.text)) × (l.i ≤ length l.text)

abbrev pub decreases-loop-i : goal.decreases-loop-i
decreases-loop-i l = length l.text - l.i
