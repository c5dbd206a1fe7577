use Rattle.std.proofs.Common.{◌≡◌, map, drop}
use Rattle.ctf_protocol.specs.words.Words.{word_named}
use Rattle.ctf_protocol.proofs.words.find.Given as goal

abbrev pub invariant-loop-row : goal.invariant-loop-row
invariant-loop-row l = word_named l.text (map (λ row. (row.1, row.0.now)) (drop l.row-index l.table)) ≡ word_named l.text (map (λ row. (row.1, row.0.now)) l.table)
