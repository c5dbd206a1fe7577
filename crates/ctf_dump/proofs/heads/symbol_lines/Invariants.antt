use Rattle.std.proofs.Common.{◌≡◌, []}
use Rattle.std.specs.List.{flat_map}
use Rattle.ctf_model.specs.dumps.Dump.{symbol_line}
use Rattle.ctf_dump.specs.Progress.{HasWritten}
use Rattle.ctf_dump.proofs.heads.symbol_lines.Given as goal

abbrev pub invariant-loop-entry : goal.invariant-loop-entry
invariant-loop-entry g l = record {
  bare : l.line ≡ [];
  written : HasWritten (g.W.Write.contents l.fn.out) (g.W.Write.contents l.out) (flat_map symbol_line l.initial.entry-iterator) (flat_map symbol_line l.entry-iterator);
}
