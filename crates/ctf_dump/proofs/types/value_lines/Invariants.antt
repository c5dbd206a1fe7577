use Rattle.std.proofs.Common.{◌≡◌, []}
use Rattle.std.specs.List.{flat_map}
use Rattle.ctf_model.specs.dumps.Dump.{value_line}
use Rattle.ctf_dump.specs.Progress.{HasWritten}
use Rattle.ctf_dump.proofs.types.value_lines.Given as goal

abbrev pub invariant-loop-enumerator : goal.invariant-loop-enumerator
invariant-loop-enumerator g l = record {
  bare : l.line ≡ [];
  written : HasWritten (g.W.Write.contents l.fn.out) (g.W.Write.contents l.out) (flat_map value_line l.initial.enumerator-iterator) (flat_map value_line l.enumerator-iterator);
}
