use Rattle.std.proofs.Common.{◌≡◌, []}
use Rattle.std.specs.List.{flat_map}
use Rattle.ctf_model.specs.dumps.Dump.{label_line}
use Rattle.ctf_dump.specs.Progress.{HasWritten}
use Rattle.ctf_dump.proofs.heads.label_lines.Given as goal

abbrev pub invariant-loop-label : goal.invariant-loop-label
invariant-loop-label g l = record {
  bare : l.line ≡ [];
  written : HasWritten (g.W.Write.contents l.fn.out) (g.W.Write.contents l.out) (flat_map label_line l.initial.label-iterator) (flat_map label_line l.label-iterator);
}
