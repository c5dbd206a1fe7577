use Rattle.std.proofs.Common.{◌≡◌, []}
use Rattle.std.specs.List.{flat_map}
use Rattle.ctf_model.specs.dumps.Dump.{member_line}
use Rattle.ctf_dump.specs.Progress.{HasWritten}
use Rattle.ctf_dump.proofs.types.member_lines.Given as goal

abbrev pub invariant-loop-member : goal.invariant-loop-member
invariant-loop-member g l = record {
  bare : l.line ≡ [];
  written : HasWritten (g.W.Write.contents l.fn.out) (g.W.Write.contents l.out) (flat_map member_line l.initial.member-iterator) (flat_map member_line l.member-iterator);
}
