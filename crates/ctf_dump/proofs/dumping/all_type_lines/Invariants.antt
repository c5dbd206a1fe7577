use Rattle.std.proofs.Common.{◌≡◌, [], drop}
use Rattle.ctf_dump.specs.Progress.{HasWritten}
use Rattle.ctf_layout.specs.Fitting.{Fits}
use Rattle.ctf_model.specs.dumps.Dump.{types_from}
use Rattle.ctf_space.specs.SpaceView.{space_of}
use Rattle.ctf_dump.proofs.dumping.all_type_lines.Given as goal

abbrev pub invariant-loop-place : goal.invariant-loop-place
invariant-loop-place g l = record {
  known : l.names ≡ space_of l.space;
  bare : l.line ≡ [];
  written : Fits (space_of l.space) l.layout → HasWritten (g.W.Write.contents l.fn.out) (g.W.Write.contents l.out) (types_from (space_of l.space) 0 (space_of l.space).own.terms) (types_from (space_of l.space) l.place (drop l.place (space_of l.space).own.terms));
}
