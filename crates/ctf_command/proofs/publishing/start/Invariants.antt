use Rattle.std.proofs.Common.{map, take}
use Rattle.ctf_laws.specs.Good.{AreGood}
use Rattle.ctf_broker.specs.Table.{library_at}
use Rattle.ctf_command.specs.Argument.{argument_shown}
use Rattle.ctf_command.specs.Started.{HasPublished}
use Rattle.ctf_command.proofs.publishing.start.Given as goal

abbrev pub invariant-loop-wanted : goal.invariant-loop-wanted
invariant-loop-wanted g l = record {
  good : AreGood (library_at l.broker);
  published : HasPublished (g.F.FileReader.gave l.files) (map argument_shown (take l.wanted-index l.wanted-items)) l.broker;
}
