use Rattle.ctf_writer.specs.TableNames.{names_within}
use Rattle.ctf_writer.proofs.Placing.{AreSoFar}
use Rattle.ctf_writer.proofs.strings.place.Given as goal

abbrev pub invariant-loop-name : goal.invariant-loop-name
invariant-loop-name l = AreSoFar (names_within l.before) l.names l.name-index l.placed.references.items l.placed.added.items l.placed.len
