use Rattle.std.proofs.Common.{◌+◌, ◌-◌, ◌≤◌, length}
use Rattle.ctf_writer.proofs.TableNames.{IsOnWay}
use Rattle.ctf_writer.proofs.offsets.offsets_in.Given as goal

abbrev pub invariant-names : goal.invariant-names
invariant-names l = IsOnWay l.endings l.table l.at l.offsets.entries × (l.at ≤ length l.table + 1)

abbrev pub decreases-names : goal.decreases-names
decreases-names l = length l.table + 1 - l.at
