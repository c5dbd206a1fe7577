use Rattle.std.proofs.Common.{◌≤◌, length, ◌-◌}
use Rattle.ctf_sections.proofs.alike.last_difference.Given as goal

abbrev pub invariant-loop-to : goal.invariant-loop-to
invariant-loop-to l = (l.from ≤ l.to) × (l.to ≤ length l.text)

abbrev pub decreases-loop-to : goal.decreases-loop-to
decreases-loop-to l = l.to - l.from
