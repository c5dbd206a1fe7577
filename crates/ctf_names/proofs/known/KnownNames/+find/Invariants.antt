use Rattle.std.proofs.Common.{◌+◌, ◌*◌}
use Rattle.ctf_names.proofs.known.KnownNames.+find.Given as goal

abbrev pub decreases-find : goal.decreases-find
decreases-find l = 2 * l.most

abbrev pub decreases-find_round : goal.decreases-find_round
decreases-find_round l = 2 * l.most + 1
