use Rattle.ctf_library.proofs.Rising.{non_decreasing}
use Rattle.ctf_library.proofs.library.Library.parent_at.Goals as goal

pub find-requires : goal.find-requires
find-requires c = non_decreasing _ _ _ c.self.invariant.1
