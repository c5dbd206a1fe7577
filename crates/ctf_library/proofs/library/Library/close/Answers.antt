use Rattle.ctf_library.proofs.Rising.{non_decreasing}
use Rattle.ctf_library.proofs.library.Library.close.Goals as goal

pub remove-requires : goal.remove-requires
remove-requires c = non_decreasing _ _ _ c.self.invariant.1
