use Rattle.std.proofs.Common.{◌≡◌, map, take}
use Rattle.ctf_writer.specs.UsedView.{used_names}
use Rattle.ctf_writer.specs.Uses.{with_names}
use Rattle.ctf_writer.proofs.uses.add_enumerators.Given as goal

abbrev pub invariant-loop-enumerator : goal.invariant-loop-enumerator
invariant-loop-enumerator l = used_names l.used ≡ with_names (used_names l.fn.used) (map (λ e. e.name) (take l.enumerator-index l.enumerators))
