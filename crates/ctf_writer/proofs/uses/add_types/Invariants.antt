use Rattle.std.proofs.Common.{◌≡◌, take}
use Rattle.std.specs.List.{flat_map}
use Rattle.ctf_writer.specs.UsedView.{used_names}
use Rattle.ctf_writer.specs.DraftContentView.{uses}
use Rattle.ctf_writer.specs.Uses.{with_names}
use Rattle.ctf_writer.proofs.uses.add_types.Given as goal

abbrev pub invariant-loop-t : goal.invariant-loop-t
invariant-loop-t l = used_names l.used ≡ with_names (used_names l.fn.used) (flat_map uses (take l.t-index l.types))
