use Rattle.std.proofs.Common.{sym, ap}
use Rattle.std.specs.Option.{option_map}
use Rattle.ctf_space.specs.SpaceView.{own_lists}
use Rattle.ctf_names.proofs.numbers.least_of_parent.Goals as goal

pub least_among-requires : goal.least_among-requires
least_among-requires c =
    let at = sym c.in_ok-parent.ensures.lists in
    rw c.deref.ensures (c.requires.over.right (own_lists c.in_ok-parent.parent) at c.in-Some.names.value (ap (option_map (λ rc. rc.value)) c.in-Some.is))
