use Rattle.std.proofs.lemmas.List.{map-set}
use Rattle.ctf_layout.specs.Kept.{extent_kept}
use Rattle.ctf_layout.proofs.filling.keep.Goals as goal

pub returns : goal.returns
returns c = map-set extent_kept c.args.table.now c.args.i c.args.found
