use Rattle.ctf_library.proofs.Published.{none_kept, none_published}
use Rattle.ctf_library.proofs.publication_map.PublicationMap.new.Goals as goal

pub invariant_of-result : goal.invariant_of-result
invariant_of-result c = none_kept c.new.result c.new.ensures.ordered c.new.ensures.empty

pub returns : goal.returns
returns c = none_published c.new.result.entries c.new.ensures.empty
