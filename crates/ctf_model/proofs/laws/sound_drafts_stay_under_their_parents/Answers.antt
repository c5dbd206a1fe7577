use Rattle.ctf_model.proofs.UnderParents.{misses_none, names_short, stays_under}
use Rattle.ctf_model.proofs.laws.sound_drafts_stay_under_their_parents.Goals as goal

pub returns : goal.returns
returns c = record { missing = misses_none; short = names_short; under = stays_under }
