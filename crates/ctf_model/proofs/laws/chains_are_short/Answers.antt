use Rattle.ctf_model.proofs.FaultlessChains.{faultless_short}
use Rattle.ctf_model.proofs.ShortChains.{chains_short}
use Rattle.ctf_model.proofs.laws.chains_are_short.Goals as goal

pub returns : goal.returns
returns c = record { faultless = faultless_short; short = chains_short }
