use Rattle.ctf_laws.proofs.Promises.{own_runs_stay_good}
use Rattle.ctf_laws.proofs.Asked.{lines_fit}
use Rattle.ctf_laws.proofs.Runs.{found_is_faultless, runs_keep_good}
use Rattle.ctf_laws.proofs.Steps.{loads_keep_good, steps_keep_good}
use Rattle.ctf_laws.proofs.good.libraries_stay_good.Goals as goal

pub returns : goal.returns
returns c = record {
  empty = record { slots = tt; published = tt };
  step = steps_keep_good;
  load = loads_keep_good;
  found = found_is_faultless;
  runs = runs_keep_good;
  own = own_runs_stay_good;
  lines = lines_fit;
}
