use Rattle.ctf_laws.proofs.Answered.{checks_accept, checks_refuse, opens_accept, opens_refuse}
use Rattle.ctf_laws.proofs.good.stages_are_judged.Goals as goal

pub returns : goal.returns
returns c = record {
  refused = checks_refuse;
  accepted = checks_accept;
  unopened = opens_refuse;
  opened = opens_accept;
}
