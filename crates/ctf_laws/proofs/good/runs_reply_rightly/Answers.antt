use Rattle.ctf_laws.proofs.Replied.{runs_reply_rightly}
use Rattle.ctf_laws.proofs.good.runs_reply_rightly.Goals as goal

pub returns : goal.returns
returns c = runs_reply_rightly
