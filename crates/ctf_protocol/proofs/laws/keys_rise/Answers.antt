use Rattle.ctf_protocol.proofs.EachChange as order
use Rattle.ctf_protocol.proofs.laws.keys_rise.Goals as goal

pub returns : goal.returns
returns c = order.keys_rise
