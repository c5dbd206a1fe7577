use Rattle.ctf_wire.proofs.WrittenOut.{serves_to}
use Rattle.ctf_wire.proofs.serving.serve_bounded.Goals as goal

pub returns-clause-serves : goal.returns-clause-serves
returns-clause-serves g c = serves_to _ _ _ _ _ _ _ c.answer_bounded.result c.answer_bounded.ensures.ends
