use Rattle.ctf_draft.proofs.Bounded.{noted_bounded}
use Rattle.ctf_draft.proofs.depths.Depths.make_ready.Goals as goal

pub returns-clause-still : goal.returns-clause-still
returns-clause-still c = λ d count ok. c.rise.ensures.still d count (noted_bounded d c.args.self.now c.note_pending.new.self c.note_pending.ensures.bounds c.note_pending.ensures.grows ok)
