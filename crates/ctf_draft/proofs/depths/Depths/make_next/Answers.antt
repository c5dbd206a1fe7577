use Rattle.ctf_draft.specs.Bounding.{IsBounded}
use Rattle.ctf_draft.proofs.Bounded.{front_bounded, noted_bounded}
use Rattle.ctf_draft.proofs.depths.Depths.make_next.Goals as goal
use Rattle.ctf_draft.proofs.depths.Depths.make_next.Goals.{in-Some+in_ok-note_pending, in_default}

pub returns-clause-still : goal.returns-clause-still
returns-clause-still c = λ d border count ok.
    let noted : IsBounded d c.match-held.self = elim c.match-held.branch [
      | in-Some+in_ok-note_pending w ↦ rw w.self-is (noted_bounded d c.args.self.now w.note_pending.new.self w.note_pending.ensures.bounds w.note_pending.ensures.grows ok)
      | in_default w ↦ rw w.self-is ok
    ] in
    front_bounded d c.args.count c.match-held.self c.set_next.new.self count c.set_next.ensures.above c.set_next.ensures.front noted
