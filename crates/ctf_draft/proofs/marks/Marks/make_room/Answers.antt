use Rattle.std.proofs.Common.{◌-◌, None, ap, refl, ◌∙◌, arith}
use Rattle.std.specs.Prelude.{is_ok, slice_index_or, vec_len}
use Rattle.ctf_draft.proofs.Rounds.{room_said, within_resized}
use Rattle.ctf_draft.proofs.marks.Marks.make_room.Goals as goal

pub invariant_of-self : goal.invariant_of-self
invariant_of-self c = (c.self.invariant.0, within_resized c.self.inside.round (is_ok c.resize.result) c.args.count (c.args.count - vec_len c.self.inside.marks) _ c.self.inside.marks.items c.resize.new.self.items c.resize.ensures.items refl c.self.invariant.1)

pub returns-then-len-count-clause-same : goal.returns-then-len-count-clause-same
returns-then-len-count-clause-same c = λ j.
    room_said c.self.inside.round (is_ok c.resize.result) c.args.count (c.args.count - vec_len c.self.inside.marks) _ c.self.inside.marks.items c.resize.new.self.items c.resize.ensures.items refl c.self.invariant.0 (omega (arith, c.len.ensures, c.if-len-count.true, c.self.inside.marks.ok.0)) j
    ∙ ap (λ known. slice_index_or known j None) c.self.view_is
