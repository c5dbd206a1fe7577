use Rattle.std.proofs.Common.{◌∙◌, ap, arith}
use Rattle.std.specs.Prelude.{slice_set, Some}
use Rattle.ctf_draft.proofs.Rounds.{said_now, within_set}
use Rattle.ctf_draft.proofs.marks.Marks.set.Goals as goal

pub invariant_of-self : goal.invariant_of-self
invariant_of-self c = (c.self.invariant.0, within_set c.self.inside.round c.self.inside.marks.items c.args.i (record { round = c.self.inside.round; reach = c.args.reach }) (omega arith) c.self.invariant.1)

pub returns : goal.returns
returns c = said_now c.self.inside.round c.args.i c.args.reach c.self.inside.marks.items ∙ ap (λ xs. slice_set xs c.args.i (Some c.args.reach)) c.self.view_is
