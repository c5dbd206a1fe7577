use Rattle.std.proofs.Common.{ap, subst}
use Rattle.ctf_model.specs.drafts.DraftLaws.{IsSound}
use Rattle.ctf_draft.proofs.draft.Draft.types.Goals as goal

pub returns-clause-sound : goal.returns-clause-sound
returns-clause-sound c = subst IsSound (ap (λ o. o.draft) c.self.view_is) c.self.invariant.4
