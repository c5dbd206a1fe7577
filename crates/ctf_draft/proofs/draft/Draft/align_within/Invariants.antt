use Rattle.std.proofs.Common.{◌≡◌, ◌-◌}
use Rattle.ctf_model.specs.drafts.Drafts.{content}
use Rattle.ctf_model.specs.figures.Figures.{aligning, comes_to, parents_figure}
use Rattle.ctf_draft.proofs.draft.Draft.align_within.Given as goal

abbrev pub invariant-loop-step : goal.invariant-loop-step
invariant-loop-step l = comes_to (aligning l.self.draft.model) (parents_figure (aligning l.self.draft.model) l.self.draft.parent) (content l.self.draft) l.most l.fn.n.0 ≡ comes_to (aligning l.self.draft.model) (parents_figure (aligning l.self.draft.model) l.self.draft.parent) (content l.self.draft) (l.most - l._step) l.at.0
