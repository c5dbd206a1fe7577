use Rattle.std.proofs.Common.{◌≡◌, ◌-◌}
use Rattle.ctf_model.specs.drafts.Drafts.{content}
use Rattle.ctf_model.specs.figures.Figures.{comes_to, parents_figure, sizing}
use Rattle.ctf_draft.proofs.draft.Draft.+size_within.Given as goal

abbrev pub decreases-size_within : goal.decreases-size_within
decreases-size_within l = l.most

abbrev pub invariant-loop-step : goal.invariant-loop-step
invariant-loop-step l = comes_to (sizing l.self.draft.model) (parents_figure (sizing l.self.draft.model) l.self.draft.parent) (content l.self.draft) l.most l.fn.n.0 ≡ comes_to (sizing l.self.draft.model) (parents_figure (sizing l.self.draft.model) l.self.draft.parent) (content l.self.draft) (l.most - l.step) l.at.0
