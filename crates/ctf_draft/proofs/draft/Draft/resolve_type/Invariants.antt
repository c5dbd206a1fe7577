use Rattle.std.proofs.Common.{◌≡◌, ◌-◌}
use Rattle.ctf_model.specs.drafts.Drafts.{content}
use Rattle.ctf_model.specs.figures.Figures.{comes_to, parents_figure, resolving}
use Rattle.ctf_draft.proofs.draft.Draft.resolve_type.Given as goal

abbrev pub invariant-loop-step : goal.invariant-loop-step
invariant-loop-step l = comes_to resolving (parents_figure resolving l.self.draft.parent) (content l.self.draft) 514 l.fn.n.0 ≡ comes_to resolving (parents_figure resolving l.self.draft.parent) (content l.self.draft) (514 - l._step) l.at.0
