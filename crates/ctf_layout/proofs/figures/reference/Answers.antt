use Rattle.std.proofs.Common.{sym, ap, ◌∙◌}
use Rattle.ctf_model.specs.figures.Figures.{referred_by}
use Rattle.ctf_check.specs.FactsView.{shape_view}
use Rattle.ctf_check.specs.TypedView.{term_in}
use Rattle.ctf_layout.proofs.Follow.{referred_shape}
use Rattle.ctf_layout.proofs.figures.reference.Goals as goal

pub returns : goal.returns
returns c = c.referred.ensures ∙ sym (referred_shape (term_in c.in_ok-found.found) (shape_view c.shape.result) c.shape.ensures) ∙ ap referred_by (rw c.in_ok-found.was at c.term.ensures)
