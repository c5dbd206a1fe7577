use Rattle.std.proofs.Common.{subst, sym}
use Rattle.ctf_check.specs.FactsView.{shape_view}
use Rattle.ctf_check.specs.TypedView.{term_in}
use Rattle.ctf_space.specs.SpaceView.{space_of}
use Rattle.ctf_print.specs.Standing.{StandsFor}
use Rattle.ctf_print.proofs.Standings.{one_step}
use Rattle.ctf_print.proofs.show_cache.ShowCache.next.Goals as goal

pub returns-in-As : goal.returns-in-As
returns-in-As c =
    subst (λ s. StandsFor s c.args.number.0 1 c.in-As.next.0) c.self.view_is
    (one_step (space_of c.self.inside.space) c.args.number.0 c.in-As.next.0 (term_in c.in-Ok.found) (shape_view c.shape.result) c.if-number-eq0.false (rw c.in-Ok.is at c.term.ensures) c.shape.ensures (sym (rw c.in-As.is at c.rule_by.ensures)))
