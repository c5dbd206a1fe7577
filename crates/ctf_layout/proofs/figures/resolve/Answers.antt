use Rattle.std.proofs.Common.{sym, ap, ◌∙◌}
use Rattle.std.proofs.lemmas.Result.{err_from_is_err_and}
use Rattle.ctf_model.specs.figures.Figures.{parents_figure, resolving}
use Rattle.ctf_space.specs.SpaceView.{space_of}
use Rattle.ctf_layout.specs.Following.{onward}
use Rattle.ctf_layout.proofs.Follow.{resolved_is}
use Rattle.ctf_layout.proofs.figures.resolve.Goals as goal

pub returns-in_err-at : goal.returns-in_err-at
returns-in_err-at c =
    let p = err_from_is_err_and c.from_residual.result c.from_residual.ensures.1 in
    let s = space_of c.args.space.now in
    rw (p.1, p.2) (sym (resolved_is s c.args.number.0 ∙ ap (onward (parents_figure resolving s.parent) s.own) (sym (rw c.in_err-at.was at c.follow.ensures))))

pub returns : goal.returns
returns c =
    let s = space_of c.args.space.now in
    c.onward.ensures ∙ sym (resolved_is s c.args.number.0 ∙ ap (onward (parents_figure resolving s.parent) s.own) (sym (rw c.in_ok-at.was at c.follow.ensures)))
