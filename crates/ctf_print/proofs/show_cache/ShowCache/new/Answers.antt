use Rattle.ctf_space.specs.SpaceView.{space_of}
use Rattle.ctf_print.proofs.Placings.{none_kept}
use Rattle.ctf_print.proofs.Standings.{none_known}
use Rattle.ctf_print.proofs.show_cache.ShowCache.new.Goals as goal

pub invariant_of-result : goal.invariant_of-result
invariant_of-result c =
    record {
      behind = none_known (space_of c.args.space) c.new.result c.new.ensures.empty;
      places = none_kept (space_of c.args.space) c.new-2.result c.new-2.ensures.empty;
      sought = λ x e. absurd cc;
    }
