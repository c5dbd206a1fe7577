use Rattle.ctf_space.specs.SpaceView.{space_of}
use Rattle.ctf_print.proofs.Placings.{kept_more}
use Rattle.ctf_print.proofs.show_cache.ShowCache.place.Goals as goal

pub invariant_of-self : goal.invariant_of-self
invariant_of-self c =
    record {
      behind = c.self.invariant.behind;
      places = kept_more (space_of c.self.inside.space) c.args.self.now c.self.inside.places c.insert.new.self c.args.number.0 c.args.places c.insert.result c.self.view_is c.self.invariant.places c.insert.ensures.updates c.insert.ensures.err c.requires;
      sought = c.self.invariant.sought;
    }
