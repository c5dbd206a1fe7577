use Rattle.std.proofs.Common.{◌∙◌, Some, sym, ap, w64}
use Rattle.std.proofs.Math.Facts.{to_z-of_z}
use Rattle.std.specs.Option.{option_copied}
use Rattle.ctf_space.specs.SpaceView.{space_of}
use Rattle.ctf_print.proofs.Placings.{places_of}
use Rattle.ctf_print.proofs.show_cache.ShowCache.look_for.Goals as goal

pub returns-in-Some-Some-clause-first : goal.returns-in-Some-Some-clause-first
returns-in-Some-Some-clause-first c =
    let same = to_z-of_z {w = w64} {z = c.args.value} c.ranges.value in
    let kept = sym c.get.ensures.value ∙ ap option_copied c.in-Some-Some.is ∙ ap Some c.in-Some-Some.field-0-is in
    let are = places_of (space_of c.self.inside.space) c.args.self.now c.self.inside.places c.args.number.0 c.in-Some-Some.places c.args.enumerators.now c.self.view_is c.self.invariant.places kept c.requires in
    rw same at (c.first.ensures c.args.enumerators.now are)
