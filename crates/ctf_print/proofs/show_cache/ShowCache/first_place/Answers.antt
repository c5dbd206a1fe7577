use Rattle.std.proofs.Common.{w64}
use Rattle.std.proofs.Math.Facts.{to_z-of_z}
use Rattle.ctf_print.specs.Placing.{IsFirstOf}
use Rattle.ctf_print.proofs.Placings.{is_place_of}
use Rattle.ctf_print.proofs.show_cache.ShowCache.first_place.Goals as goal

pub returns-in-Some-clause-first : goal.returns-in-Some-clause-first
unfolding IsFirstOf
returns-in-Some-clause-first c =
    let same = to_z-of_z {w = w64} {z = c.args.value} c.ranges.value in
    rw same at (c.in-Some.ensures c.args.enumerators.now c.requires)

pub keep_last-requires : goal.keep_last-requires
keep_last-requires c =
    rw c.look_for-place.ensures.kept (is_place_of c.args.self.now c.args.number.0 _ c.look_for-place.result c.args.enumerators.now c.requires c.look_for-place.ensures.first)
