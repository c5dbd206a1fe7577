use Rattle.std.proofs.Common.{◌∙◌, sym, ap, subst, rules, to_z, w64}
use Rattle.std.proofs.Math.Facts.{to_z-of_z}
use mir.Val.{SFits}
use Rattle.ctf_print.specs.Placing.{IsFirstOf}
use Rattle.ctf_print.proofs.show_cache.ShowCache.last_place.Goals as goal

pub returns-then-last-value : goal.returns-then-last-value
returns-then-last-value c =
    let last = c.in_ok-last.last in
    let there = c.self.invariant.sought last c.in_ok-last.was in
    let fits : SFits w64 last.value = search rules in
    let same = sym (to_z-of_z {w = w64} {z = last.value} fits) ∙ ap (to_z w64) c.if-last-value.true ∙ to_z-of_z {w = w64} {z = c.args.value} c.ranges.value in
    subst (λ s. IsFirstOf s c.args.number.0 c.args.value last.place) c.self.view_is (rw (c.if-last-number.true, same) at there)
