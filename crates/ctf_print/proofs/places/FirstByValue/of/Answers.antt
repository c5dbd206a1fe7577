use Rattle.std.proofs.Common.{◌≡◌, ◌∙◌, ◌-◌, Some, sym, ap, arith, w32, w64}
use Rattle.std.proofs.Math.Facts.{sfits_lit, to_z-of_z}
use Rattle.std.proofs.lemmas.Bool.{lt-ltb}
use Rattle.std.proofs.lemmas.Float.{T_from_true}
use Rattle.std.specs.BTreeMap.{Updates}
use Rattle.std.specs.Ordering.{int_cmp}
use Rattle.ctf_print.specs.Placing.{AreFirstByValue}
use Rattle.ctf_print.proofs.Placings.{none_in, none_left, not_err, one_more}
use Rattle.ctf_print.proofs.places.FirstByValue.of.Goals as goal

pub loop-left-init : goal.loop-left-init
loop-left-init c =
    record {
      inside = omega (arith, c.len-left.ensures.value);
      known = none_left c.args.enumerators.now c.new-first.result c.len-left.result c.len-left.ensures.value (none_in c.new-first.result c.new-first.ensures.empty);
    }

pub loop-left-preserved : goal.loop-left-preserved
loop-left-preserved c =
    let same = to_z-of_z {w = w64} {z = c.from.result} (sfits_lit {w = w64} {z = c.from.result} (T_from_true _ (lt-ltb _ _ c.from.type_inv))) in
    let updates = not_err c.insert.result (Updates int_cmp c.loop-left.first c.insert.new.self c.from.result (Some (c.loop-left.left - 1))) (sym c.is_err.ensures.value ∙ c.if-is_err.false) (rw same at c.insert.ensures.updates) in
    let narrow = to_z-of_z {w = w32} {z = c.value.result} (sfits_lit {w = w32} {z = c.value.result} (T_from_true _ (lt-ltb _ _ c.value.type_inv))) in
    let says = ap Some (c.from.ensures ∙ narrow) ∙ c.value.ensures in
    record {
      inside = omega (arith, c.loop-left.invariant.inside);
      known = one_more c.args.enumerators.now c.loop-left.left c.from.result c.loop-left.first c.insert.new.self c.loop-left-test.true c.loop-left.invariant.known updates says;
    }

pub returns : goal.returns
unfolding AreFirstByValue
returns c =
    let none : c.loop-left.left ≡ 0 = omega (arith, c.loop-left-test.false) in
    λ v. rw none at (c.loop-left.invariant.known v)
