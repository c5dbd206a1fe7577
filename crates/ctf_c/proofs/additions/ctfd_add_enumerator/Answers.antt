use Rattle.std.proofs.Common.{ℤ, Option, subst, w32}
use Rattle.std.proofs.Math.Facts.{to_z-of_z}
use Rattle.ctf_c.specs.Drafting.{Steps}
use Rattle.ctf_c.specs.Given.{ask}
use Rattle.ctf_model.specs.opened.Open.{Open}
use Rattle.ctf_model.specs.opened.Steps.{enumerator_added}
use Rattle.ctf_c.proofs.additions.ctfd_add_enumerator.Goals as goal

pub returns : goal.returns
returns c =
    let Is = λ (o : Option Open) (v : ℤ). Steps (ask o (enumerator_added c.args.t (record { name = c.args.name.now; value = v }))) c.add_part.result 0 c.add_part.new.out o c.add_part.new.dictionary.held.value in
    let same = to_z-of_z {w = w32} {z = c.args.value} c.ranges.value in
    (c.add_part.new.out, subst (λ (o : Option Open). Is o c.args.value) c.option_box.ensures.same (subst (Is c.option_box.result.now.held.value) same c.add_part.ensures))
