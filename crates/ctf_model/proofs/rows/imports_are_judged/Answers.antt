use Rattle.std.proofs.Common.{refl}
use Rattle.ctf_model.specs.rules.Needs.{greatest_in_parent}
use Rattle.ctf_model.proofs.rows.imports_are_judged.Goals as goal

pub returns : goal.returns
unfolding greatest_in_parent
returns c = record {
  serves = refl;
  serves_short = refl;
  not_child = refl;
  parent_is_child = refl;
  model_differs = refl;
  differs_before_short = refl;
  parent_short = refl;
}
