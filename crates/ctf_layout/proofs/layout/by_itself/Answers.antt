use Rattle.ctf_check.specs.CheckedView.{lists_of}
use Rattle.ctf_model.proofs.BoundedValues.{values_bounded}
use Rattle.ctf_layout.proofs.layout.by_itself.Goals as goal

pub build-requires : goal.build-requires
build-requires g c = record { bounded = values_bounded (lists_of c.args.space.own) c.args.space.own.faultless }
