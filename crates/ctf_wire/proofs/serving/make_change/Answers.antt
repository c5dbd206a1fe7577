use Rattle.std.proofs.Common.{refl}
use Rattle.ctf_broker.specs.Table.{library_at}
use Rattle.ctf_wire.proofs.ChangeSteps.{change_granted}
use Rattle.ctf_wire.proofs.serving.make_change.Goals as goal

pub returns : goal.returns
returns c = (
  _,
  record {
    reply = _;
    said = refl;
    steps = c.step-outcome.ensures.step;
    granted = change_granted (library_at c.args.broker.now) c.args.session _ _ (library_at c.step-outcome.new.self) c.step-outcome.ensures.quiet;
  },
  c.append_short.ensures,
)
