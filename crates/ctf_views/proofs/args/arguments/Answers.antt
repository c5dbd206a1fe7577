use Rattle.ctf_views.proofs.Items.{arguments_are_good}
use Rattle.ctf_views.proofs.args.arguments.Goals as goal

pub new-requires : goal.new-requires
new-requires c = arguments_are_good c.args.count c.args.bytes.now c.requires
