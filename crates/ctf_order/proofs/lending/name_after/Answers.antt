use Rattle.std.proofs.Common.{sym}
use Rattle.ctf_order.proofs.lending.name_after.Goals as goal

pub returns-in-Some-rest_of : goal.returns-in-Some-rest_of
returns-in-Some-rest_of c = sym (c.rest_of.ensures c.args.texts.now (c.requires c.in-Some.named c.in-Some.is) c.in-Some-rest_of.rest c.in-Some-rest_of.is)
