use Rattle.std.proofs.Common.{List, ℕ, map, ap, ◌∙◌}
use Rattle.std.specs.Borrow.{Bor}
use Rattle.ctf_writer.proofs.Placing.{inserted}
use Rattle.ctf_writer.proofs.used.UsedNames.push.Goals as goal

pub returns : goal.returns
returns c = ap (map (λ (name : Bor (List ℕ)). name.now)) c.in-Ok.ensures.keys ∙ inserted c.args.self.now.names.keys c.args.name c.requires
