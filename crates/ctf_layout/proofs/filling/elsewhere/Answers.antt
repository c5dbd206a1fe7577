use Rattle.std.proofs.Common.{sym, ◌∙◌, arith}
use Rattle.ctf_layout.proofs.Elsewhere.{extent_of_none, extent_of_missing, extent_of_parents}
use Rattle.ctf_layout.proofs.filling.elsewhere.Goals as goal

pub returns-then-number-eq0 : goal.returns-then-number-eq0
returns-then-number-eq0 g c = extent_of_none (g.T.Types.space c.args.types.now) c.args.number.0 c.of_no_type.result c.if-number-eq0.true c.of_no_type.ensures

pub returns-in-Parents : goal.returns-in-Parents
returns-in-Parents g c =
    let s = g.T.Types.space c.args.types.now in
    let here = sym (rw c.child.ensures at c.place.ensures) ∙ c.in-Parents.is in
    extent_of_parents s c.args.number.0 c.in-Parents.i c.outside.result here (c.outside.ensures c.args.number.0 here)

pub returns-in_default : goal.returns-in_default
returns-in_default g c =
    let s = g.T.Types.space c.args.types.now in
    extent_of_missing s c.args.number.0 c.refused.result (omega arith)
    (λ i at. c.in_default.not-Parents i ((rw c.child.ensures at c.place.ensures) ∙ at)) c.requires.not_own c.refused.ensures
