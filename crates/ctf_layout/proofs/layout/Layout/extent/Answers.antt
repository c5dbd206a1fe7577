use Rattle.std.proofs.Common.{sym, ◌∙◌, arith}
use Rattle.ctf_layout.proofs.Elsewhere.{extent_of_none, extent_of_nowhere, extent_of_parents}
use Rattle.ctf_layout.specs.SmallExtents.{extents_in}
use Rattle.ctf_layout.proofs.Tables.{own_extent, in_parents_table, in_no_table}
use Rattle.ctf_layout.proofs.layout.Layout.extent.Goals as goal

pub returns-then-number-eq0 : goal.returns-then-number-eq0
returns-then-number-eq0 c = λ s fits. extent_of_none s c.args.number.0 c.of_no_type.result c.if-number-eq0.true c.of_no_type.ensures

pub returns-in-Own : goal.returns-in-Own
returns-in-Own c = λ s fits.
    own_extent s (extents_in c.args.self.now.own.value) fits.own c.args.number.0 c.in-Own.i (rw fits.child at (sym c.place.ensures ∙ c.in-Own.is)) c.at.result (rw c.deref.ensures at c.at.ensures)

pub returns-in-Some : goal.returns-in-Some
returns-in-Some c = λ s fits.
    let here = rw fits.child at (sym c.place.ensures ∙ c.in-Parents.is) in
    let over = rw c.in-Some.is at fits.parent in
    extent_of_parents s c.args.number.0 c.in-Parents.i c.at-in-Some.result here (in_parents_table s _ over c.args.number.0 c.in-Parents.i here c.at-in-Some.result (rw c.deref-in-Some.ensures at c.at-in-Some.ensures))

pub returns-in-None : goal.returns-in-None
returns-in-None c = λ s fits.
    let here = rw fits.child at (sym c.place.ensures ∙ c.in-Parents.is) in
    let over = rw c.in-None.is at fits.parent in
    extent_of_parents s c.args.number.0 c.in-Parents.i c.refused.result here (in_no_table s over c.args.number.0 c.refused.result c.refused.ensures)

pub returns-in-Nowhere : goal.returns-in-Nowhere
returns-in-Nowhere c = λ s fits.
    extent_of_nowhere s c.args.number.0 c.refused-in-Nowhere.result (omega arith) (rw fits.child at (sym c.place.ensures ∙ c.in-Nowhere.is)) c.refused-in-Nowhere.ensures
