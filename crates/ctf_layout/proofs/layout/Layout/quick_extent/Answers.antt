use Rattle.std.proofs.Common.{sym, ◌∙◌}
use Rattle.ctf_layout.specs.SmallExtents.{extents_in}
use Rattle.ctf_layout.proofs.Tables.{own_extent}
use Rattle.ctf_layout.proofs.layout.Layout.quick_extent.Goals as goal

pub returns-in-Own : goal.returns-in-Own
returns-in-Own c = λ s fits.
    own_extent s (extents_in c.args.self.now.own.value) fits.own c.args.number.0 c.in-Own.i (rw fits.child at (sym c.place.ensures ∙ c.in-Own.is)) c.at.result (rw c.deref.ensures at c.at.ensures)
