use Rattle.std.proofs.Common.{◌≡◌, ◌*◌, ◌+◌, take}
use Rattle.ctf_layout.specs.Bases.{greatest_of}
use Rattle.ctf_layout.specs.Extents.{amount}
use Rattle.ctf_layout.specs.Kept.{table_kept}
use Rattle.ctf_layout.specs.Table.{IsUnderway}
use Rattle.ctf_model.specs.rules.Chains.{by_value}
use Rattle.ctf_model.specs.figures.FigureLaws.{own_body}
use Rattle.ctf_model.specs.figures.Figures.{align}
use Rattle.ctf_layout.proofs.filling.+extents.Given as goal

abbrev pub decreases-extent : goal.decreases-extent
decreases-extent g l = 3 * l.budget + 2

abbrev pub decreases-visit : goal.decreases-visit
decreases-visit g l = 3 * l.budget

abbrev pub decreases-visit_below : goal.decreases-visit_below
decreases-visit_below g l = 3 * l.budget + 1

abbrev pub invariant-visit-loop-k : goal.invariant-visit-loop-k
invariant-visit-loop-k g l = record {
  greatest : amount l.align ≡ greatest_of (align (g.T.Types.space l.types)) (take l.k (by_value (own_body (g.T.Types.space l.types).own l.i)));
  underway : IsUnderway (g.T.Types.space l.types) l.i (table_kept l.fn.table) (table_kept l.table) (l.fn.work + 1 + l.k) l.work;
}
