use Rattle.std.proofs.Common.{◌≡◌, ℕ, ◌<◌, ◌+◌}
use Rattle.std.specs.Prelude.{IsSome}
use Rattle.ctf_layout.specs.Kept.{table_kept}
use Rattle.ctf_layout.specs.Table.{Knows, entry, work_left}
use Rattle.ctf_layout.proofs.filling.fill.Given as goal

abbrev pub invariant-loop-i : goal.invariant-loop-i
invariant-loop-i g l = record {
  filled : (j : ℕ) → j < l.i → IsSome (entry (table_kept l.table) j);
  knows : Knows (g.T.Types.space l.types) (table_kept l.table);
  steps : l.work + work_left (g.T.Types.space l.types).own.terms (table_kept l.table) ≡ l.fn.work + work_left (g.T.Types.space l.types).own.terms (table_kept l.fn.table);
}
