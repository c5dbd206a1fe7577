use Rattle.std.proofs.Common.{◌≡◌, ◌<◌, ℕ}
use Rattle.std.specs.Prelude.{None}
use Rattle.ctf_broker.specs.Table.{entry_at}
use Rattle.ctf_broker.proofs.page.Page.is_empty.Given as goal

abbrev pub invariant-loop-library : goal.invariant-loop-library
invariant-loop-library l = (place : ℕ) → place < l.library-index → entry_at l.library-items place ≡ None
