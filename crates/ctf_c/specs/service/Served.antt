-- The service behind a handle. Source: ours.
use Rattle.std.specs.Prelude.{ℕ, List}
use Rattle.ctf_broker.specs.Table.{Libraries}

-- the libraries of all sessions, and the last reply
pub record Served : Type 0 where
  pub libraries : Libraries
  pub reply : List ℕ
