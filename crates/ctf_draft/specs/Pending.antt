-- The index of pending types among all types. Source: ours.
use Rattle.std.specs.Prelude.{◌≡◌, ◌≤◌, ℕ, length, Some, is_some}
use Rattle.ctf_model.specs.rules.Chains.{own_index}
use Rattle.ctf_model.specs.drafts.Drafts.{Draft, count_of}

-- number `n` is the pending own type with index `i`
pub record StandsPending (d : Draft) (n i : ℕ) : Type 0 where
  pub own : own_index (is_some d.parent) (count_of d) n ≡ Some i
  pub behind : length d.updated.terms ≤ i
