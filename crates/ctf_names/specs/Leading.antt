-- Tables that lead to types: for each class of types, the first that belongs to it. Source: ours.
use Rattle.std.specs.Prelude.{◌≡◌, ◌<◌, ◌≤◌, ℕ, Bool, true, false, List, length, Some, slice_get, slice_index}
use Rattle.ctf_model.specs.format.Term.{Term}

-- `to` is the first type from `from` on that passes the test, or the number of types if none does
pub record Leads (passes : Term → Bool) (terms : List Term) (from to : ℕ) : Type 0 where
  pub onward : from ≤ to
  pub skipped : (i : ℕ) (x : Term) → from ≤ i → i < to → slice_get terms i ≡ Some x
      → passes x ≡ false
  pub there : (x : Term) → slice_get terms to ≡ Some x → passes x ≡ true

-- entry `k` of the table leads to the first type from `from` on that passes test `k`
pub record AllLead (passes : ℕ → Term → Bool) (terms : List Term) (from : ℕ) (table : List ℕ)
    : Type 0 where
  pub each : (k : ℕ) → k < length table → Leads (passes k) terms from (slice_index table k)
