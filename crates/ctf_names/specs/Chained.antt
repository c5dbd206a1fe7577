-- Types in chains, one for each bucket of names. Source: ours.
use Rattle.std.specs.Prelude.{◌≡◌, ◌+◌, ◌≤◌, ℕ, true, List, length, Some, slice_get, slice_index}
use Rattle.ctf_model.specs.format.Term.{Term}
use Rattle.ctf_names.specs.Buckets.{bucket, is_in}
use Rattle.ctf_names.specs.Leading.{AllLead, Leads}

-- for the types from `from` on: each bucket leads to its first type, and each visible type to the
-- next in its bucket
pub record Chained (terms : List Term) (from : ℕ) (firsts nexts : List ℕ) : Type 0 where
  pub heads : AllLead (is_in (length terms)) terms from firsts
  pub next : (p : ℕ) (x : Term) → from ≤ p → slice_get terms p ≡ Some x → x.root ≡ true
      → Leads (is_in (length terms) (bucket (length terms) x.name)) terms (p + 1) (slice_index nexts p)
  pub head_count : length firsts ≡ length terms + 2
  pub next_count : length nexts ≡ length terms
