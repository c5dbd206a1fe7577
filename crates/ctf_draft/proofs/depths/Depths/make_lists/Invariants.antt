use Rattle.std.proofs.Common.{◌≡◌, ℕ, [], length}
use Rattle.std.specs.Prelude.{slice_index_or}
use Rattle.ctf_draft.specs.Bounding.{above_of}
use Rattle.ctf_draft.proofs.depths.Depths.make_lists.Given as goal

abbrev pub invariant-loop : goal.invariant-loop
invariant-loop l = record {
  bounds : l.self.bounds.items ≡ l.initial.self.bounds.items;
  same : (k : ℕ) → slice_index_or (above_of l.self.above.items) k [] ≡ slice_index_or (above_of l.initial.self.above.items) k [];
  len : length l.self.above.items ≡ l.counter;
}
