use Rattle.std.proofs.Common.{◌≡◌, ◌+◌, ◌≤◌, ◌++◌, length, vec_len, vec_capacity}
use Rattle.ctf_model.specs.format.Section.{records}
use Rattle.ctf_chains.specs.Starts.{starts_in}
use Rattle.ctf_chains.proofs.Begins.{AreAt}
use Rattle.ctf_chains.proofs.starts.record_starts.Given as goal

abbrev pub invariant-loop-record : goal.invariant-loop-record
invariant-loop-record l = record {
  so_far : l.places.items ++ starts_in l.record-iterator ≡ starts_in (records l.types);
  room : vec_len l.places + length l.record-iterator ≤ vec_capacity l.places;
  places : AreAt l.types (vec_len l.places + 1) l.record-iterator;
}
