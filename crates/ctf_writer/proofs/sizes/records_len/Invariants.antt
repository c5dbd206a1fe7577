use Rattle.std.proofs.Common.{◌≡◌, ℕ, ◌≤◌, List, take, length}
use Rattle.std.specs.List.{flat_map}
use Rattle.ctf_writer.specs.DraftContentView.{written_type}
use Rattle.ctf_writer.proofs.sizes.records_len.Given as goal

abbrev pub invariant-loop-t : goal.invariant-loop-t
invariant-loop-t l = record {
  exact : (names : List (List ℕ)) → l.len ≡ length (flat_map (written_type names) (take l.t-index l.types));
  short : l.len ≤ 67108864;
}
