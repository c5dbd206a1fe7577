use Rattle.std.proofs.Common.{◌≡◌, ◌≤◌, take}
use Rattle.std.specs.List.{count_by}
use Rattle.ctf_model.specs.names.Lookups.{is_star}
use Rattle.ctf_names.proofs.written.stars.Given as goal

abbrev pub invariant-loop-b : goal.invariant-loop-b
invariant-loop-b l = record {
  inside : l.count ≤ l.b-index;
  so_far : l.count ≡ count_by is_star (take l.b-index l.text);
}
