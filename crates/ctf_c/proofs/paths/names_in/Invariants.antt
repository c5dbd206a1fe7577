use Rattle.std.proofs.Common.{◌≡◌, ◌≤◌, ◌++◌, ℕ, List, map, Bor}
use Rattle.ctf_c.specs.Naming.{names_in_bytes}
use Rattle.ctf_c.proofs.Naming.{left}
use Rattle.ctf_c.proofs.paths.names_in.Given as goal

abbrev pub invariant-loop-at : goal.invariant-loop-at
invariant-loop-at l = record {
  order : l.from ≤ l.at;
  said : map (λ (name : Bor (List ℕ)). name.now) l.names.items ++ left l.bytes l.from l.at ≡ names_in_bytes l.bytes;
}
