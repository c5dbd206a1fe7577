use Rattle.std.proofs.Common.{◌≡◌, ℕ, ◌≤◌, ◌<◌, ◌+◌, slice_index_or}
use Rattle.ctf_chains.specs.Deep.{AreWithinBefore}
use Rattle.ctf_chains.specs.Places.{full_work, steps_between}
use Rattle.ctf_chains.specs.Search.{Knows, busy, work_left}
use Rattle.ctf_chains.proofs.search.first_of.Given as goal

abbrev pub invariant-loop-i : goal.invariant-loop-i
invariant-loop-i g l = record {
  before : AreWithinBefore (steps_between (g.G.Graph.places l.graph)) 512 l.i;
  knows : Knows (steps_between (g.G.Graph.places l.graph)) l.known;
  none_busy : (j : ℕ) → slice_index_or l.known j 0 ≡ busy → ⊥;
  entered : (j : ℕ) → j < l.i → 1 ≤ slice_index_or l.known j 0;
  once : l.work + work_left (g.G.Graph.places l.graph) l.known ≡ l.fn.work + full_work (g.G.Graph.places l.graph);
  work : l.work + work_left (g.G.Graph.places l.graph) l.known ≤ l.fn.work + full_work (g.G.Graph.places l.graph);
}
