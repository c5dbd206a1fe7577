use Rattle.std.proofs.Common.{◌≡◌, ◌*◌, ◌≤◌, ◌-◌, ◌+◌, length, take}
use Rattle.ctf_chains.specs.Places.{places_at, led_to, steps_between}
use Rattle.ctf_chains.specs.Search.{IsLongest, Knows, GoesOn, work_left}
use Rattle.ctf_chains.proofs.search.+deep.Given as goal

abbrev pub decreases-depth : goal.decreases-depth
decreases-depth g l = 3 * l.budget + 2

abbrev pub decreases-visit : goal.decreases-visit
decreases-visit g l = 3 * l.budget

abbrev pub decreases-visit_below : goal.decreases-visit_below
decreases-visit_below g l = 3 * l.budget + 1

abbrev pub invariant-visit-loop-k : goal.invariant-visit-loop-k
invariant-visit-loop-k g l = record {
  opened : g.G.Graph.places_of l.graph l.opened ≡ places_at (g.G.Graph.places l.graph) l.i;
  count : length (g.G.Graph.places_of l.graph l.opened) ≡ length (places_at (g.G.Graph.places l.graph) l.i);
  longest : IsLongest (steps_between (g.G.Graph.places l.graph)) (led_to (take l.k (places_at (g.G.Graph.places l.graph) l.i))) l.longest;
  affordable : l.longest ≤ l.budget;
  knows : Knows (steps_between (g.G.Graph.places l.graph)) l.known;
  busy_as_before : GoesOn l.initial.known l.known;
  once : l.work + (length (places_at (g.G.Graph.places l.graph) l.i) - l.k) + work_left (g.G.Graph.places l.graph) l.known ≡ l.fn.work + work_left (g.G.Graph.places l.graph) l.fn.known;
  work : l.work + (length (places_at (g.G.Graph.places l.graph) l.i) - l.k) + work_left (g.G.Graph.places l.graph) l.known ≤ l.fn.work + work_left (g.G.Graph.places l.graph) l.fn.known;
}
