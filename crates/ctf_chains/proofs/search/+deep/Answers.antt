use Rattle.std.proofs.Common.{◌≡◌, ℕ, ◌+◌, ◌-◌, ◌≤◌, length, take, slice_index_or, slice_set, ◌++◌, ◌∷◌, [], refl, ap, rules, arith}
use Rattle.std.proofs.lemmas.Grind.{get_or-set_at}
use Rattle.std.proofs.Math.ListN.{length-set}
use Rattle.ctf_chains.specs.Places.{places_at, led_to, steps_between}
use Rattle.ctf_chains.specs.Search.{IsDepth, busy, work_left}
use Rattle.ctf_chains.proofs.Depths.{none_yet, one_more, led_more, led_same, is_depth, deep_target}
use Rattle.ctf_chains.proofs.Visits.{knows_more, known_deep, known_depth, on_way_more, none_more, begun, ended}
use Rattle.ctf_chains.proofs.WorkLeft.{work_opened, work_closed}
use Rattle.ctf_chains.proofs.search.+deep.Goals as goal
use Rattle.ctf_chains.proofs.search.+deep.Goals.{visit-in-Some+else-budget-eq0+in-Some-depth, visit-in_default}

pub depth-returns-in-Depth-clause-answer : goal.depth-returns-in-Depth-clause-answer
depth-returns-in-Depth-clause-answer g t c =
    known_depth (steps_between (g.G.Graph.places c.args.graph.now)) c.args.known.now c.args.i c.args.budget c.in-Depth.depth c.requires.knows c.requires.budget (search rules)

pub depth-returns-in-TooDeep-clause-answer : goal.depth-returns-in-TooDeep-clause-answer
depth-returns-in-TooDeep-clause-answer g t c =
    known_deep (steps_between (g.G.Graph.places c.args.graph.now)) c.args.known.now c.args.i c.args.budget c.requires.knows c.requires.on_way (omega arith) (search rules)

pub visit-loop-k-init : goal.visit-loop-k-init
visit-loop-k-init g t c =
    let opened : work_left (g.G.Graph.places c.args.graph.now) (slice_set c.args.known.now c.args.i busy) + (1 + length (places_at (g.G.Graph.places c.args.graph.now) c.args.i)) ≡ work_left (g.G.Graph.places c.args.graph.now) c.args.known.now =
    work_opened (g.G.Graph.places c.args.graph.now) c.args.known.now c.args.i (omega arith) (omega arith) (search rules) in
    record {
      opened = c.open-opened.ensures.opened;
      count = ap length c.open-opened.ensures.opened;
      longest = none_yet (steps_between (g.G.Graph.places c.args.graph.now));
      affordable = omega arith;
      knows = knows_more (steps_between (g.G.Graph.places c.args.graph.now)) c.args.known.now c.args.i busy (omega arith) c.requires.knows (λ low high. absurd (omega arith));
      busy_as_before = record { was = λ j h. h; stays = λ j h. h };
      once = omega arith;
      work = omega arith;
    }

pub visit-returns-then-budget-eq0-clause-answer : goal.visit-returns-then-budget-eq0-clause-answer
visit-returns-then-budget-eq0-clause-answer g t c =
    deep_target (g.G.Graph.places c.args.graph.now) c.args.budget c.args.i c.loop-k.k c.in-Some.j
    (omega arith) (search rules) (λ le w. omega arith)

pub visit-depth-requires : goal.visit-depth-requires
visit-depth-requires g t c κs within =
    (omega arith, (within.0, (within.1.0, (within.1.1, (omega (arith, length-set {A = ℕ}), (c.in-Some.ensures.inside, (omega arith, (c.loop-k.invariant.knows, on_way_more (g.G.Graph.places c.args.graph.now) c.args.known.now c.loop-k.known c.args.i c.loop-k.k c.in-Some.j (search rules) (search rules) c.requires.on_way c.loop-k.invariant.busy_as_before))))))))

pub visit-returns-in_default-depth-clause-answer : goal.visit-returns-in_default-depth-clause-answer
visit-returns-in_default-depth-clause-answer g t c =
    deep_target (g.G.Graph.places c.args.graph.now) c.args.budget c.args.i c.loop-k.k c.in-Some.j
    (search rules) (search rules) (λ le. c.in_default-depth.ensures.answer)

pub visit-loop-k-preserved : goal.visit-loop-k-preserved
visit-loop-k-preserved g t c =
    let es = steps_between (g.G.Graph.places c.args.graph.now) in
    let ps = places_at (g.G.Graph.places c.args.graph.now) c.args.i in
    elim c.match-place.branch [
      | visit-in-Some+else-budget-eq0+in-Some-depth w ↦
          let seen : led_to (take (c.loop-k.k + 1) ps) ≡ led_to (take c.loop-k.k ps) ++ (w.in-Some.j ∷ []) =
          led_more ps c.loop-k.k w.in-Some.j (search rules) (search rules) in
          record {
            opened = c.loop-k.invariant.opened;
            count = c.loop-k.invariant.count;
            longest = rw (seen, w.longest-is) (one_more es (led_to (take c.loop-k.k ps)) w.in-Some.j w.in-Some-depth.below c.loop-k.longest w.longer-longest.result
                c.loop-k.invariant.longest w.in-Some-depth.ensures.answer.depth w.longer-longest.ensures.both.0 w.longer-longest.ensures.both.1 w.longer-longest.ensures.one);
            affordable = omega (arith, w.in-Some-depth.ensures.answer.affordable, w.longer-longest.ensures.one);
            knows = rw w.known-is w.in-Some-depth.ensures.knows;
            busy_as_before = rw w.known-is (none_more (slice_set c.args.known.now c.args.i busy) c.loop-k.known w.depth.new.known c.loop-k.invariant.busy_as_before w.in-Some-depth.ensures.answer.ended);
            once = rw w.known-is (omega (arith, w.in-Some-depth.ensures.once refl));
            work = rw w.known-is (omega (arith, w.in-Some-depth.ensures.work));
          }
      | visit-in_default w ↦
          let seen : led_to (take (c.loop-k.k + 1) ps) ≡ led_to (take c.loop-k.k ps) =
          led_same ps c.loop-k.k (search rules) (search rules) in
          record {
            opened = c.loop-k.invariant.opened;
            count = c.loop-k.invariant.count;
            longest = rw (seen, w.longest-is) c.loop-k.invariant.longest;
            affordable = rw w.longest-is c.loop-k.invariant.affordable;
            knows = rw w.known-is c.loop-k.invariant.knows;
            busy_as_before = rw w.known-is c.loop-k.invariant.busy_as_before;
            once = rw w.known-is (omega arith);
            work = rw w.known-is (omega arith);
          }
    ]

pub visit-returns-clause-knows : goal.visit-returns-clause-knows
visit-returns-clause-knows g t c =
    let d : IsDepth (steps_between (g.G.Graph.places c.args.graph.now)) c.args.i c.loop-k.longest =
    is_depth (g.G.Graph.places c.args.graph.now) c.args.i c.loop-k.k c.loop-k.longest (omega arith) c.loop-k.invariant.longest in
    let e : (c.loop-k.longest + 1) - 1 ≡ c.loop-k.longest = omega arith in
    knows_more (steps_between (g.G.Graph.places c.args.graph.now)) c.loop-k.known c.args.i (c.loop-k.longest + 1) (omega (arith, length-set {A = ℕ})) c.loop-k.invariant.knows (λ low high. rw e d)

pub visit-returns-clause-answer : goal.visit-returns-clause-answer
visit-returns-clause-answer g t c = record {
  depth = is_depth (g.G.Graph.places c.args.graph.now) c.args.i c.loop-k.k c.loop-k.longest (omega arith) c.loop-k.invariant.longest;
  affordable = omega arith;
  entered = omega (arith, get_or-set_at c.loop-k.known c.args.i c.args.i (c.loop-k.longest + 1) 0 refl (omega (arith, length-set {A = ℕ})));
  ended = ended c.args.known.now c.loop-k.known c.args.i (c.loop-k.longest + 1) (omega (arith, length-set {A = ℕ})) (omega arith) (omega arith) c.loop-k.invariant.busy_as_before;
}

pub visit-returns-clause-work : goal.visit-returns-clause-work
visit-returns-clause-work g t c =
    let here : 1 ≤ slice_index_or c.loop-k.known c.args.i 0 = c.loop-k.invariant.busy_as_before.stays c.args.i (begun c.args.known.now c.args.i (omega arith)) in
    let closed : work_left (g.G.Graph.places c.args.graph.now) (slice_set c.loop-k.known c.args.i (c.loop-k.longest + 1)) ≡ work_left (g.G.Graph.places c.args.graph.now) c.loop-k.known =
    work_closed (g.G.Graph.places c.args.graph.now) c.loop-k.known c.args.i (c.loop-k.longest + 1) (omega arith) (omega (arith, length-set {A = ℕ})) here (omega arith) in
    omega arith

pub visit-returns-clause-once : goal.visit-returns-clause-once
visit-returns-clause-once g t c = λ some.
    let here : 1 ≤ slice_index_or c.loop-k.known c.args.i 0 = c.loop-k.invariant.busy_as_before.stays c.args.i (begun c.args.known.now c.args.i (omega arith)) in
    let closed : work_left (g.G.Graph.places c.args.graph.now) (slice_set c.loop-k.known c.args.i (c.loop-k.longest + 1)) ≡ work_left (g.G.Graph.places c.args.graph.now) c.loop-k.known =
    work_closed (g.G.Graph.places c.args.graph.now) c.loop-k.known c.args.i (c.loop-k.longest + 1) (omega arith) (omega (arith, length-set {A = ℕ})) here (omega arith) in
    omega arith
