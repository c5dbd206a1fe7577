use Rattle.std.proofs.Common.{◌≡◌, ◌≤◌, arith, slice_index_or}
use Rattle.ctf_model.specs.rules.Chains.{IsWithin}
use Rattle.ctf_chains.specs.Places.{steps_between, full_work}
use Rattle.ctf_chains.specs.Search.{GoesOn, work_left}
use Rattle.ctf_chains.proofs.Visits.{one_more_before, one_more_entered, found, empty_knows, on_way_none}
use Rattle.ctf_chains.proofs.WorkLeft.{all_left, none_left}
use Rattle.ctf_chains.proofs.search.first_of.Goals as goal

pub loop-i-preserved : goal.loop-i-preserved
loop-i-preserved g c =
    let f : IsWithin (steps_between (g.G.Graph.places c.args.graph.now)) 512 c.loop-i.i × GoesOn c.loop-i.known c.depth_first.new.known × (1 ≤ slice_index_or c.depth_first.new.known c.loop-i.i 0) =
    found (steps_between (g.G.Graph.places c.args.graph.now)) 512 c.loop-i.i c.loop-i.known c.depth_first.new.known c.depth_first.result c.if-is_none.ensures c.depth_first.ensures.answer in
    record {
      before = one_more_before (steps_between (g.G.Graph.places c.args.graph.now)) 512 c.loop-i.i c.loop-i.invariant.before f.0;
      knows = c.depth_first.ensures.knows;
      none_busy = λ j h. c.loop-i.invariant.none_busy j (f.1.was j h);
      entered = one_more_entered c.loop-i.known c.depth_first.new.known c.loop-i.i c.loop-i.invariant.entered f.1 f.2;
      once = omega (arith, c.depth_first.ensures.once c.if-is_none.ensures);
      work = omega arith;
    }

pub loop-i-init : goal.loop-i-init
loop-i-init g c =
    let all : work_left (g.G.Graph.places c.args.graph.now) c.args.known.now ≡ full_work (g.G.Graph.places c.args.graph.now) =
    all_left (g.G.Graph.places c.args.graph.now) c.args.known.now (omega arith) c.requires.empty in
    record {
      before = record { each = λ j h. absurd (omega arith) };
      knows = empty_knows (steps_between (g.G.Graph.places c.args.graph.now)) c.args.known.now c.requires.empty;
      none_busy = λ j h. absurd (omega (arith, c.requires.empty j));
      entered = λ j h. absurd (omega arith);
      once = omega arith;
      work = omega arith;
    }

pub depth_first-requires-clause-on_way : goal.depth_first-requires-clause-on_way
depth_first-requires-clause-on_way g c = on_way_none (steps_between (g.G.Graph.places c.args.graph.now)) c.loop-i.known c.loop-i.i c.loop-i.invariant.none_busy

pub returns-clause-once : goal.returns-clause-once
returns-clause-once g c = λ none.
    let left : work_left (g.G.Graph.places c.args.graph.now) c.loop-i.known ≡ 0 =
    none_left (g.G.Graph.places c.args.graph.now) c.loop-i.known (λ j lt. c.loop-i.invariant.entered j (omega arith)) in
    omega arith
