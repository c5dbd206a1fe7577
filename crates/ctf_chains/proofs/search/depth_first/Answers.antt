use Rattle.std.proofs.Common.{rules, arith}
use Rattle.ctf_chains.specs.Places.{steps_between}
use Rattle.ctf_chains.proofs.Visits.{known_deep, known_depth}
use Rattle.ctf_chains.proofs.search.depth_first.Goals as goal

pub returns-in-Depth-clause-answer : goal.returns-in-Depth-clause-answer
returns-in-Depth-clause-answer g c =
    known_depth (steps_between (g.G.Graph.places c.args.graph.now)) c.args.known.now c.args.i c.args.budget c.in-Depth.depth c.requires.knows c.requires.budget (search rules)

pub returns-in-TooDeep-clause-answer : goal.returns-in-TooDeep-clause-answer
returns-in-TooDeep-clause-answer g c =
    known_deep (steps_between (g.G.Graph.places c.args.graph.now)) c.args.known.now c.args.i c.args.budget c.requires.knows c.requires.on_way (omega arith) (search rules)
