use Rattle.std.proofs.Common.{◌≤◌, ◌-◌, length, take}
use Rattle.ctf_protocol.specs.lines.Text.{text_of}
use Rattle.ctf_lines.proofs.escapes.put_name.Given as goal

abbrev pub invariant-loop-at : goal.invariant-loop-at
invariant-loop-at g l = record {
  inside : l.at ≤ length l.name;
  put : g.P.TextSink.Took l.fn.sink (text_of (take l.at l.name)) l.sink;
}

abbrev pub decreases-loop-at : goal.decreases-loop-at
decreases-loop-at g l = length l.name - l.at
