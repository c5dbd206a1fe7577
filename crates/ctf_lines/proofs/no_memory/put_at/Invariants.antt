use Rattle.std.proofs.Common.{◌≡◌, ◌++◌, ◌+◌, take, drop}
use Rattle.ctf_lines.proofs.no_memory.put_at.Given as goal

abbrev pub invariant-loop-byte : goal.invariant-loop-byte
invariant-loop-byte l = record {
  end : l.end ≡ l.at + l.byte-index;
  front : take l.end l.buffer ≡ take l.at l.fn.buffer ++ take l.byte-index l.text;
  rest : drop l.end l.buffer ≡ drop l.end l.fn.buffer;
}
