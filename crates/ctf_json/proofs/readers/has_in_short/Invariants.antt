use Rattle.std.proofs.Common.{◌≡◌, ◌||◌, drop}
use Rattle.ctf_json.specs.Memory.{has_byte}
use Rattle.ctf_json.proofs.readers.has_in_short.Given as goal

abbrev pub invariant-loop-other : goal.invariant-loop-other
invariant-loop-other l = has_byte l.byte l.text ≡ (l.found || has_byte l.byte (drop l.other-index l.text))
