use Rattle.std.proofs.Common.{◌≡◌, ◌-◌, ◌≤◌, length, drop}
use Rattle.ctf_json.specs.Memory.{has_byte}
use Rattle.ctf_json.proofs.readers.has_backslash.Given as goal

abbrev pub invariant-loop-i : goal.invariant-loop-i
invariant-loop-i l =
    (has_byte 92 l.text ≡ has_byte 92 (drop l.i l.text)) × (l.i ≤ length l.text) × (16 ≤ length l.text)

abbrev pub decreases-loop-i : goal.decreases-loop-i
decreases-loop-i l = length l.text - l.i
