use Rattle.std.proofs.Common.{◌≡◌, ◌≤◌, length, take, drop}
use Rattle.std.specs.Str.{bytes_eq}
use Rattle.ctf_json.proofs.words.begins_with.Given as goal

abbrev pub invariant-loop-i : goal.invariant-loop-i
invariant-loop-i l =
    (l.same ≡ bytes_eq (drop l.i l.name) (drop l.i (take (length l.name) l.text))) × (l.i ≤ length l.name)

abbrev pub decreases-loop-i : goal.decreases-loop-i
decreases-loop-i l = l.i
