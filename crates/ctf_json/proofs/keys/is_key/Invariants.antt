use Rattle.std.proofs.Common.{◌≡◌, take}
use Rattle.ctf_json.proofs.keys.is_key.Given as goal

abbrev pub invariant-loop-at : goal.invariant-loop-at
invariant-loop-at l = take l.at l.name ≡ take l.at l.key
