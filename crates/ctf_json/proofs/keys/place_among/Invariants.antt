use Rattle.std.proofs.Common.{◌≡◌, ◌+◌, map, drop, option_map}
use Rattle.ctf_json.specs.Keys.{place_in}
use Rattle.ctf_json.proofs.keys.place_among.Given as goal

abbrev pub invariant-loop-place : goal.invariant-loop-place
invariant-loop-place l = place_in l.name (map (λ key. key.now) l.keys) ≡ option_map (λ i. l.place + i) (place_in l.name (map (λ key. key.now) (drop l.place l.keys)))
