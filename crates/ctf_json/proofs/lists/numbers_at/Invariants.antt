use Rattle.std.proofs.Common.{◌≡◌, ℕ, ◌≤◌, length}
use Rattle.json.specs.Json.{Items, items, value, parse_map}
use Rattle.ctf_json.specs.Values.{is_small, number_data}
use Rattle.ctf_json.proofs.Fronts.{Fronts}
use Rattle.ctf_json.proofs.lists.numbers_at.Given as goal

abbrev pub invariant-loop-reader : goal.invariant-loop-reader
invariant-loop-reader l =
    (n : ℕ) × (length l.reader ≤ n)
    × (f : Items → Items)
    × (items (value l.depth) (length l.initial.reader) l.initial.reader ≡ parse_map f (items (value l.depth) n l.reader))
    × Fronts is_small number_data l.numbers.items f × (length l.reader ≤ length l.initial.reader)

abbrev pub decreases-loop-reader : goal.decreases-loop-reader
decreases-loop-reader l = length l.reader
