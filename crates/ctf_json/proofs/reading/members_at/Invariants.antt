use Rattle.std.proofs.Common.{◌≡◌, ℕ, ◌≤◌, List, length, true, Option, option_map}
use Rattle.json.specs.Json.{Json, Members, members, value, parse_map}
use Rattle.serde_json.specs.Find.{get}
use Rattle.ctf_json.specs.Keys.{wanted_at}
use Rattle.ctf_json.specs.Kept.{kept_data}
use Rattle.ctf_json.specs.Memory.{IsLeft}
use Rattle.ctf_json.specs.TreeData.{is_one_of, tree_data}
use Rattle.ctf_json.specs.Values.{IsNew, keys, line_data}
use Rattle.ctf_json.proofs.Fronts.{Before}
use Rattle.ctf_json.proofs.reading.members_at.Given as goal

abbrev pub invariant-loop-member : goal.invariant-loop-member
invariant-loop-member l =
    (n : ℕ) × (length l.reader ≤ n)
    × (f : Members → Members) × (g : List ℕ → Option Json)
    × (members (value l.depth) (length l.initial.reader) l.initial.reader ≡ parse_map f (members (value l.depth) n l.reader))
    × Before f g × (length l.reader ≤ length l.initial.reader)
    × IsLeft l.initial.reader l.reader
    × (IsNew l.initial.line → (q : List ℕ) → is_one_of q keys ≡ true → get q (line_data l.line) ≡ option_map (kept_data (wanted_at q)) (option_map tree_data (g q)))

abbrev pub decreases-loop-member : goal.decreases-loop-member
decreases-loop-member l = length l.reader
