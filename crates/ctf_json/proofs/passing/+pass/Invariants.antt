use Rattle.std.proofs.Common.{◌≡◌, ℕ, ◌+◌, ◌*◌, ◌≤◌, length}
use Rattle.json.specs.Json.{items, members, value}
use Rattle.ctf_json.specs.Memory.{IsLeft}
use Rattle.ctf_json.specs.TreeData.{items_in_range, members_in_range}
use Rattle.ctf_json.specs.Passed.{tokens_behind, passed_items, passed_members}
use Rattle.ctf_json.proofs.passing.+pass.Given as goal

abbrev pub decreases-pass : goal.decreases-pass
decreases-pass l = 3 * l.depth + 1

abbrev pub decreases-pass_from : goal.decreases-pass_from
decreases-pass_from l = 3 * l.depth

abbrev pub decreases-pass_items : goal.decreases-pass_items
decreases-pass_items l = 3 * l.depth + 2

abbrev pub decreases-pass_members : goal.decreases-pass_members
decreases-pass_members l = 3 * l.depth + 2

abbrev pub invariant-pass_items-loop-reader : goal.invariant-pass_items-loop-reader
invariant-pass_items-loop-reader l =
    (n : ℕ) × (length l.reader ≤ n) × (passed_items l.depth l.initial.reader ≡ tokens_behind items_in_range (items (value l.depth) n l.reader)) × (length l.reader ≤ length l.initial.reader)

abbrev pub decreases-pass_items-loop-reader : goal.decreases-pass_items-loop-reader
decreases-pass_items-loop-reader l = length l.reader

abbrev pub invariant-pass_members-loop-reader : goal.invariant-pass_members-loop-reader
invariant-pass_members-loop-reader l =
    (n : ℕ) × (length l.reader ≤ n) × (passed_members l.depth l.initial.reader ≡ tokens_behind members_in_range (members (value l.depth) n l.reader)) × (length l.reader ≤ length l.initial.reader) × IsLeft l.initial.reader l.reader

abbrev pub decreases-pass_members-loop-reader : goal.decreases-pass_members-loop-reader
decreases-pass_members-loop-reader l = length l.reader
