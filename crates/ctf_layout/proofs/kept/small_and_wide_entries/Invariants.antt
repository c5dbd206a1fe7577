use Rattle.std.proofs.Common.{◌≡◌, ◌≤◌, ◌++◌, List, map, take, length, vec_len, vec_capacity}
use Rattle.ctf_layout.specs.SmallExtents.{extent_of_small, extents_of_wide}
use Rattle.ctf_layout.specs.declared.entry.KeptExtent.{KeptExtent}
use Rattle.ctf_layout.proofs.kept.small_and_wide_entries.Given as goal

-- whatever wide entries come later, the small ones say what they are to say
abbrev pub invariant-loop-entry : goal.invariant-loop-entry
invariant-loop-entry g l = record {
  said : (later : List KeptExtent) → map (extent_of_small (l.wide.items ++ later)) l.small.items ≡ extents_of_wide (take l.entry-index l.table);
  len : vec_len l.small ≡ l.entry-index;
  few : vec_len l.wide ≤ l.entry-index;
  wide_len : length l.wide.items ≡ vec_len l.wide;
  room : length l.table ≤ vec_capacity l.small;
}
