-- Extents that are kept in 8 bytes each, and those that do not fit into 8. The words are ours.
use Rattle.std.specs.Prelude.{ℕ, List, [], ◌∷◌, map, Option, Some, None, option_map, slice_get}
use Rattle.ctf_layout.specs.Extents.{refusal_extent}
use Rattle.ctf_layout.specs.Kept.{extent_of_kept}
use Rattle.ctf_layout.specs.declared.entry.KeptExtent.{KeptExtent}
use Rattle.ctf_layout.specs.declared.extents.Amount.TheVariants.{Known, Refused}
use Rattle.ctf_layout.specs.declared.extents.Extent.{Extent}
use Rattle.ctf_layout.specs.declared.extents.Refusal.TheVariants.{Incomplete, NoParent, NoType}
use Rattle.ctf_layout.specs.declared.extents.Target.TheVariants as stands_for
use Rattle.ctf_layout.specs.declared.kept.Extents.{Extents}
use Rattle.ctf_layout.specs.declared.small_extent.SmallExtent.{SmallExtent}
use Rattle.ctf_layout.specs.declared.small_extent.SmallExtent.TheVariants as small

abbrev pub or_no_type : Option Extent → Extent
or_no_type None = refusal_extent NoType
or_no_type (Some e) = e

-- the extent of the own type with a number from 0
abbrev pub extent_at : List Extent → ℕ → Extent
extent_at extents i = or_no_type (slice_get extents i)

-- the extents of wide entries
abbrev pub extents_of_wide : List KeptExtent → List Extent
extents_of_wide wide = map extent_of_kept wide

-- the extent of the wide entry at a place
abbrev pub wide_extent_at : List KeptExtent → ℕ → Extent
wide_extent_at wide place = or_no_type (option_map extent_of_kept (slice_get wide place))

-- the extent of a small entry, beside the wide ones
abbrev pub extent_of_small : List KeptExtent → SmallExtent → Extent
extent_of_small wide (small.Known align target size) =
    record { size = Known size; align = Known align; target = stands_for.Known target }
extent_of_small wide (small.Incomplete target) = record {
  size = Refused Incomplete;
  align = Refused Incomplete;
  target = stands_for.Known target;
}
extent_of_small wide small.NoType = refusal_extent NoType
extent_of_small wide small.NoParent = refusal_extent NoParent
extent_of_small wide (small.Wide place) = wide_extent_at wide place

-- the extents of the small entries, in order; where there are none, those of the wide ones
abbrev pub extents_of_entries : List KeptExtent → List SmallExtent → List Extent
extents_of_entries wide [] = extents_of_wide wide
extents_of_entries wide (x ∷ xs) = map (extent_of_small wide) (x ∷ xs)

-- the extents of the own types, as a table keeps them
unfoldable pub extents_in : Extents → List Extent
extents_in e = extents_of_entries e.wide.items e.small.items
