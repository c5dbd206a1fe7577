-- Sizes, alignments and resolved types as they are stored. Source: ours.
use Rattle.std.specs.Prelude.{◌≡◌, ℕ, List, length, map, Option, Some, None, slice_get}
use Rattle.ctf_model.specs.spaces.Space.{Space}
use Rattle.ctf_model.specs.spaces.TypePlaces.{own_number}
use Rattle.ctf_layout.specs.Bases.{IsByOne}
use Rattle.ctf_layout.specs.Extents.{IsExtent}
use Rattle.ctf_layout.specs.Table.{Table}
use Rattle.ctf_layout.specs.declared.extents.Amount.{Amount}
use Rattle.ctf_layout.specs.declared.extents.Amount.TheVariants.{Known, Refused}
use Rattle.ctf_layout.specs.declared.extents.Extent.{Extent}
use Rattle.ctf_layout.specs.declared.extents.Refusal.TheVariants.{Incomplete, TooBig, NoType, NoParent}
use Rattle.ctf_layout.specs.declared.extents.Target.{Target}
use Rattle.ctf_layout.specs.declared.extents.Target.TheVariants as stands_for
use Rattle.ctf_model.specs.declared.numbers.TypeNum.{TypeNum}
use Rattle.ctf_layout.specs.declared.bases.Row.{Row}
use Rattle.ctf_layout.specs.declared.entry.KeptExtent.{KeptExtent}
use Rattle.ctf_layout.specs.declared.entry.Standing.{Standing}
use Rattle.ctf_layout.specs.declared.entry.Standing.TheVariants as stands

-- a number, or the reason against it
abbrev pub amount_kept : Standing → ℕ → Amount
amount_kept stands.Open n = Refused NoType
amount_kept stands.Known n = Known n
amount_kept stands.Incomplete n = Refused Incomplete
amount_kept stands.TooBig n = Refused TooBig
amount_kept stands.NoType n = Refused NoType
amount_kept stands.NoParent n = Refused NoParent

-- the same for a resolved type
abbrev pub target_kept : Standing → TypeNum → Target
target_kept stands.Open t = stands_for.Refused NoType
target_kept stands.Known t = stands_for.Known t
target_kept stands.Incomplete t = stands_for.Refused Incomplete
target_kept stands.TooBig t = stands_for.Refused TooBig
target_kept stands.NoType t = stands_for.Refused NoType
target_kept stands.NoParent t = stands_for.Refused NoParent

-- none while the size is open, else everything
abbrev pub unless_open : Standing → Extent → Option Extent
unless_open stands.Open x = None
unless_open stands.Known x = Some x
unless_open stands.Incomplete x = Some x
unless_open stands.TooBig x = Some x
unless_open stands.NoType x = Some x
unless_open stands.NoParent x = Some x

-- the extent in an entry; an open entry gives `NoType`
abbrev pub extent_of_kept : KeptExtent → Extent
extent_of_kept e = record {
  size = amount_kept e.sized e.size;
  align = amount_kept e.aligned e.align;
  target = target_kept e.resolved e.target;
}

-- the extent, if it is known
abbrev pub extent_kept : KeptExtent → Option Extent
extent_kept e = unless_open e.sized (extent_of_kept e)

-- an entry with the correct size, alignment and resolved type of number `n`
pub record IsKept (s : Space) (n : ℕ) (x : KeptExtent) : Type 0 where
  pub extent : Extent
  pub kept : extent_kept x ≡ Some extent
  pub right : IsExtent s n extent

-- an entry with the extent of type `one`, or of a row of such elements
pub record IsByKept (n : ℕ) (row : Option Row) (one : Extent) (x : KeptExtent) : Type 0 where
  pub extent : Extent
  pub kept : extent_kept x ≡ Some extent
  pub by : IsByOne n row one extent

-- the entries as a table
abbrev pub table_kept : List KeptExtent → Table
table_kept entries = map extent_kept entries

-- these are the extents of all own types
pub record AreExtents (s : Space) (extents : List Extent) : Type 0 where
  pub count : length extents ≡ length s.own.terms
  pub right : (i : ℕ) (e : Extent) → slice_get extents i ≡ Some e
      → IsExtent s (own_number s.own.child i) e
