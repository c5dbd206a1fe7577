-- When the tables of an open dictionary fit it. Source: ours.
use Rattle.std.specs.Prelude.{Option, None}
use Rattle.std.specs.Option.{ForSome, option_map}
use Rattle.ctf_layout.specs.Fitting as layouts
use Rattle.ctf_open.specs.declared.tables.Tables.{Tables}
use Rattle.ctf_model.specs.figures.FigureLaws.{parent_alone}
use Rattle.ctf_model.specs.spaces.Kept.{Kept, kept_space}
use Rattle.ctf_names.specs.Fitting as names
use Rattle.ctf_space.specs.SpaceView.{own_lists, parent_lists, space_of}
use Rattle.ctf_space.specs.declared.space.Space.{Space}

-- the tables fit the dictionary, and its parent if it has one
pub record AreTablesOf (own : Kept) (parent : Option Kept) (t : Tables) : Type 0 where
  pub layout : layouts.Fits (kept_space own parent) t.layout
  pub index : names.Fits own.lists (option_map (λ p. p.lists) parent) t.index

-- the same for a lent space
abbrev pub Serve : Space → Tables → Type 0
Serve s t = layouts.Fits (space_of s) t.layout × names.Fits (own_lists s) (parent_lists s) t.index

-- the part of the tables that belongs to the parent, if there is one
abbrev pub ServeParent : Space → Tables → Type 0
ServeParent s t =
    ForSome (space_of s).parent (λ p. layouts.Fits (parent_alone (space_of s) p) t.layout)
    × ForSome (parent_lists s) (λ p. names.Fits p None t.index)
