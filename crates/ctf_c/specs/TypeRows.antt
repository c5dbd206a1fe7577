-- Rows of types for C. Source: ours; a row gives the answers of the single calls.
use Rattle.std.specs.Prelude.{◌≡◌, ℕ, List, length, map, Option, Some, Ok, option_and_then}
use Rattle.std.specs.List.{range_with_len}
use Rattle.ctf_c.specs.Given.{Gives, ask, flag, number_of_kind}
use Rattle.ctf_c.specs.Rowed.{lists_with}
use Rattle.ctf_c.specs.names.Places.{text_in}
use Rattle.ctf_c.specs.declared.type_rows.GivenTypeRow.{GivenTypeRow}
use Rattle.ctf_model.specs.figures.Figures.{reference as reference_of}
use Rattle.ctf_model.specs.format.Dictionary.{Dictionary}
use Rattle.ctf_model.specs.opened.Open.{Open, space_in}
use Rattle.ctf_model.specs.opened.Questions.{align_answered, answer_map, kind_answered, length_answered, on_shape, resolved_answered, root_answered, shape_of, size_answered}
use Rattle.ctf_layout.specs.Fitting.{Fits}
use Rattle.ctf_layout.specs.declared.layout.Layout.{Layout}
use Rattle.ctf_model.specs.spaces.Space.{Space, space_type}
use Rattle.ctf_space.specs.SpaceView.{own_lists, space_of}
use Rattle.ctf_space.specs.declared.space.Space.{Space as LentSpace}
use Rattle.ctf_model.specs.spaces.TypePlaces.{own_number}
use Rattle.ctf_space.specs.TypeView.{name_in}

-- the numbers of a dictionary's own types, in order
abbrev pub own_numbers : Dictionary → List ℕ
own_numbers d = map (own_number d.child) (range_with_len 0 (length d.terms))

-- the row of a type: its kind, visibility and list length; its size, alignment, resolved type and
-- reference, each with the status of the single call, and 0 if refused; and where its record's name
-- is
pub record TellsType (s : Option Open) (t : ℕ) (row : GivenTypeRow) : Type 0 where
  pub number : row.tnum ≡ t
  pub kind : ask s (λ o. answer_map number_of_kind
      (on_shape kind_answered (shape_of (space_type (space_in o) t)))) ≡ Ok row.kind
  pub root : ask s (λ o. answer_map flag (root_answered (space_type (space_in o) t)))
      ≡ Ok row.root
  pub items : ask s (λ o. on_shape length_answered (shape_of (space_type (space_in o) t)))
      ≡ Ok row.length
  pub size : Gives (ask s (λ o. size_answered (space_in o) t)) row.size_status 0 row.size
  pub align : Gives (ask s (λ o. align_answered (space_in o) t)) row.align_status 0 row.align
  pub resolved : Gives (ask s (λ o. resolved_answered (space_in o) t))
      row.resolved_status 0 row.resolved
  pub reference : Gives (ask s (λ o. reference_of (space_in o) t))
      row.reference_status 0 row.reference
  pub name : (said : List ℕ) × (ask s (λ o. name_in (space_type (space_in o) t)) ≡ Ok said)
      × (option_and_then (λ lists. text_in lists row.name_list row.name_at) (lists_with s t)
      ≡ Some said)

-- the computed figures in a row: each a number, or 0 with the status of the refusal
pub record TellsFigures (s : Space) (t : ℕ) (row : GivenTypeRow) : Type 0 where
  pub size : Gives (size_answered s t) row.size_status 0 row.size
  pub align : Gives (align_answered s t) row.align_status 0 row.align
  pub resolved : Gives (resolved_answered s t) row.resolved_status 0 row.resolved

-- the space and the layout belong to the open dictionary
pub record IsAsked (d : Open) (lent : LentSpace) (layout : Layout) : Type 0 where
  pub space : space_of lent ≡ space_in d
  pub lists : own_lists lent ≡ d.own.lists
  pub fits : Fits (space_in d) layout
