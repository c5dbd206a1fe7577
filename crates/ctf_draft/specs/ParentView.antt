-- The parent that a draft stores.
use Rattle.std.specs.Prelude.{Option}
use Rattle.std.specs.Option.{option_map}
use Rattle.ctf_model.specs.format.Dictionary.{Dictionary, said_by}
use Rattle.ctf_model.specs.declared.data_model.DataModel.{DataModel}
use Rattle.ctf_layout.specs.Fitting.{Fits}
use Rattle.ctf_space.specs.SpaceView.{space_alone}
use Rattle.ctf_draft.specs.declared.parents.Parent.{Parent}

abbrev pub parent_in : Option Parent → Option Dictionary
parent_in parent = option_map (λ p. said_by p.judged.value.kept.lists) parent

-- its layout fits its types
abbrev pub FitsParent : DataModel → Parent → Type 0
FitsParent model p = Fits (space_alone (said_by p.judged.value.kept.lists) model) p.layout
