-- A stored dictionary: its lists, and its program's data model. Source: ours.
use Rattle.std.specs.Prelude.{Option, None, Some}
use Rattle.std.specs.Option.{option_map}
use Rattle.ctf_model.specs.format.Dictionary.{Dictionary, said_by}
use Rattle.ctf_model.specs.spaces.Imports.{Modelled, import_fault}
use Rattle.ctf_model.specs.format.Lists.{Lists}
use Rattle.ctf_model.specs.spaces.Space.{Space}
use Rattle.ctf_model.specs.declared.data_model.DataModel.{DataModel}
use Rattle.ctf_model.specs.declared.data_model.DataModel.TheVariants.{Lp64}
use Rattle.ctf_model.specs.declared.faults.Fault.{Fault}

pub record Kept : Type 0 where
  pub lists : Lists
  pub model : DataModel

-- the data model if none is stated
abbrev pub default_model : DataModel
default_model = Lp64

-- lists stored without a stated data model
abbrev pub as_kept : Lists → Kept
as_kept lists = record { lists = lists; model = default_model }

-- the data model of a new dictionary over a parent: the parent's, if there is one
abbrev pub model_over : Option Kept → DataModel
model_over None = default_model
model_over (Some parent) = parent.model

-- the dictionary that the lists encode
abbrev pub kept_dictionary : Kept → Dictionary
kept_dictionary kept = said_by kept.lists

-- that dictionary, with its data model
abbrev pub modelled_by : Kept → Modelled
modelled_by kept = record { dictionary = kept_dictionary kept; model = kept.model }

-- the space that questions see: the dictionary, over its parent if it has one
abbrev pub kept_space : Kept → Option Kept → Space
kept_space own parent = record {
  own = kept_dictionary own;
  parent = option_map kept_dictionary parent;
  model = own.model;
}

-- the fault of importing `parent` into `child`
abbrev pub fault_over : Kept → Kept → Option Fault
fault_over child parent =
    import_fault (record { child = modelled_by child; parent = modelled_by parent })
