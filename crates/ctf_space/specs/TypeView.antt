-- What a looked-up type shows. Source: ours.
use Rattle.std.specs.Prelude.{ℕ, List, Option, Result, Ok, Err}
use Rattle.ctf_model.specs.format.Shown.{Shown, shown}
use Rattle.ctf_model.specs.spaces.Imports.{Modelled, import_fault}
use Rattle.ctf_model.specs.format.Term.{Term}
use Rattle.ctf_model.specs.spaces.TypeNumbers.{or_no_type}
use Rattle.ctf_model.specs.declared.data_model.DataModel.{DataModel}
use Rattle.ctf_model.specs.declared.faults.Fault.{Fault}
use Rattle.ctf_check.specs.CheckedView.{dictionary_of}
use Rattle.ctf_check.specs.TypedView.{term_in}
use Rattle.ctf_check.specs.declared.checked.Checked.{Checked}
use Rattle.ctf_check.specs.declared.typed.Typed.{Typed}
use Rattle.ctf_views.specs.VariantView.{shown_of}
use Rattle.ctf_views.specs.declared.variants.Variant.{Variant}

-- the type, or the fault
abbrev pub type_found : Result Typed Fault → Result Term Fault
type_found (Ok x) = or_no_type (term_in x)
type_found (Err fault) = Err fault

-- a lent dictionary, with a data model
abbrev pub of_model : Checked → DataModel → Modelled
of_model dictionary model = record { dictionary = dictionary_of dictionary; model = model }

-- the fault of importing one dictionary into another, each with its data model
abbrev pub fault_of_import : Checked → DataModel → Checked → DataModel → Option Fault
fault_of_import child child_model parent parent_model =
    import_fault
    (record { child = of_model child child_model; parent = of_model parent parent_model })

-- ---- parts of a type, if it exists

abbrev pub name_in : Result Term Fault → Result (List ℕ) Fault
name_in (Ok x) = Ok x.name
name_in (Err fault) = Err fault

abbrev pub shown_in : Result Term Fault → Result Shown Fault
shown_in (Ok x) = Ok (shown x.body)
shown_in (Err fault) = Err fault

abbrev pub shown_found : Result Variant Fault → Result Shown Fault
shown_found (Ok v) = Ok (shown_of v)
shown_found (Err fault) = Err fault
