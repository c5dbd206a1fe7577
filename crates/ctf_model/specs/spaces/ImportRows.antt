-- Worked rows of imports. The values were worked out by hand.
use Rattle.std.specs.Prelude.{◌≡◌, true, false, [], ◌∷◌, Option, Some, None}
use Rattle.ctf_model.specs.format.Dictionary.{Dictionary}
use Rattle.ctf_model.specs.figures.FigureRows.{dictionary, fault, integer_of, bare_term}
use Rattle.ctf_model.specs.spaces.Imports.{Modelled, import_fault}
use Rattle.ctf_model.specs.format.Term as term
use Rattle.ctf_model.specs.declared.data_model.DataModel.{DataModel}
use Rattle.ctf_model.specs.declared.data_model.DataModel.TheVariants.{Lp64, Ilp32}
use Rattle.ctf_model.specs.declared.faults.Fault.{Fault}

abbrev pub of : DataModel → Dictionary → Modelled
of model said = record { dictionary = said; model = model }

-- a child with a pointer to type 3 of its parent
abbrev pub pointing : Dictionary
pointing = dictionary true (bare_term (term.pointer 3) ∷ [])

-- a dictionary that is no child, of three types
abbrev pub three : Dictionary
three = dictionary false (integer_of 4 ∷ integer_of 2 ∷ integer_of 1 ∷ [])

abbrev pub over : Modelled → Modelled → Option Fault
over child parent = import_fault (record { child = child; parent = parent })

pub record ImportsAreJudged : Type 0 where
  pub serves : over (of Lp64 pointing) (of Lp64 three) ≡ None
  pub serves_short : over (of Ilp32 pointing) (of Ilp32 three) ≡ None
  pub not_child : over (of Lp64 three) (of Ilp32 pointing) ≡ Some (fault 20 0)
  pub parent_is_child : over (of Lp64 pointing) (of Ilp32 pointing) ≡ Some (fault 21 0)
  pub model_differs : over (of Lp64 pointing) (of Ilp32 three) ≡ Some (fault 60 0)
  pub differs_before_short : over (of Ilp32 pointing) (of Lp64 (dictionary false []))
      ≡ Some (fault 60 0)
  pub parent_short : over (of Lp64 pointing) (of Lp64 (dictionary false [])) ≡ Some (fault 22 3)
