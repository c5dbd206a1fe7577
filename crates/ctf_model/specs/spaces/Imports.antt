-- When one dictionary can be the parent of another. Source: libctf(3LIB), ctf_import, ctf_setmodel;
-- that their data models must be equal is ours.
use Rattle.std.specs.Prelude.{ℕ, not, nat_lt, Bool, true, false, List, [], ◌∷◌, length, Option, Some, None, if◌then◌else◌}
use Rattle.ctf_model.specs.format.Dictionary.{Dictionary}
use Rattle.ctf_model.specs.rules.Faults.{if_broken, or_later}
use Rattle.ctf_model.specs.rules.Needs.{greatest_needed}
use Rattle.ctf_model.specs.declared.data_model.DataModel.{DataModel}
use Rattle.ctf_model.specs.declared.data_model.DataModel.TheVariants.{Lp64, Ilp32}
use Rattle.ctf_model.specs.declared.faults.Fault.{Fault}
use Rattle.ctf_model.specs.declared.faults.TheConstants.Fault.{NOT_CHILD, PARENT_IS_CHILD, PARENT_SHORT, MODEL_DIFFERS}

-- a dictionary, and the data model of its program
pub record Modelled : Type 0 where
  pub dictionary : Dictionary
  pub model : DataModel

-- a child, and the parent that it is to import
pub record Import : Type 0 where
  pub child : Modelled
  pub parent : Modelled

-- a child and a parent of one data model
abbrev pub of_one_model : DataModel → Dictionary → Dictionary → Import
of_one_model model child parent = record {
  child = record { dictionary = child; model = model };
  parent = record { dictionary = parent; model = model };
}

abbrev pub same_model : DataModel → DataModel → Bool
same_model Lp64 Lp64 = true
same_model Ilp32 Ilp32 = true
same_model _ _ = false

-- ---- rules, each with the place where it is broken

-- the importing dictionary is no child
abbrev pub not_child : Import → Option ℕ
not_child i = if_broken (not i.child.dictionary.child)

-- the parent is a child itself
abbrev pub parent_is_child : Import → Option ℕ
parent_is_child i = if_broken i.parent.dictionary.child

-- the data models differ
abbrev pub model_differs : Import → Option ℕ
model_differs i = if_broken (not (same_model i.child.model i.parent.model))

-- the child refers to more types than the parent has; the place is the greatest such number
abbrev pub parent_short : Import → Option ℕ
parent_short i =
    if nat_lt (length i.parent.dictionary.terms) (greatest_needed i.child.dictionary)
    then Some (greatest_needed i.child.dictionary) else None

-- ---- their order

-- a rule, and its fault code
pub record Rule : Type 0 where
  pub code : ℕ
  pub broken : Import → Option ℕ

-- the rules of an import, in the order of checking
abbrev pub import_rules : List Rule
import_rules =
    record { code = NOT_CHILD; broken = not_child }
    ∷ record { code = PARENT_IS_CHILD; broken = parent_is_child }
    ∷ record { code = MODEL_DIFFERS; broken = model_differs }
    ∷ record { code = PARENT_SHORT; broken = parent_short } ∷ []

-- the fault of the first broken rule
abbrev pub first_against : List Rule → Import → Option Fault
first_against [] i = None
first_against (rule ∷ rules) i = or_later rule.code (rule.broken i) (first_against rules i)

-- the reason to refuse an import, if any
abbrev pub import_fault : Import → Option Fault
import_fault i = first_against import_rules i
