-- Laws of figures (sizes, alignments and resolved types).
use Rattle.std.specs.Prelude.{◌≡◌, ◌<◌, ℕ, false, List, [], length, None, Some, Result, slice_index_or}
use Rattle.std.specs.List.{AllByRecursion}
use Rattle.ctf_model.specs.rules.Chains.{IsWithin, by_value, edges, longest_chain}
use Rattle.ctf_model.specs.format.Dictionary.{Dictionary, said_by}
use Rattle.ctf_model.specs.rules.Faults.{first_fault}
use Rattle.ctf_model.specs.figures.Figures.{Figure, aligning, figure_in, resolving, sizing}
use Rattle.ctf_model.specs.format.Lists.{Lists}
use Rattle.ctf_model.specs.spaces.Space.{Space}
use Rattle.ctf_model.specs.format.Term.{Term, Body}
use Rattle.ctf_model.specs.format.Term as term
use Rattle.ctf_model.specs.spaces.TypePlaces.{own_number, place}
use Rattle.ctf_model.specs.declared.data_model.DataModel.{DataModel}
use Rattle.ctf_model.specs.declared.faults.Fault.{Fault}
use Rattle.ctf_model.specs.declared.numbers.Place.TheVariants.{Parents}

-- the figure of a type depends only on the figures of the types that it leads to by value
pub record AsksByValue (figure : Figure) : Type 0 where
  pub same : (f g : ℕ → Result ℕ Fault) (n : ℕ) (body : Body)
      → AllByRecursion (λ t. f t ≡ g t) (by_value body)
      → figure.of_type f n body ≡ figure.of_type g n body

-- all three figures have this property
pub record FiguresAskByValue : Type 0 where
  pub resolving_asks : AsksByValue resolving
  pub sizing_asks : (model : DataModel) → AsksByValue (sizing model)
  pub aligning_asks : (model : DataModel) → AsksByValue (aligning model)

-- for each own type, the own types that it leads to by value
abbrev pub value_edges : Dictionary → List (List ℕ)
value_edges d = edges by_value d.child d.terms

abbrev pub nothing : Term
nothing = record { name = []; root = false; body = term.unknown }

-- the own type at index `i`
abbrev pub own_body : Dictionary → ℕ → Body
own_body d i = (slice_index_or d.terms i nothing).body

-- no chain by value is longer than the limit
pub record HasBoundedValues (d : Dictionary) : Type 0 where
  pub each : (i : ℕ) → i < length d.terms → IsWithin (value_edges d) longest_chain i

-- a dictionary without a fault has no such chain
abbrev pub FaultlessValuesAreBounded : Type 0
FaultlessValuesAreBounded = (s : Lists) → first_fault s ≡ None → HasBoundedValues (said_by s)

-- the figure of an own type follows its rule; the bound in the definition of `comes_to` never shows
abbrev pub OwnFiguresAreTheirRules : Type 0
OwnFiguresAreTheirRules =
    (figure : Figure) → AsksByValue figure → (s : Space) → HasBoundedValues s.own → (i : ℕ)
    → i < length s.own.terms
    → figure_in figure s (own_number s.own.child i)
    ≡ figure.of_type (figure_in figure s) (own_number s.own.child i) (own_body s.own i)

-- the parent of a space as a space of its own
abbrev pub parent_alone : Space → Dictionary → Space
parent_alone s parent = record { own = parent; parent = None; model = s.model }

-- the figure of a parent's type is the same in the parent alone
abbrev pub ParentsFiguresAreTheirOwn : Type 0
ParentsFiguresAreTheirOwn =
    (figure : Figure) (s : Space) (parent : Dictionary) → s.parent ≡ Some parent → (n i : ℕ)
    → place s.own.child n ≡ Parents i
    → figure_in figure s n ≡ figure_in figure (parent_alone s parent) n
