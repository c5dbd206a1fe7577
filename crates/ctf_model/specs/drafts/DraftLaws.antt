-- Laws of drafts. Each is the contract of a function of src/laws.rt.
use Rattle.std.specs.Prelude.{◌≡◌, ◌<◌, ◌≤◌, ℕ, ◌+◌, ◌*◌, ◌%◌, ◌^◌, ◌==◌, max, not, is_some, false, List, length, Option, None, Some, Ok, FitsSigned}
use Rattle.std.specs.Int.{w32}
use Rattle.std.specs.List.{AllByRecursion, list_any}
use Rattle.ctf_model.specs.drafts.Adders.{Added, add_enumerator, add_label, add_member, add_type, most_types}
use Rattle.ctf_model.specs.format.Dictionary.{Dictionary, Label}
use Rattle.ctf_model.specs.drafts.DraftChanges.{DraftChange, after}
use Rattle.ctf_model.specs.drafts.DraftChanges as does
use Rattle.ctf_model.specs.drafts.Drafts.{Draft, all_of, count_of, rollback, content, is_absent, is_childs, new_draft, commit}
use Rattle.ctf_model.specs.drafts.Fitting.{Fits, FitsLabel, FitsNew, IsName}
use Rattle.ctf_model.specs.drafts.NewTypes.{NewType}
use Rattle.ctf_model.specs.drafts.Placement.{aligned_from}
use Rattle.ctf_model.specs.rules.References.{is_missing, references}
use Rattle.ctf_model.specs.spaces.Imports.{Modelled, import_fault, of_one_model}
use Rattle.ctf_model.specs.format.Term.{Enumerator, Term}
use Rattle.ctf_model.specs.declared.data_model.DataModel.{DataModel}

-- ---- what holds of every draft

-- each type that type `x` refers to exists, in the draft or in its parent
abbrev pub NamesThere : Draft → Term → Type 0
NamesThere d x = list_any (is_absent d) (references x.body) ≡ false

-- the content of the draft can be written as a dictionary
pub record HoldsTogether (d : Draft) : Type 0 where
  pub parent : is_childs d.parent ≡ false
  pub child : is_some d.parent ≡ not (length d.parname == 0)
  pub parname : IsName d.parname
  pub parlabel : IsName d.parlabel
  pub labels : AllByRecursion FitsLabel (all_of d).labels
  pub count : count_of d ≤ most_types
  pub terms : AllByRecursion Fits (all_of d).terms
  pub named : AllByRecursion (NamesThere d) (all_of d).terms

-- the same holds without the pending part
pub record IsSound (d : Draft) : Type 0 where
  pub all : HoldsTogether d
  pub updated : HoldsTogether (rollback d)

-- ---- drafts are sound

abbrev pub NewDraftsAreSound : Type 0
NewDraftsAreSound =
    (parent : Option Modelled) (parname parlabel : List ℕ) (model : DataModel) (d : Draft)
    → is_some parent ≡ not (length parname == 0)
    → new_draft parent parname parlabel model ≡ Ok d → IsSound d

abbrev pub TypesKeepSound : Type 0
TypesKeepSound =
    (d : Draft) (x : NewType) (a : Added) → IsSound d → FitsNew x.body → add_type d x ≡ Ok a
    → IsSound a.draft

abbrev pub MembersKeepSound : Type 0
MembersKeepSound =
    (d : Draft) (n : ℕ) (name : List ℕ) (tnum : ℕ) (offset : Option ℕ) (a : Added) → IsSound d
    → add_member d n name tnum offset ≡ Ok a → IsSound a.draft

abbrev pub EnumeratorsKeepSound : Type 0
EnumeratorsKeepSound =
    (d : Draft) (n : ℕ) (e : Enumerator) (a : Draft) → IsSound d → FitsSigned w32 e.value
    → add_enumerator d n e ≡ Ok a → IsSound a

abbrev pub LabelsKeepSound : Type 0
LabelsKeepSound =
    (d : Draft) (label : Label) (a : Draft) → IsSound d → label.last < 2 ^ 32
    → add_label d label ≡ Ok a → IsSound a

abbrev pub LifeKeepsSound : Type 0
LifeKeepsSound = (d : Draft) → IsSound d → IsSound (rollback d) × IsSound (commit d)

-- the numbers in a change fit their fields
abbrev pub FitsChange : DraftChange → Type 0
FitsChange (does.adds_type x) = FitsNew x.body
FitsChange (does.adds_enumerator n e) = FitsSigned w32 e.value
FitsChange (does.adds_label label) = label.last < 2 ^ 32
FitsChange _ = Unit {0}

-- no sequence of changes, refused or not, makes a sound draft unsound
abbrev pub ChangesKeepSound : Type 0
ChangesKeepSound =
    (d : Draft) (changes : List DraftChange) → IsSound d → AllByRecursion FitsChange changes
    → IsSound (after d changes)

-- ---- what follows from soundness

-- no type of a sound draft refers to a missing own type, so its dictionary keeps the rule of
-- references
abbrev pub SoundDraftsMissNone : Type 0
SoundDraftsMissNone =
    (d : Draft) → IsSound d
    → AllByRecursion
    (λ x. list_any (is_missing (content d).child (length (content d).terms)) (references x.body)
    ≡ false)
    (content d).terms

-- no type number in a sound draft equals the mark of the long form
abbrev pub SoundDraftsNameShort : Type 0
SoundDraftsNameShort =
    (d : Draft) → IsSound d
    → AllByRecursion (λ x. AllByRecursion (λ n. n < 0xffff) (references x.body)) (content d).terms

-- the dictionary of a sound draft can always be imported over the draft's parent
abbrev pub SoundDraftsStayUnder : Type 0
SoundDraftsStayUnder =
    (d : Draft) (parent : Dictionary) → IsSound d → d.parent ≡ Some parent
    → import_fault (of_one_model d.model (content d) parent) ≡ None

-- ---- placement

-- the least offset in bits, not before `bit`, that is a multiple of the alignment in bytes
pub record IsNextPlace (bit align at : ℕ) : Type 0 where
  pub aligned : at % (8 * max align 1) ≡ 0
  pub behind : bit ≤ at
  pub near : at < bit + 8 * max align 1

abbrev pub PlacesAreNext : Type 0
PlacesAreNext = (bit align : ℕ) → IsNextPlace bit align (aligned_from bit align)
