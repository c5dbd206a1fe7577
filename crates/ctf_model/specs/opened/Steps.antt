-- The steps of an open dictionary. Source: libctf(3LIB), ctf_import, ctf_create, ctf_add_type and
-- its kin, ctf_update, ctf_discard; that a draft's dictionary is what its last update wrote is
-- ours.
use Rattle.std.specs.Prelude.{◌≡◌, ◌⊎◌, ℕ, List, length, is_some, Option, None, Some, Result, Ok, Err, if◌then◌else◌}
use Rattle.std.specs.Option.{option_map}
use Rattle.ctf_model.specs.drafts.Adders.{Added, add_enumerator, add_label, add_member, add_type}
use Rattle.ctf_model.specs.drafts.Drafts.{Draft, rollback, content, new_draft, commit}
use Rattle.ctf_model.specs.drafts.NewTypes.{NewType}
use Rattle.ctf_model.specs.format.Dictionary.{Label}
use Rattle.ctf_model.specs.format.Term.{Enumerator}
use Rattle.ctf_model.specs.rules.Refusals.{placeless, out_of_memory}
use Rattle.ctf_model.specs.spaces.Kept.{Kept, fault_over, modelled_by}
use Rattle.ctf_model.specs.writing.Written.{lists_of, written}
use Rattle.ctf_model.specs.declared.data_model.DataModel.{DataModel}
use Rattle.ctf_model.specs.declared.faults.Fault.{Fault}
use Rattle.ctf_model.specs.declared.faults.TheConstants.Fault.{FIXED_PARENT, READ_ONLY}
use Rattle.ctf_model.specs.opened.Open.{Open, own_in}

-- the reason for a refusal: out of memory, or this fault
abbrev pub Refuses : Option Fault → Fault → Type 0
Refuses fault f = (f ≡ out_of_memory) ⊎ (fault ≡ Some f)

-- ---- imports

-- why an import is refused: a draft's parent is fixed when it is made; else as for any import
abbrev pub import_refusal : Open → Open → Option Fault
import_refusal child parent =
    if is_some child.draft then Some (placeless FIXED_PARENT) else fault_over child.own parent.own

-- ---- new drafts

-- after an update, the dictionary is the bytes of the whole draft
abbrev pub settled_as : Option Kept → Draft → Result (List ℕ) Fault → Result Open Fault
settled_as parent d (Ok bytes) =
    Ok (record {
      own = record { lists = lists_of bytes; model = d.model };
      parent = parent;
      draft = Some (commit d);
    })
settled_as parent d (Err fault) = Err fault

-- a draft, updated over its parent
abbrev pub updated_over : Option Kept → Result Draft Fault → Result Open Fault
updated_over parent (Ok d) = settled_as parent d (written (content d))
updated_over parent (Err fault) = Err fault

-- a new draft is updated at once, while it is empty
unfoldable pub created : Option Kept → List ℕ → List ℕ → DataModel → Result Open Fault
created parent parname parlabel model =
    updated_over parent (new_draft (option_map modelled_by parent) parname parlabel model)

-- ---- steps

-- the open dictionary after a step, and the number that is answered (0 if there is none)
pub record Stepped : Type 0 where
  pub served : Open
  pub answer : ℕ

-- the open dictionary with a new draft
abbrev pub with_draft : Open → Draft → Open
with_draft s d = record { own = s.own; parent = s.parent; draft = Some d }

abbrev pub enlarged_as : Open → Result Added Fault → Result Stepped Fault
enlarged_as s (Ok added) = Ok (record { served = with_draft s added.draft; answer = added.answer })
enlarged_as s (Err fault) = Err fault

-- adds to the draft, if there is one
abbrev pub enlarged_if : Open → (Draft → Result Added Fault) → Option Draft → Result Stepped Fault
enlarged_if s adds None = Err (placeless READ_ONLY)
enlarged_if s adds (Some d) = enlarged_as s (adds d)

abbrev pub enlarge : (Draft → Result Added Fault) → Open → Result Stepped Fault
enlarge adds s = enlarged_if s adds s.draft

-- an addition that answers no number
abbrev pub silent : Result Draft Fault → Result Added Fault
silent (Ok d) = Ok (record { draft = d; answer = 0 })
silent (Err fault) = Err fault

abbrev pub type_added : NewType → Open → Result Stepped Fault
type_added x = enlarge (λ d. add_type d x)

abbrev pub member_added : ℕ → List ℕ → ℕ → Option ℕ → Open → Result Stepped Fault
member_added t name tnum offset = enlarge (λ d. add_member d t name tnum offset)

abbrev pub enumerator_added : ℕ → Enumerator → Open → Result Stepped Fault
enumerator_added t x = enlarge (λ d. silent (add_enumerator d t x))

abbrev pub label_added : Label → Open → Result Stepped Fault
label_added x = enlarge (λ d. silent (add_label d x))

-- answers the number of types in the dictionary
abbrev pub with_count : Result Open Fault → Result Stepped Fault
with_count (Ok s) = Ok (record { served = s; answer = length (own_in s).terms })
with_count (Err fault) = Err fault

abbrev pub updated_if : Option Kept → Option Draft → Result Stepped Fault
updated_if parent None = Err (placeless READ_ONLY)
updated_if parent (Some d) = with_count (settled_as parent d (written (content d)))

-- updates the draft
abbrev pub step_update : Open → Result Stepped Fault
step_update s = updated_if s.parent s.draft

abbrev pub discarded_if : Open → Option Draft → Result Stepped Fault
discarded_if s None = Err (placeless READ_ONLY)
discarded_if s (Some d) = with_count (Ok (with_draft s (rollback d)))

-- drops what was added since the last update
abbrev pub discard_step : Open → Result Stepped Fault
discard_step s = discarded_if s s.draft
