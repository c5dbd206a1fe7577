-- A protocol word answers, under its keys, what the call on the open dictionary in the slot gives;
-- a call in process gives the same value. Each record is a law of src/session_laws.rt.
use Rattle.std.specs.Prelude.{◌≡◌, ℕ, ℤ, Bool, List, [], codes, Option, Some, Result}
use Rattle.ctf_model.specs.declared.faults.Fault.{Fault}
use Rattle.ctf_model.specs.declared.numbers.TypeNum.{TypeNum}
use Rattle.ctf_model.specs.figures.Figures.{reference}
use Rattle.ctf_model.specs.format.Shown.{Shape}
use Rattle.ctf_model.specs.names.Lookups.{lookup}
use Rattle.ctf_model.specs.opened.Open.{own_in, space_in}
use Rattle.ctf_model.specs.opened.Questions.{align_answered, array_answered, encoding_answered, enumerators_answered, kind_answered, members_answered, name_answered, path_answered, pointer_answered, resolved_answered, on_shape, shape_of, signature_answered, size_answered, value_answered}
use Rattle.ctf_model.specs.opened.Steps.{created, discard_step, enumerator_added, import_refusal, label_added, member_added, type_added, step_update}
use Rattle.ctf_model.specs.spaces.Kept.{Kept}
use Rattle.ctf_model.specs.spaces.Space.{space_type}
use Rattle.ctf_model.specs.symbols.SymbolQuestions.{function_of, label_of, object_of, symbol_found}
use Rattle.ctf_protocol.specs.answers.Answers.{Answer}
use Rattle.ctf_protocol.specs.answers.Questions.{align_fields, array_fields, as_fields, encoding_fields, enumerator_fields, kind_fields, member_fields, name_fields, position_fields, signature_fields, size_fields, type_fields, value_fields}
use Rattle.ctf_protocol.specs.answers.SlotAnswers.{last_fields, symbol_fields}
use Rattle.ctf_protocol.specs.sessions.Additions.{asked_body}
use Rattle.ctf_protocol.specs.sessions.Creations.{Created}
use Rattle.ctf_protocol.specs.sessions.DraftSteps.{created_slot, model_made, slot_step}
use Rattle.ctf_protocol.specs.sessions.Opened.{open_of, slot_made, slot_stepped, under, unsaid}
use Rattle.ctf_protocol.specs.sessions.State.{Slot, State}
use Rattle.ctf_protocol.specs.sessions.Outcomes.{grants, refused_by, within_quota}
use Rattle.ctf_protocol.specs.sessions.Slots.{slot_at, slots_with_parent}
use Rattle.ctf_protocol.specs.sessions.Steps.{imports}
use Rattle.ctf_protocol.specs.sessions.SlotQuestions.{slot_answered}
use Rattle.ctf_protocol.specs.declared.additions.Addition.TheVariants as add
use Rattle.ctf_protocol.specs.declared.additions.NewKind.{NewKind}
use Rattle.ctf_protocol.specs.declared.questions.PlainQuestion.{PlainQuestion}
use Rattle.ctf_protocol.specs.declared.questions.PlainQuestion.TheVariants as plain
use Rattle.ctf_protocol.specs.declared.questions.Question.TheVariants.{OfSlot, OfType}
use Rattle.ctf_protocol.specs.declared.questions.SlotQuestion.TheVariants as whole
use Rattle.ctf_protocol.specs.declared.questions.TypeQuestion.TheVariants as ask
use Rattle.ctf_protocol.specs.declared.questions.Window.{Window}
use Rattle.ctf_protocol.specs.declared.requests.DraftStep.TheVariants.{Add, Update, Discard}

-- the shape of a type in a slot, if it exists
abbrev pub shape_in : Slot → TypeNum → Result Shape Fault
shape_in s t = shape_of (space_type (space_in (open_of s)) t.0)

-- a question that needs only a type's number
abbrev pub of_type : PlainQuestion → TypeNum → Slot → Result Answer Fault
of_type question t s = slot_answered (OfType t (ask.Plain question)) s

-- a type's own fields
pub record TypesAreAsked : Type 0 where
  pub kind : (s : Slot) (t : TypeNum) → of_type plain.Kind t s
      ≡ as_fields kind_fields (on_shape kind_answered (shape_in s t))
  pub args : (s : Slot) (t : TypeNum) → of_type plain.Args t s
      ≡ as_fields signature_fields (on_shape signature_answered (shape_in s t))
  pub array : (s : Slot) (t : TypeNum) → of_type plain.Array t s
      ≡ as_fields array_fields (on_shape array_answered (shape_in s t))
  pub encoding : (s : Slot) (t : TypeNum) → of_type plain.Encoding t s
      ≡ as_fields encoding_fields (on_shape encoding_answered (shape_in s t))
  pub members : (s : Slot) (t : TypeNum) (w : Window) → slot_answered (OfType t (ask.Members w)) s
      ≡ as_fields (member_fields w) (on_shape members_answered (shape_in s t))
  pub enumerators : (s : Slot) (t : TypeNum) (w : Window)
      → slot_answered (OfType t (ask.Enumerators w)) s
      ≡ as_fields (enumerator_fields w) (on_shape enumerators_answered (shape_in s t))

-- figures of a type; for a number that names none, 0 included, there are none
pub record FiguresAreAsked : Type 0 where
  pub reference_is : (s : Slot) (t : TypeNum) → of_type plain.Reference t s
      ≡ as_fields type_fields (reference (space_in (open_of s)) t.0)
  pub resolve : (s : Slot) (t : TypeNum) → of_type plain.Resolve t s
      ≡ as_fields type_fields (resolved_answered (space_in (open_of s)) t.0)
  pub size : (s : Slot) (t : TypeNum) → of_type plain.Size t s
      ≡ as_fields size_fields (size_answered (space_in (open_of s)) t.0)
  pub align : (s : Slot) (t : TypeNum) → of_type plain.Align t s
      ≡ as_fields align_fields (align_answered (space_in (open_of s)) t.0)
  pub name : (s : Slot) (t : TypeNum) → of_type plain.Name t s
      ≡ as_fields name_fields (name_answered (space_in (open_of s)) t.0)
  pub pointer : (s : Slot) (t : TypeNum) → of_type plain.Pointer t s
      ≡ as_fields type_fields (pointer_answered (space_in (open_of s)) t.0)
  pub path : (s : Slot) (t : TypeNum) (names : List (List ℕ))
      → slot_answered (OfType t (ask.Path names)) s
      ≡ as_fields position_fields (path_answered (space_in (open_of s)) names t.0)
  pub show : (s : Slot) (t : TypeNum) (memory : List ℕ) (offset : ℕ)
      → slot_answered (OfType t (ask.Show memory offset)) s
      ≡ as_fields value_fields (value_answered (space_in (open_of s)) memory offset t.0)

-- look-ups, symbols and labels
pub record WholesAreAsked : Type 0 where
  pub find : (s : Slot) (text : List ℕ) → slot_answered (OfSlot (whole.Find text)) s
      ≡ as_fields type_fields (lookup (space_in (open_of s)) text)
  pub symbol : (s : Slot) (name : List ℕ) → slot_answered (OfSlot (whole.Symbol name)) s
      ≡ as_fields symbol_fields (symbol_found (own_in (open_of s)) name)
  pub object : (s : Slot) (n : ℕ) → slot_answered (OfSlot (whole.Object n)) s
      ≡ as_fields type_fields (object_of (own_in (open_of s)) n)
  pub function : (s : Slot) (n : ℕ) → slot_answered (OfSlot (whole.Function n)) s
      ≡ as_fields signature_fields (function_of (own_in (open_of s)) n)
  pub label : (s : Slot) (name : List ℕ) → slot_answered (OfSlot (whole.Label name)) s
      ≡ as_fields last_fields (label_of (own_in (open_of s)) name)

-- steps of a draft, new drafts, and the refusals of an import
pub record StepsAreMade : Type 0 where
  pub type : (s : Slot) (name : List ℕ) (root : Bool) (kind : NewKind)
      → slot_step (Add (add.Type name root kind)) s ≡ slot_stepped (under (codes "t")) s
      (type_added (record { name = name; root = root; body = asked_body kind }) (open_of s))
  pub member : (s : Slot) (t : TypeNum) (name : List ℕ) (tnum : TypeNum) (offset : Option ℕ)
      → slot_step (Add (add.Member t name tnum offset)) s
      ≡ slot_stepped (under (codes "offset")) s (member_added t.0 name tnum.0 offset (open_of s))
  pub enumerator : (s : Slot) (t : TypeNum) (name : List ℕ) (value : ℤ)
      → slot_step (Add (add.Enumerator t name value)) s ≡ slot_stepped unsaid s
      (enumerator_added t.0 (record { name = name; value = value }) (open_of s))
  pub label : (s : Slot) (name : List ℕ) (last : ℕ) → slot_step (Add (add.Label name last)) s
      ≡ slot_stepped unsaid s (label_added (record { name = name; last = last }) (open_of s))
  pub update : (s : Slot) → slot_step Update s
      ≡ slot_stepped (under (codes "types")) s (step_update (open_of s))
  pub discard : (s : Slot) → slot_step Discard s
      ≡ slot_stepped (under (codes "types")) s (discard_step (open_of s))
  pub create : (n : ℕ) (above : Option Kept) (asked : Created) → created_slot n above asked
      ≡ slot_made n (created above asked.parname asked.parlabel (model_made above asked))
  pub import : (child parent : Slot) (d p : ℕ) (state : State) → slot_at d state.slots ≡ Some child
      → slot_at p state.slots ≡ Some parent → imports d p state
      ≡ refused_by (import_refusal (open_of child) (open_of parent)) state
      (within_quota
      (grants [] (record state { slots = slots_with_parent d parent.kept state.slots })) state)
