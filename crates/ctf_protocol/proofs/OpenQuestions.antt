-- A question about a type is answered if the type exists, else with the fault.
use Rattle.std.proofs.Common.{◌≡◌, ℕ, List, Result, Ok, Err, refl}
use Rattle.ctf_model.specs.declared.faults.Fault.{Fault}
use Rattle.ctf_model.specs.figures.Figures.{align, referred_by, resolved_type, size}
use Rattle.ctf_model.specs.figures.Paths.{path}
use Rattle.ctf_model.specs.format.Term.{Term}
use Rattle.ctf_model.specs.names.Lookups.{pointer_to}
use Rattle.ctf_model.specs.names.TypeNames.{spelled_name}
use Rattle.ctf_model.specs.opened.Questions.{array_answered, encoding_answered, enumerators_answered, if_there, kind_answered, members_answered, on_shape, shape_of, signature_answered}
use Rattle.ctf_model.specs.spaces.Space.{Space, space_type}
use Rattle.ctf_model.specs.values.Values.{value_text}
use Rattle.ctf_protocol.specs.answers.Questions.{align_fields, array_fields, as_fields, encoding_fields, enumerator_fields, kind_fields, member_fields, name_fields, position_fields, signature_fields, size_fields, type_fields, value_fields}
use Rattle.ctf_protocol.specs.answers.Questions.{answer_of}
use Rattle.ctf_protocol.specs.sessions.OpenLaws.{FiguresAreAsked, TypesAreAsked, WholesAreAsked}
use Rattle.ctf_protocol.specs.sessions.SlotQuestions.{slot_space}
use Rattle.ctf_protocol.specs.declared.questions.PlainQuestion.TheVariants as plain
use Rattle.ctf_protocol.specs.declared.questions.TypeQuestion.TheVariants as ask
use Rattle.ctf_protocol.specs.declared.questions.Window.{Window}

kind_as : (s : Space) (t : ℕ) (r : Result Term Fault) → answer_of (ask.Plain plain.Kind) s t r ≡ as_fields kind_fields (on_shape kind_answered (shape_of r))
kind_as s t (Ok x) = refl
kind_as s t (Err f) = refl

args_as : (s : Space) (t : ℕ) (r : Result Term Fault) → answer_of (ask.Plain plain.Args) s t r ≡ as_fields signature_fields (on_shape signature_answered (shape_of r))
args_as s t (Ok x) = refl
args_as s t (Err f) = refl

array_as : (s : Space) (t : ℕ) (r : Result Term Fault) → answer_of (ask.Plain plain.Array) s t r ≡ as_fields array_fields (on_shape array_answered (shape_of r))
array_as s t (Ok x) = refl
array_as s t (Err f) = refl

encoding_as : (s : Space) (t : ℕ) (r : Result Term Fault) → answer_of (ask.Plain plain.Encoding) s t r ≡ as_fields encoding_fields (on_shape encoding_answered (shape_of r))
encoding_as s t (Ok x) = refl
encoding_as s t (Err f) = refl

members_as : (w : Window) (s : Space) (t : ℕ) (r : Result Term Fault) → answer_of (ask.Members w) s t r ≡ as_fields (member_fields w) (on_shape members_answered (shape_of r))
members_as w s t (Ok x) = refl
members_as w s t (Err f) = refl

enumerators_as : (w : Window) (s : Space) (t : ℕ) (r : Result Term Fault) → answer_of (ask.Enumerators w) s t r ≡ as_fields (enumerator_fields w) (on_shape enumerators_answered (shape_of r))
enumerators_as w s t (Ok x) = refl
enumerators_as w s t (Err f) = refl

pub types_are_asked : TypesAreAsked
types_are_asked = record {
  kind = λ s t. kind_as (slot_space s) t.0 (space_type (slot_space s) t.0);
  args = λ s t. args_as (slot_space s) t.0 (space_type (slot_space s) t.0);
  array = λ s t. array_as (slot_space s) t.0 (space_type (slot_space s) t.0);
  encoding = λ s t. encoding_as (slot_space s) t.0 (space_type (slot_space s) t.0);
  members = λ s t w. members_as w (slot_space s) t.0 (space_type (slot_space s) t.0);
  enumerators = λ s t w. enumerators_as w (slot_space s) t.0 (space_type (slot_space s) t.0);
}

reference_as : (s : Space) (t : ℕ) (r : Result Term Fault) → answer_of (ask.Plain plain.Reference) s t r ≡ as_fields type_fields (referred_by r)
reference_as s t (Ok x) = refl
reference_as s t (Err f) = refl

resolve_as : (s : Space) (t : ℕ) (r : Result Term Fault) → answer_of (ask.Plain plain.Resolve) s t r ≡ as_fields type_fields (if_there (resolved_type s t) r)
resolve_as s t (Ok x) = refl
resolve_as s t (Err f) = refl

size_as : (s : Space) (t : ℕ) (r : Result Term Fault) → answer_of (ask.Plain plain.Size) s t r ≡ as_fields size_fields (if_there (size s t) r)
size_as s t (Ok x) = refl
size_as s t (Err f) = refl

align_as : (s : Space) (t : ℕ) (r : Result Term Fault) → answer_of (ask.Plain plain.Align) s t r ≡ as_fields align_fields (if_there (align s t) r)
align_as s t (Ok x) = refl
align_as s t (Err f) = refl

name_as : (s : Space) (t : ℕ) (r : Result Term Fault) → answer_of (ask.Plain plain.Name) s t r ≡ as_fields name_fields (if_there (spelled_name s t) r)
name_as s t (Ok x) = refl
name_as s t (Err f) = refl

pointer_as : (s : Space) (t : ℕ) (r : Result Term Fault) → answer_of (ask.Plain plain.Pointer) s t r ≡ as_fields type_fields (if_there (pointer_to s t) r)
pointer_as s t (Ok x) = refl
pointer_as s t (Err f) = refl

path_as : (names : List (List ℕ)) (s : Space) (t : ℕ) (r : Result Term Fault) → answer_of (ask.Path names) s t r ≡ as_fields position_fields (if_there (path s t names) r)
path_as names s t (Ok x) = refl
path_as names s t (Err f) = refl

show_as : (memory : List ℕ) (offset : ℕ) (s : Space) (t : ℕ) (r : Result Term Fault) → answer_of (ask.Show memory offset) s t r ≡ as_fields value_fields (if_there (value_text s memory t offset) r)
show_as memory offset s t (Ok x) = refl
show_as memory offset s t (Err f) = refl

pub figures_are_asked : FiguresAreAsked
figures_are_asked = record {
  reference_is = λ s t. reference_as (slot_space s) t.0 (space_type (slot_space s) t.0);
  resolve = λ s t. resolve_as (slot_space s) t.0 (space_type (slot_space s) t.0);
  size = λ s t. size_as (slot_space s) t.0 (space_type (slot_space s) t.0);
  align = λ s t. align_as (slot_space s) t.0 (space_type (slot_space s) t.0);
  name = λ s t. name_as (slot_space s) t.0 (space_type (slot_space s) t.0);
  pointer = λ s t. pointer_as (slot_space s) t.0 (space_type (slot_space s) t.0);
  path = λ s t names. path_as names (slot_space s) t.0 (space_type (slot_space s) t.0);
  show = λ s t memory offset. show_as memory offset (slot_space s) t.0 (space_type (slot_space s) t.0);
}

pub wholes_are_asked : WholesAreAsked
wholes_are_asked = record {
  find = λ s text. refl;
  symbol = λ s name. refl;
  object = λ s n. refl;
  function = λ s n. refl;
  label = λ s name. refl;
}
