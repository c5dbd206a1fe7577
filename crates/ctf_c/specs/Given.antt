-- The results of C calls. Source: ours; the answers are those of libctf(3LIB).
use Rattle.std.specs.Prelude.{◌≡◌, ◌⊎◌, ◌+◌, ◌++◌, ℕ, ℤ, Bool, true, false, List, take, drop, length, Option, None, Some, Result, Ok, Err, slice_get, is_some, option_map, option_and_then, if◌then◌else◌}
use Rattle.ctf_check.specs.Stages.{fault_before_chains}
use Rattle.ctf_model.specs.declared.data_model.DataModel.{DataModel}
use Rattle.ctf_model.specs.declared.data_model.DataModel.TheVariants.{Lp64, Ilp32}
use Rattle.ctf_model.specs.declared.faults.Fault.{Fault}
use Rattle.ctf_model.specs.declared.faults.TheConstants.Fault.{FIXED_PARENT, NO_LABEL, NO_SLOT, NO_MEMBER, NO_PARENT, WRONG_KIND}
use Rattle.ctf_model.specs.declared.kinds.Kind.{Kind}
use Rattle.ctf_model.specs.declared.kinds.Kind.TheVariants.{KUnknown, KInteger, KFloat, KPointer, KArray, KFunction, KStruct, KUnion, KEnum, KForward, KTypedef, KVolatile, KConst, KRestrict}
use Rattle.ctf_model.specs.format.Shown.{ArrayParts, EncodingParts, Shape, arguments_in, array_in, encoding_in, enumerators_in, is_variadic, list_length, members_in, named_arguments, shape}
use Rattle.ctf_model.specs.figures.Paths.{Position}
use Rattle.ctf_model.specs.format.Dictionary.{Label}
use Rattle.ctf_model.specs.format.Lists.{Lists}
use Rattle.ctf_model.specs.format.Term.{Enumerator, Member, Tag, Term, struct_tag, union_tag, enum_tag}
use Rattle.ctf_model.specs.rules.Faults.{first_fault}
use Rattle.ctf_model.specs.rules.Refusals.{placeless, out_of_memory}
use Rattle.ctf_model.specs.spaces.Kept.{Kept, fault_over, kept_dictionary}
use Rattle.ctf_model.specs.symbols.Entries.{Signature}
use Rattle.ctf_model.specs.symbols.SymbolQuestions.{or_refused}
use Rattle.ctf_model.specs.opened.Open.{Open}
use Rattle.ctf_model.specs.opened.Steps.{Refuses, import_refusal}

-- ---- statuses

-- the status of a refusal; 0 means success
abbrev pub status_of : Fault → ℕ
status_of fault = fault.code + 1

-- a question to an open dictionary, if one is open
abbrev pub ask : {A : Type 0} → Option Open → (Open → Result A Fault) → Result A Fault
ask None answer = Err (placeless NO_SLOT)
ask (Some s) answer = answer s

-- the value with status 0; or the status of the refusal, with the output unchanged
abbrev pub Gives : {A : Type 0} → Result A Fault → ℕ → A → A → Type 0
Gives (Ok n) status old new = (status ≡ 0) × (new ≡ n)
Gives (Err fault) status old new = (status ≡ status_of fault) × (new ≡ old)

-- the position at the end of a path, and the step that was refused
pub record PathOut : Type 0 where
  pub offset : ℕ
  pub tnum : ℕ
  pub place : ℕ

-- the position, or the step that was refused
abbrev pub GivesPath : Result Position Fault → ℕ → PathOut → PathOut → Type 0
GivesPath (Ok at) status old new =
    (status ≡ 0) × (new ≡ record { offset = at.offset; tnum = at.tnum; place = old.place })
GivesPath (Err fault) status old new =
    (status ≡ status_of fault)
    × (new ≡ record { offset = old.offset; tnum = old.tnum; place = fault.place })

-- the same, where memory may run out
abbrev pub MayGivePath : Result Position Fault → ℕ → PathOut → PathOut → Type 0
MayGivePath answer status old new =
    GivesPath answer status old new ⊎ GivesPath (Err out_of_memory) status old new

-- ---- questions

-- the number of a kind in sys/ctf.h
abbrev pub number_of_kind : Kind → ℕ
number_of_kind KUnknown = 0
number_of_kind KInteger = 1
number_of_kind KFloat = 2
number_of_kind KPointer = 3
number_of_kind KArray = 4
number_of_kind KFunction = 5
number_of_kind KStruct = 6
number_of_kind KUnion = 7
number_of_kind KEnum = 8
number_of_kind KForward = 9
number_of_kind KTypedef = 10
number_of_kind KVolatile = 11
number_of_kind KConst = 12
number_of_kind KRestrict = 13

-- 1 for true, 0 for false
abbrev pub flag : Bool → ℕ
flag true = 1
flag false = 0

-- 1 for programs with 4-byte pointers, else 0
abbrev pub model_number : DataModel → ℕ
model_number Lp64 = 0
model_number Ilp32 = 1

-- the number of the kind that a forward declares
abbrev pub number_of_tag : Tag → ℕ
number_of_tag struct_tag = 6
number_of_tag union_tag = 7
number_of_tag enum_tag = 8

-- ---- functions of a program

-- the number of a function's named arguments, whether it is variadic, and its return type
pub record FunctionAnswer : Type 0 where
  pub arguments : ℕ
  pub varargs : ℕ
  pub ret : ℕ

abbrev pub function_answer : Result Signature Fault → Result FunctionAnswer Fault
function_answer (Ok f) =
    Ok (record {
      arguments = length (named_arguments f.args);
      varargs = flag (is_variadic f.args);
      ret = f.ret;
    })
function_answer (Err fault) = Err fault

-- ---- texts

-- some bytes written over the front of others, as far as they fit
abbrev pub written_over : List ℕ → List ℕ → List ℕ
written_over from to = take (length to) from ++ drop (length from) to

-- a text and its length
pub record TextOut : Type 0 where
  pub text : List ℕ
  pub len : ℕ

-- a text truncated to the caller's room, and its full length, as snprintf returns it
abbrev pub fit_text : List ℕ → TextOut → TextOut
fit_text text old = record { text = written_over text old.text; len = length text }

-- the text, truncated to the room, and its length; or the output unchanged
abbrev pub GivesText : Result (List ℕ) Fault → ℕ → TextOut → TextOut → Type 0
GivesText (Ok text) status old new = (status ≡ 0) × (new ≡ fit_text text old)
GivesText (Err fault) status old new = (status ≡ status_of fault) × (new ≡ old)

-- the same, where memory may run out
abbrev pub MayGiveText : Result (List ℕ) Fault → ℕ → TextOut → TextOut → Type 0
MayGiveText text status old new =
    GivesText text status old new ⊎ GivesText (Err out_of_memory) status old new

-- the same for bytes from an offset on, with their total number
abbrev pub GivesBytes : Result (List ℕ) Fault → ℕ → ℕ → TextOut → TextOut → Type 0
GivesBytes (Ok bytes) from status old new =
    (status ≡ 0)
    × (new ≡ record { text = written_over (drop from bytes) old.text; len = length bytes })
GivesBytes (Err fault) from status old new = (status ≡ status_of fault) × (new ≡ old)

-- a member with the length of its name, not the name
pub record MemberOut : Type 0 where
  pub offset : ℕ
  pub name_len : ℕ
  pub tnum : ℕ

abbrev pub GivesMember : Result Member Fault → ℕ → List ℕ → List ℕ
    → MemberOut → MemberOut → Type 0
GivesMember (Ok m) status old new was is =
    (status ≡ 0) × (new ≡ written_over m.name old)
    × (is ≡ record { offset = m.offset; name_len = length m.name; tnum = m.tnum })
GivesMember (Err fault) status old new was is =
    (status ≡ status_of fault) × (new ≡ old) × (is ≡ was)

abbrev pub GivesEnumerator : Result Enumerator Fault → ℕ → TextOut → TextOut → ℤ → ℤ → Type 0
GivesEnumerator (Ok e) status old new was is =
    (status ≡ 0) × (new ≡ fit_text e.name old) × (is ≡ e.value)
GivesEnumerator (Err fault) status old new was is =
    (status ≡ status_of fault) × (new ≡ old) × (is ≡ was)

-- a label with the length of its name, not the name
pub record LabelOut : Type 0 where
  pub name_len : ℕ
  pub last : ℕ

abbrev pub GivesLabel : Result Label Fault → ℕ → List ℕ → List ℕ → LabelOut → LabelOut → Type 0
GivesLabel (Ok x) status old new was is =
    (status ≡ 0) × (new ≡ written_over x.name old)
    × (is ≡ record { name_len = length x.name; last = x.last })
GivesLabel (Err fault) status old new was is =
    (status ≡ status_of fault) × (new ≡ old) × (is ≡ was)

-- ---- opening and importing

-- a list, if present
abbrev pub list_if : Bool → List ℕ → Option (List ℕ)
list_if true list = Some list
list_if false list = None

abbrev pub model_if : Bool → DataModel
model_if true = Ilp32
model_if false = Lp64

-- the change was made; or the status and place give the refusal, and the open dictionary stays
abbrev pub Changes : Option Fault → ℕ → ℕ → ℕ → Option Open → Option Open → Option Open
    → Type 0
Changes fault status was place old changed new =
    ((status ≡ 0) × (fault ≡ None) × (place ≡ was) × (new ≡ changed))
    ⊎ ((f : Fault) × (Refuses fault f × (status ≡ status_of f) × (place ≡ f.place) × (new ≡ old)))

-- lists opened without a parent
abbrev pub open_alone : Lists → DataModel → Open
open_alone lists model =
    record { own = record { lists = lists; model = model }; parent = None; draft = None }

-- out of memory is only reported if no rule before those of chains is broken
abbrev pub IsLate : Lists → Fault → Type 0
IsLate lists f = (fault_before_chains lists ≡ None) ⊎ (first_fault lists ≡ Some f)

-- a dictionary was opened in place of the previous one
abbrev pub Opens : Kept → ℕ → ℕ → ℕ → Option Open → Option Open → Type 0
Opens kept status was place old new =
    ((status ≡ 0) × (first_fault kept.lists ≡ None) × (place ≡ was)
    × (new ≡ Some (record { own = kept; parent = None; draft = None })))
    ⊎ ((f : Fault) × (Refuses (first_fault kept.lists) f × IsLate kept.lists f
    × (status ≡ status_of f) × (place ≡ f.place) × (new ≡ old)))

-- a parent was imported
abbrev pub Imports : Option Open → Option Open → ℕ → ℕ → ℕ → Option Open → Type 0
Imports None parent status was place new =
    (status ≡ status_of (placeless NO_SLOT)) × (place ≡ was) × (new ≡ None)
Imports (Some child) None status was place new =
    (status ≡ status_of (placeless NO_SLOT)) × (place ≡ was) × (new ≡ Some child)
Imports (Some child) (Some parent) status was place new =
    Changes (import_refusal child parent) status was place (Some child)
    (Some (record { own = child.own; parent = Some parent.own; draft = None })) new
