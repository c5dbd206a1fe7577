-- Questions to an open dictionary: each gives the value or the fault. The form of the reply is left
-- to the caller. Source: libctf(3LIB), ctf_type_encoding, ctf_array_info, ctf_func_info,
-- ctf_member_iter, ctf_enum_iter, ctf_type_size, ctf_type_align, ctf_type_resolve,
-- ctf_type_pointer, ctf_type_lname, ctf_member_info, ctf_label_iter.
use Rattle.std.specs.Prelude.{ℕ, Bool, List, length, Result, Ok, Err, slice_get, option_map, option_and_then}
use Rattle.ctf_model.specs.declared.faults.Fault.{Fault}
use Rattle.ctf_model.specs.declared.faults.TheConstants.Fault.{NO_LABEL, NO_MEMBER, NO_PARENT, WRONG_KIND}
use Rattle.ctf_model.specs.declared.kinds.Kind.{Kind}
use Rattle.ctf_model.specs.figures.Figures.{align, resolved_type, size}
use Rattle.ctf_model.specs.figures.Paths.{Position, path}
use Rattle.ctf_model.specs.format.Dictionary.{Label}
use Rattle.ctf_model.specs.format.Shown.{ArrayParts, EncodingParts, Shape, arguments_in, array_in, encoding_in, enumerators_in, list_length, members_in, named_arguments, shape}
use Rattle.ctf_model.specs.format.Term.{Enumerator, Member, Tag, Term}
use Rattle.ctf_model.specs.names.Lookups.{pointer_to}
use Rattle.ctf_model.specs.names.TypeNames.{spelled_name}
use Rattle.ctf_model.specs.spaces.Kept.{kept_dictionary}
use Rattle.ctf_model.specs.spaces.Space.{Space, space_type}
use Rattle.ctf_model.specs.symbols.Entries.{Signature}
use Rattle.ctf_model.specs.symbols.SymbolQuestions.{or_refused}
use Rattle.ctf_model.specs.values.Values.{value_text}
use Rattle.ctf_model.specs.opened.Open.{Open}

-- ---- types

-- the shape of a type, if it exists
abbrev pub shape_of : Result Term Fault → Result Shape Fault
shape_of (Ok x) = Ok (shape x.body)
shape_of (Err fault) = Err fault

-- a question about the shape
abbrev pub on_shape : {A : Type 0} → (Shape → Result A Fault) → Result Shape Fault → Result A Fault
on_shape says (Ok x) = says x
on_shape says (Err fault) = Err fault

abbrev pub kind_answered : Shape → Result Kind Fault
kind_answered x = Ok x.kind

-- whether look-ups see the type, if it exists
abbrev pub root_answered : Result Term Fault → Result Bool Fault
root_answered (Ok x) = Ok x.root
root_answered (Err fault) = Err fault

-- what a forward declares
abbrev pub tag_answered : Shape → Result Tag Fault
tag_answered x = or_refused WRONG_KIND x.declares

-- the number of members, enumerators or arguments
abbrev pub length_answered : Shape → Result ℕ Fault
length_answered x = Ok (list_length x.behind)

abbrev pub encoding_answered : Shape → Result EncodingParts Fault
encoding_answered x = or_refused WRONG_KIND (encoding_in x.behind)

abbrev pub array_answered : Shape → Result ArrayParts Fault
array_answered x = or_refused WRONG_KIND (array_in x.behind)

-- return type and arguments of a function
abbrev pub signature_answered : Shape → Result Signature Fault
signature_answered x = or_refused WRONG_KIND
    (option_and_then (λ ret. option_map (λ args. record { ret = ret; args = args })
    (arguments_in x.behind)) x.reference)

abbrev pub members_answered : Shape → Result (List Member) Fault
members_answered x = or_refused WRONG_KIND (members_in x.behind)

abbrev pub enumerators_answered : Shape → Result (List Enumerator) Fault
enumerators_answered x = or_refused WRONG_KIND (enumerators_in x.behind)

-- maps an answer; a fault stays
abbrev pub answer_map : {A B : Type 0} → (A → B) → Result A Fault → Result B Fault
answer_map info (Ok a) = Ok (info a)
answer_map info (Err fault) = Err fault

-- the return type of a function
abbrev pub return_answered : Shape → Result ℕ Fault
return_answered x = answer_map (λ f. f.ret) (signature_answered x)

-- the item of a list at an index, if there is such a list
abbrev pub item_of : {A : Type 0} → ℕ → Result (List A) Fault → Result A Fault
item_of index (Ok items) = or_refused NO_MEMBER (slice_get items index)
item_of index (Err fault) = Err fault

abbrev pub member_answered : ℕ → Shape → Result Member Fault
member_answered index x = item_of index (members_answered x)

abbrev pub enumerator_answered : ℕ → Shape → Result Enumerator Fault
enumerator_answered index x = item_of index (enumerators_answered x)

abbrev pub argument_answered : ℕ → Shape → Result ℕ Fault
argument_answered index x = item_of index (or_refused WRONG_KIND (arguments_in x.behind))

-- ---- figures

-- an answer about a type, if it exists; for number 0 there is none
abbrev pub if_there : {A : Type 0} → Result A Fault → Result Term Fault → Result A Fault
if_there said (Ok x) = said
if_there said (Err fault) = Err fault

-- the size in bytes
abbrev pub size_answered : Space → ℕ → Result ℕ Fault
size_answered s t = if_there (size s t) (space_type s t)

abbrev pub align_answered : Space → ℕ → Result ℕ Fault
align_answered s t = if_there (align s t) (space_type s t)

-- the type that it resolves to
abbrev pub resolved_answered : Space → ℕ → Result ℕ Fault
resolved_answered s t = if_there (resolved_type s t) (space_type s t)

-- the least pointer to the type, or to what it resolves to
abbrev pub pointer_answered : Space → ℕ → Result ℕ Fault
pointer_answered s t = if_there (pointer_to s t) (space_type s t)

-- the name, as C spells it
abbrev pub name_answered : Space → ℕ → Result (List ℕ) Fault
name_answered s t = if_there (spelled_name s t) (space_type s t)

-- the position of a member of a member
abbrev pub path_answered : Space → List (List ℕ) → ℕ → Result Position Fault
path_answered s names t = if_there (path s t names) (space_type s t)

-- the text of a value of this type in memory, from a bit offset on
abbrev pub value_answered : Space → List ℕ → ℕ → ℕ → Result (List ℕ) Fault
value_answered s memory offset t = if_there (value_text s memory t offset) (space_type s t)

-- ---- the dictionary as a whole

-- the number of the parent's types
abbrev pub parent_types : Open → Result ℕ Fault
parent_types s = or_refused NO_PARENT (option_map (λ p. length (kept_dictionary p).terms) s.parent)

-- ---- functions of a program

-- the named argument at an index, from 0
abbrev pub named_answered : ℕ → Result Signature Fault → Result ℕ Fault
named_answered index (Ok f) = or_refused NO_MEMBER (slice_get (named_arguments f.args) index)
named_answered index (Err fault) = Err fault

-- ---- labels

-- the label at an index, from 0
abbrev pub label_at : ℕ → List Label → Result Label Fault
label_at index labels = or_refused NO_LABEL (slice_get labels index)
