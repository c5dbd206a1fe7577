-- The answer to a question. Source: libctf(3LIB), ctf_type_kind, ctf_member_iter, ctf_enum_iter,
-- ctf_func_args, ctf_array_info, ctf_type_encoding, ctf_type_reference, ctf_type_resolve,
-- ctf_type_size, ctf_type_align, ctf_type_lname, ctf_type_pointer; the form of answers is ours.
use Rattle.std.specs.Prelude.{ℕ, ◌++◌, List, [], ◌∷◌, length, map, take, drop, Option, Some, None, Result, Ok, Err, codes}
use Rattle.std.specs.Option.{option_map}
use Rattle.ctf_protocol.specs.answers.Answers.{Answer, Item, says, may_say, lists, entry, number, signed, truth, word, text, bare, object}
use Rattle.ctf_model.specs.figures.Figures.{align, referred_type, resolved_type, size}
use Rattle.ctf_model.specs.names.Lookups.{pointer_to}
use Rattle.ctf_model.specs.names.KindNames.{name_of_kind, name_of_tag}
use Rattle.ctf_model.specs.figures.Paths.{Position, path}
use Rattle.ctf_model.specs.format.Shown.{ArrayParts, EncodingParts, Facts, facts, is_variadic, list_length, named_arguments}
use Rattle.ctf_model.specs.spaces.Space.{Space, space_type}
use Rattle.ctf_model.specs.format.Term.{Member, Enumerator, Term}
use Rattle.ctf_model.specs.names.TypeNames.{spelled_name}
use Rattle.ctf_model.specs.values.Values.{value_text}
use Rattle.ctf_model.specs.declared.faults.Fault.{Fault}
use Rattle.ctf_model.specs.declared.kinds.Kind.{Kind}
use Rattle.ctf_model.specs.symbols.Entries.{Signature}
use Rattle.ctf_model.specs.opened.Questions.{array_answered, encoding_answered, enumerators_answered, kind_answered, members_answered, signature_answered}
use Rattle.ctf_protocol.specs.declared.questions.PlainQuestion.{PlainQuestion}
use Rattle.ctf_protocol.specs.declared.questions.PlainQuestion.TheVariants as plain
use Rattle.ctf_protocol.specs.declared.questions.TypeQuestion.{TypeQuestion}
use Rattle.ctf_protocol.specs.declared.questions.TypeQuestion.TheVariants as ask
use Rattle.ctf_protocol.specs.declared.questions.Window.{Window}

-- ---- answers, field by field

abbrev pub kind_fields : Kind → Answer
kind_fields kind = says (codes "kind") (word (name_of_kind kind)) ∷ []

-- a type without its list
abbrev pub record_fields : Facts → Answer
record_fields x =
    says (codes "kind") (word (name_of_kind x.shape.kind))
    ∷ says (codes "name") (text x.name)
    ∷ says (codes "root") (truth x.root)
    ∷ (may_say (codes "size") (option_map number x.shape.size)
    ++ (may_say (codes "tag") (option_map (λ tag. word (name_of_tag tag)) x.shape.declares)
    ++ (may_say (codes "type") (option_map number x.shape.reference)
    ++ says (codes "vlen") (number (list_length x.shape.behind)) ∷ [])))

-- the first `count` items, or all
abbrev pub at_most : {A : Type 0} → Option ℕ → List A → List A
at_most None xs = xs
at_most (Some count) xs = take count xs

-- the items of a window
abbrev pub window_of : {A : Type 0} → Window → List A → List A
window_of window xs = at_most window.count (drop window.from xs)

-- some items of a list, and their total number
abbrev pub list_fields : List ℕ → Window → List Item → Answer
list_fields key window items =
    lists key (window_of window items) ∷ says (codes "total") (number (length items)) ∷ []

abbrev pub member_item : Member → Item
member_item m =
    object (entry (codes "name") (text m.name) ∷ entry (codes "offset") (number m.offset)
    ∷ entry (codes "type") (number m.tnum) ∷ [])

abbrev pub member_fields : Window → List Member → Answer
member_fields window items = list_fields (codes "members") window (map member_item items)

abbrev pub enumerator_item : Enumerator → Item
enumerator_item e =
    object (entry (codes "name") (text e.name) ∷ entry (codes "value") (signed e.value) ∷ [])

abbrev pub enumerator_fields : Window → List Enumerator → Answer
enumerator_fields window items =
    list_fields (codes "enumerators") window (map enumerator_item items)

abbrev pub number_item : ℕ → Item
number_item n = bare (number n)

-- the return type and arguments of a function
abbrev pub argument_fields : ℕ → List ℕ → Answer
argument_fields ret args =
    lists (codes "args") (map number_item (named_arguments args))
    ∷ says (codes "return") (number ret) ∷ says (codes "varargs") (truth (is_variadic args)) ∷ []

abbrev pub signature_fields : Signature → Answer
signature_fields f = argument_fields f.ret f.args

abbrev pub array_fields : ArrayParts → Answer
array_fields a =
    says (codes "contents") (number a.contents) ∷ says (codes "count") (number a.count)
    ∷ says (codes "index") (number a.index) ∷ []

abbrev pub encoding_fields : EncodingParts → Answer
encoding_fields e =
    says (codes "bits") (number e.bits) ∷ says (codes "encoding") (number e.encoding)
    ∷ says (codes "offset") (number e.offset) ∷ []

-- the number of a type
abbrev pub type_fields : ℕ → Answer
type_fields t = says (codes "t") (number t) ∷ []

-- a size in bytes
abbrev pub size_fields : ℕ → Answer
size_fields n = says (codes "size") (number n) ∷ []

abbrev pub align_fields : ℕ → Answer
align_fields n = says (codes "align") (number n) ∷ []

-- a name, as C spells it
abbrev pub name_fields : List ℕ → Answer
name_fields name = says (codes "name") (text name) ∷ []

-- the text of a value
abbrev pub value_fields : List ℕ → Answer
value_fields shown = says (codes "text") (text shown) ∷ []

-- the offset of a member in bits, and its type
abbrev pub position_fields : Position → Answer
position_fields at =
    says (codes "offset") (number at.offset) ∷ says (codes "t") (number at.tnum) ∷ []

-- ---- questions on types

-- the answer for a value, or its fault
abbrev pub as_fields : {A : Type 0} → (A → Answer) → Result A Fault → Result Answer Fault
as_fields say (Err fault) = Err fault
as_fields say (Ok a) = Ok (say a)

-- the answer to a question that needs only the type's number, for a type with these facts
abbrev pub plain_answered : PlainQuestion → Space → ℕ → Facts → Result Answer Fault
plain_answered plain.Kind s t x = as_fields kind_fields (kind_answered x.shape)
plain_answered plain.Record s t x = Ok (record_fields x)
plain_answered plain.Args s t x = as_fields signature_fields (signature_answered x.shape)
plain_answered plain.Array s t x = as_fields array_fields (array_answered x.shape)
plain_answered plain.Encoding s t x = as_fields encoding_fields (encoding_answered x.shape)
plain_answered plain.Reference s t x = as_fields type_fields (referred_type x.shape)
plain_answered plain.Resolve s t x = as_fields type_fields (resolved_type s t)
plain_answered plain.Size s t x = as_fields size_fields (size s t)
plain_answered plain.Align s t x = as_fields align_fields (align s t)
plain_answered plain.Name s t x = as_fields name_fields (spelled_name s t)
plain_answered plain.Pointer s t x = as_fields type_fields (pointer_to s t)

-- the answer to any question about such a type
abbrev pub facts_answer : TypeQuestion → Space → ℕ → Facts → Result Answer Fault
facts_answer (ask.Plain question) s t x = plain_answered question s t x
facts_answer (ask.Members window) s t x =
    as_fields (member_fields window) (members_answered x.shape)
facts_answer (ask.Enumerators window) s t x =
    as_fields (enumerator_fields window) (enumerators_answered x.shape)
facts_answer (ask.Path names) s t x = as_fields position_fields (path s t names)
facts_answer (ask.Show memory offset) s t x = as_fields value_fields (value_text s memory t offset)

-- the same, or the fault if the number names no type
abbrev pub answer_of : TypeQuestion → Space → ℕ → Result Term Fault → Result Answer Fault
answer_of question s t (Ok x) = facts_answer question s t (facts x)
answer_of question s t (Err fault) = Err fault

-- the answer to a question about type `t`
abbrev pub type_answered : TypeQuestion → Space → ℕ → Result Answer Fault
type_answered question s t = answer_of question s t (space_type s t)
