-- The line of a reply: compact JSON, its keys in byte order, and a newline. Source: ours.
use Rattle.std.specs.Prelude.{ℕ, ◌+◌, ◌++◌, nat_le, Bool, true, false, List, [], ◌∷◌, length, map, Result, Ok, Err, codes, decimal, if◌then◌else◌}
use Rattle.std.specs.List.{concat}
use Rattle.ctf_protocol.specs.answers.Answers.{Answer, Single, AnswerField, Item, Value, Field, Reply, says}
use Rattle.ctf_protocol.specs.answers.Answers as answers
use Rattle.ctf_model.specs.rules.FaultNames.{name_of_fault}
use Rattle.ctf_model.specs.rules.Refusals.{placeless}
use Rattle.ctf_protocol.specs.lines.Text.{text_of, hex_of}
use Rattle.ctf_model.specs.dumps.Texts.{with_commas, signed_decimal}
use Rattle.ctf_model.specs.declared.faults.Fault.{Fault}
use Rattle.ctf_model.specs.declared.faults.TheConstants.Fault.{LONG_REPLY}

abbrev pub truth : Bool → List ℕ
truth true = codes "true"
truth false = codes "false"

-- ---- values and fields

abbrev pub quote : List ℕ → List ℕ
quote w = concat (codes "\"" ∷ w ∷ codes "\"" ∷ [])

abbrev pub single_text : Single → List ℕ
single_text (answers.number n) = decimal n
single_text (answers.signed i) = signed_decimal i
single_text (answers.truth b) = truth b
single_text (answers.word w) = quote w
single_text (answers.text name) = quote (text_of name)
single_text (answers.bytes bs) = quote (hex_of bs)

abbrev pub key_text : List ℕ → List ℕ
key_text key = concat (codes "\"" ∷ key ∷ codes "\":" ∷ [])

abbrev pub entry_text : AnswerField → List ℕ
entry_text e = key_text e.key ++ single_text e.value

abbrev pub object_text : List AnswerField → List ℕ
object_text entries = concat (codes "{" ∷ with_commas (map entry_text entries) ∷ codes "}" ∷ [])

abbrev pub item_text : Item → List ℕ
item_text (answers.bare value) = single_text value
item_text (answers.object entries) = object_text entries

abbrev pub list_text : List Item → List ℕ
list_text items = concat (codes "[" ∷ with_commas (map item_text items) ∷ codes "]" ∷ [])

abbrev pub json_text : Value → List ℕ
json_text (answers.one value) = single_text value
json_text (answers.many items) = list_text items

abbrev pub field_text : Field → List ℕ
field_text f = key_text f.key ++ json_text f.value

-- ---- answers and refusals

-- the line of an object under a key, for a session
abbrev pub object_line : List ℕ → ℕ → List Field → List ℕ
object_line under s fields =
    concat (codes "{\"" ∷ under ∷ codes "\":{" ∷ with_commas (map field_text fields)
    ∷ codes "},\"s\":" ∷ decimal s ∷ codes "}\n" ∷ [])

abbrev pub answer_line : ℕ → Answer → List ℕ
answer_line s fields = object_line (codes "ok") s fields

abbrev pub fault_fields : Fault → List Field
fault_fields f =
    says (codes "code") (answers.number f.code)
    ∷ says (codes "name") (answers.word (name_of_fault f.code))
    ∷ says (codes "place") (answers.number f.place) ∷ []

-- the line of a refusal
abbrev pub fault_line : ℕ → Fault → List ℕ
fault_line s f = object_line (codes "fault") s (fault_fields f)

-- ---- replies

-- the longest reply line, in bytes without its newline
abbrev pub longest_reply : ℕ
longest_reply = 4194304

-- the line, or a refusal if it is longer than a reply may be
unfoldable pub fitting_line : ℕ → List ℕ → List ℕ
fitting_line s line =
    if nat_le (length line) (longest_reply + 1) then line else fault_line s (placeless LONG_REPLY)

-- the line of an answer, or a refusal if it is too long
abbrev pub fitting_answer : ℕ → Answer → List ℕ
fitting_answer s answer = fitting_line s (answer_line s answer)

abbrev pub outcome_line : ℕ → Result Answer Fault → List ℕ
outcome_line s (Ok answer) = fitting_answer s answer
outcome_line s (Err f) = fault_line s f

abbrev pub reply_line : Reply → List ℕ
reply_line reply = outcome_line reply.session reply.outcome
