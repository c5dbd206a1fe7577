-- The request that a line contains: for each word its fields with their ranges, and the request
-- made of them. A field that is missing, of another type or out of range makes the line a bad
-- request. What is JSON is serde_json's reading of it; all else is ours. Needs LineFields and
-- AskAdditions.
use Rattle.std.specs.Prelude.{ℕ, List, length, is_none, unwrap_or, Option, None, Some, Result, Ok, Err, nat_lt, codes, if◌then◌else◌}
use Rattle.std.specs.Str.{is_utf8}
use Rattle.serde_json.specs.Data.{Data}
use Rattle.serde_json.specs.Find.{get, as_array}
use Rattle.serde_json.specs.Read.{read}
use Rattle.ctf_protocol.specs.sessions.Creations.{creation}
use Rattle.ctf_protocol.specs.lines.Lines.{longest_line}
use Rattle.ctf_protocol.specs.sessions.Publications.{is_publication_name}
use Rattle.ctf_model.specs.spaces.Kept.{default_model}
use Rattle.ctf_protocol.specs.words.ModelNames.{model_named}
use Rattle.ctf_model.specs.declared.data_model.DataModel.{DataModel}
use Rattle.ctf_model.specs.rules.Refusals.{placeless}
use Rattle.ctf_model.specs.declared.faults.Fault.{Fault}
use Rattle.ctf_model.specs.declared.faults.TheConstants.Fault.{NOT_JSON, BAD_REQUEST, LONG_LINE}
use Rattle.ctf_protocol.specs.declared.requests.ListName.{ListName}
use Rattle.ctf_protocol.specs.declared.requests.ListName.TheVariants.{Ctf, Sym, Str}
use Rattle.ctf_protocol.specs.declared.requests.Request.{Request}
use Rattle.ctf_protocol.specs.declared.requests.Request.TheVariants.{Changes, Asks}
use Rattle.ctf_protocol.specs.declared.requests.Change.TheVariants as change
use Rattle.ctf_protocol.specs.declared.requests.DraftStep.TheVariants as draft
use Rattle.ctf_protocol.specs.declared.questions.Question.TheVariants.{OfType, OfSlot, OfHeld}
use Rattle.ctf_protocol.specs.declared.questions.HeldQuestion.{HeldQuestion}
use Rattle.ctf_protocol.specs.declared.questions.HeldQuestion.TheVariants as holding
use Rattle.ctf_protocol.specs.declared.questions.SlotQuestion.{SlotQuestion}
use Rattle.ctf_protocol.specs.declared.questions.SlotQuestion.TheVariants as whole
use Rattle.ctf_protocol.specs.declared.questions.TypeQuestion.{TypeQuestion}
use Rattle.ctf_protocol.specs.declared.questions.TypeQuestion.TheVariants as about
use Rattle.ctf_protocol.specs.declared.words.Word.{Word}
use Rattle.ctf_protocol.specs.declared.words.Word.TheVariants as word
use Rattle.ctf_protocol.specs.words.Words.{words, word_named, is_text}
use Rattle.ctf_protocol.specs.lines.LineFields.{◌▹◌, ◌▸◌, number_in, text_in, bytes_spelled, slot_under, slot_in, type_asked, names_spelled, not_too_many_names, name_under, name_or_empty, window_asked}
use Rattle.ctf_protocol.specs.lines.AskAdditions.{addition_asked}

-- ---- fields of some words

-- the staged list that a part belongs to
abbrev pub list_named : List ℕ → Option ListName
list_named w =
    if is_text w (codes "ctf") then Some Ctf
    else if is_text w (codes "sym") then Some Sym
    else if is_text w (codes "str") then Some Str
    else None

-- bytes given as hexadecimal digits
abbrev pub bytes_in : Data → Option (List ℕ)
bytes_in line = text_in (codes "bytes") line ▹ bytes_spelled

-- the data model, if one is stated
abbrev pub model_asked : Data → Option (Option DataModel)
model_asked line =
    if is_none (get (codes "model") line) then Some None
    else (text_in (codes "model") line ▹ model_named) ▸ λ model. Some model

-- the slot of the parent, if one is given
abbrev pub parent_asked : Data → Option (Option ℕ)
parent_asked line =
    if is_none (get (codes "parent") line) then Some None
    else slot_under (codes "parent") line ▸ λ d. Some d

-- the name of a publication is plain text, without escapes
abbrev pub publication_named : List ℕ → Option (List ℕ)
publication_named name = if is_publication_name name then Some name else None

abbrev pub publication_asked : Data → Option (List ℕ)
publication_asked line = text_in (codes "name") line ▹ publication_named

-- the session to take from; any session, the operator's 0 included
abbrev pub owner_asked : Data → Option ℕ
owner_asked line = number_in 0 4294967295 (codes "owner") line

abbrev pub names_asked : Data → Option (List (List ℕ))
names_asked line =
    ((get (codes "names") line ▹ as_array) ▹ names_spelled) ▹ not_too_many_names

-- the number of a symbol
abbrev pub symbol_asked : Data → Option ℕ
symbol_asked line = number_in 0 4294967295 (codes "sym") line

-- ---- changes: the fields of each, and the request made of them

abbrev pub part_asked : Data → Option Request
part_asked line =
    (text_in (codes "section") line ▹ list_named) ▹ λ list.
    bytes_in line ▸ λ bytes.
    Changes (change.Part list bytes)

abbrev pub open_asked : Data → Option Request
open_asked line =
    model_asked line ▸ λ model.
    Changes (change.Open (unwrap_or model default_model))

abbrev pub import_asked : Data → Option Request
import_asked line =
    slot_in line ▹ λ d.
    slot_under (codes "parent") line ▸ λ parent.
    Changes (change.Import d parent)

abbrev pub close_asked : Data → Option Request
close_asked line =
    slot_in line ▸ λ d.
    Changes (change.Close d)

abbrev pub publish_asked : Data → Option Request
publish_asked line =
    slot_in line ▹ λ d.
    publication_asked line ▸ λ name.
    Changes (change.Publish d name)

abbrev pub withdraw_asked : Data → Option Request
withdraw_asked line =
    publication_asked line ▸ λ name.
    Changes (change.Withdraw name)

abbrev pub take_asked : Data → Option Request
take_asked line =
    owner_asked line ▹ λ owner.
    publication_asked line ▸ λ name.
    Changes (change.Take owner name)

abbrev pub create_asked : Data → Option Request
create_asked line =
    parent_asked line ▹ λ parent.
    name_or_empty (codes "parname") line ▹ λ parname.
    name_or_empty (codes "parlabel") line ▹ λ parlabel.
    model_asked line ▹ λ model.
    creation parent parname parlabel model ▸ λ created.
    Changes (change.Create created)

abbrev pub add_asked : Data → Option Request
add_asked line =
    slot_in line ▹ λ d.
    addition_asked line ▸ λ addition.
    Changes (change.Draft d (draft.Add addition))

abbrev pub update_asked : Data → Option Request
update_asked line =
    slot_in line ▸ λ d.
    Changes (change.Draft d draft.Update)

abbrev pub discard_asked : Data → Option Request
discard_asked line =
    slot_in line ▸ λ d.
    Changes (change.Draft d draft.Discard)

-- ---- questions: their own fields, then the slot and type

-- about a type of a slot
abbrev pub about_type : Option TypeQuestion → Data → Option Request
about_type question line =
    question ▹ λ q.
    slot_in line ▹ λ d.
    type_asked line ▸ λ t.
    Asks d (OfType t q)

-- about a slot as a whole
abbrev pub about_slot : Option SlotQuestion → Data → Option Request
about_slot question line =
    question ▹ λ q.
    slot_in line ▸ λ d.
    Asks d (OfSlot q)

-- about the dictionary in a slot
abbrev pub about_held : Option HeldQuestion → Data → Option Request
about_held question line =
    question ▹ λ q.
    slot_in line ▸ λ d.
    Asks d (OfHeld q)

-- the range of a dictionary's bytes: the first, and their greatest number
abbrev pub bytes_asked : Data → Option HeldQuestion
bytes_asked line =
    number_in 0 4294967295 (codes "from") line ▹ λ from.
    number_in 0 1048576 (codes "count") line ▸ λ count.
    holding.Bytes from count

-- the memory with the value, and the bit at which the value begins
abbrev pub show_asked : Data → Option TypeQuestion
show_asked line =
    bytes_in line ▹ λ memory.
    number_in 0 18446744073709551615 (codes "offset") line ▸ λ offset.
    about.Show memory offset

-- ---- words

-- the request of a word with its fields
abbrev pub asked_with : Data → Word → Option Request
asked_with line word.Part = part_asked line
asked_with line word.Check = Some (Changes change.Check)
asked_with line word.Open = open_asked line
asked_with line word.Clear = Some (Changes change.Clear)
asked_with line word.Reset = Some (Changes change.Reset)
asked_with line word.Close = close_asked line
asked_with line word.Import = import_asked line
asked_with line word.Publish = publish_asked line
asked_with line word.Withdraw = withdraw_asked line
asked_with line word.Take = take_asked line
asked_with line word.Create = create_asked line
asked_with line word.Add = add_asked line
asked_with line word.Update = update_asked line
asked_with line word.Discard = discard_asked line
asked_with line (word.Plain question) = about_type (Some (about.Plain question)) line
asked_with line word.Members = about_type (window_asked line ▸ about.Members) line
asked_with line word.Enumerators = about_type (window_asked line ▸ about.Enumerators) line
asked_with line word.Find = about_slot (name_under (codes "text") line ▸ whole.Find) line
asked_with line word.Path = about_type (names_asked line ▸ about.Path) line
asked_with line word.Show = about_type (show_asked line) line
asked_with line word.Symbol = about_slot (name_under (codes "name") line ▸ whole.Symbol) line
asked_with line word.Object = about_slot (symbol_asked line ▸ whole.Object) line
asked_with line word.Function = about_slot (symbol_asked line ▸ whole.Function) line
asked_with line word.Labels = about_slot (window_asked line ▸ whole.Labels) line
asked_with line word.Label = about_slot (name_under (codes "name") line ▸ whole.Label) line
asked_with line (word.Held question) = about_held (Some question) line
asked_with line word.Bytes = about_held (bytes_asked line) line

-- the word of a line
abbrev pub word_asked : Data → Option Word
word_asked line = text_in (codes "op") line ▹ λ w. word_named w words

abbrev pub request_asked : Data → Option Request
request_asked line = word_asked line ▹ asked_with line

-- ---- lines

abbrev pub or_bad_request : ℕ → Option Request → Result (ℕ × Request) (ℕ × Fault)
or_bad_request s None = Err (s, placeless BAD_REQUEST)
or_bad_request s (Some request) = Ok (s, request)

abbrev pub asked_by : Data → Option ℕ → Result (ℕ × Request) (ℕ × Fault)
asked_by line None = Err (0, placeless BAD_REQUEST)
asked_by line (Some s) = or_bad_request s (request_asked line)

abbrev pub value_asked : Option Data → Result (ℕ × Request) (ℕ × Fault)
value_asked None = Err (0, placeless NOT_JSON)
value_asked (Some line) = asked_by line (number_in 1 4294967295 (codes "s") line)

-- the JSON value of a line; bytes that are not UTF-8 are not JSON
abbrev pub json : List ℕ → Option Data
json line = if is_utf8 line then read line else None

-- the session and the request of a line; or its session (0 if unknown) and the refusal
unfoldable pub ask : List ℕ → Result (ℕ × Request) (ℕ × Fault)
ask line =
    if nat_lt longest_line (length line) then Err (0, placeless LONG_LINE)
    else value_asked (json line)
