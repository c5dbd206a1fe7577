-- Worked rows for questions on types. The values were worked out by hand.
use Rattle.std.specs.Prelude.{◌≡◌, ℕ, ◌-◌, ◌^◌, ◌++◌, negsuc, pos, false, List, [], ◌∷◌, Some, None, Result, Ok, Err, codes}
use Rattle.ctf_model.specs.spaces.Kept.{as_kept}
use Rattle.ctf_protocol.specs.answers.Answers.{Answer, lists, says, number}
use Rattle.ctf_protocol.specs.lines.Ask.{ask}
use Rattle.ctf_model.specs.format.KindRows.{functions, structs, others}
use Rattle.ctf_protocol.specs.answers.Questions.{enumerator_item, record_fields, type_fields, size_fields, align_fields, position_fields}
use Rattle.ctf_protocol.specs.lines.ReplyLines.{reply_line}
use Rattle.ctf_model.specs.format.Rows.{ctf_alone, fault, int_bytes}
use Rattle.ctf_model.specs.format.Shown.{facts}
use Rattle.ctf_protocol.specs.sessions.State.{State, empty_state}
use Rattle.ctf_protocol.specs.sessions.Steps.{step}
use Rattle.ctf_model.specs.format.Term.{Body}
use Rattle.ctf_model.specs.format.Term as term
use Rattle.ctf_protocol.specs.lines.Text.{text_of, bytes_spelled_by}
use Rattle.ctf_model.specs.declared.faults.Fault.{Fault}
use Rattle.ctf_protocol.specs.declared.questions.Question.TheVariants.{OfType, OfSlot}
use Rattle.ctf_protocol.specs.declared.questions.SlotQuestion.TheVariants as whole
use Rattle.ctf_protocol.specs.declared.questions.TypeQuestion.{TypeQuestion}
use Rattle.ctf_protocol.specs.declared.questions.PlainQuestion.TheVariants as simple
use Rattle.ctf_protocol.specs.declared.questions.TypeQuestion.TheVariants as about
use Rattle.ctf_protocol.specs.declared.questions.Window.{Window}
use Rattle.ctf_protocol.specs.declared.requests.Change.TheVariants as change
use Rattle.ctf_protocol.specs.declared.requests.Request.{Request}
use Rattle.ctf_protocol.specs.declared.requests.Request.TheVariants.{Changes, Asks}

-- ---- answers

-- a session with this dictionary in slot 1
abbrev pub holding : List ℕ → State
holding ctf =
    record empty_state {
      slots = record { number = 1; kept = as_kept (ctf_alone ctf); parent = None; draft = None }
          ∷ [];
      next = 2;
    }

-- the reply line for session 0
abbrev pub answer_line : List ℕ → Request → List ℕ
answer_line ctf request = reply_line (step (holding ctf) request None).reply

-- a question about type `t` of slot 1
abbrev pub on : ℕ → TypeQuestion → Request
on t question = Asks 1 (OfType (record { 0 = t }) question)

-- a look-up of a name in slot 1
abbrev pub looked_up : List ℕ → Request
looked_up text = Asks 1 (OfSlot (whole.Find text))

-- all items
abbrev pub all_items : Window
all_items = record { from = 0; count = None }

abbrev pub items_from : ℕ → ℕ → Window
items_from from count = record { from = from; count = Some count }

pub record QuestionsAreAnswered : Type 0 where
  pub kind : answer_line structs (on 2 (about.Plain simple.Kind))
      ≡ codes "{\"ok\":{\"kind\":\"struct\"},\"s\":0}\n"
  pub one_argument : answer_line functions (on 1 (about.Plain simple.Args))
      ≡ codes "{\"ok\":{\"args\":[3],\"return\":3,\"varargs\":false},\"s\":0}\n"
  pub more_may_follow : answer_line functions (on 2 (about.Plain simple.Args))
      ≡ codes "{\"ok\":{\"args\":[3],\"return\":3,\"varargs\":true},\"s\":0}\n"
  pub no_function : answer_line functions (on 3 (about.Plain simple.Args))
      ≡ codes "{\"fault\":{\"code\":30,\"name\":\"WrongKind\",\"place\":0},\"s\":0}\n"
  pub no_type : answer_line functions (on 4 (about.Plain simple.Args))
      ≡ codes "{\"fault\":{\"code\":24,\"name\":\"NoType\",\"place\":0},\"s\":0}\n"
  pub no_slot : answer_line functions (Asks 2 (OfType (record { 0 = 4 }) (about.Plain simple.Args)))
      ≡ codes "{\"fault\":{\"code\":49,\"name\":\"NoSlot\",\"place\":0},\"s\":0}\n"
  pub all_members : answer_line structs (on 2 (about.Members all_items))
      ≡ codes "{\"ok\":{\"members\":[{\"name\":\"a\",\"offset\":0,\"type\":1},{\"name\":\"b\",\"offset\":32,\"type\":1}],\"total\":2},\"s\":0}\n"
  pub second_member : answer_line structs (on 2 (about.Members (items_from 1 9)))
      ≡ codes
      "{\"ok\":{\"members\":[{\"name\":\"b\",\"offset\":32,\"type\":1}],\"total\":2},\"s\":0}\n"
  pub no_members : answer_line structs (on 2 (about.Members (items_from 2 1)))
      ≡ codes "{\"ok\":{\"members\":[],\"total\":2},\"s\":0}\n"
  pub negative : answer_line others (on 6 (about.Enumerators all_items))
      ≡ codes "{\"ok\":{\"enumerators\":[{\"name\":\"A\",\"value\":-1}],\"total\":1},\"s\":0}\n"
  pub an_array : answer_line others (on 4 (about.Plain simple.Array))
      ≡ codes "{\"ok\":{\"contents\":2,\"count\":10,\"index\":1},\"s\":0}\n"
  pub a_float : answer_line others (on 2 (about.Plain simple.Encoding))
      ≡ codes "{\"ok\":{\"bits\":64,\"encoding\":2,\"offset\":0},\"s\":0}\n"
  pub a_struct : answer_line structs (on 2 (about.Plain simple.Record))
      ≡ codes "{\"ok\":{\"kind\":\"struct\",\"name\":\"\",\"root\":false,\"size\":8191,\"vlen\":2},\"s\":0}\n"
  pub a_pointer : answer_line others (on 3 (about.Plain simple.Reference))
      ≡ codes "{\"ok\":{\"t\":2},\"s\":0}\n"
  pub a_return : answer_line functions (on 1 (about.Plain simple.Reference))
      ≡ codes "{\"fault\":{\"code\":25,\"name\":\"NotReference\",\"place\":0},\"s\":0}\n"
  pub resolved : answer_line others (on 10 (about.Plain simple.Resolve))
      ≡ codes "{\"ok\":{\"t\":2},\"s\":0}\n"
  pub size : answer_line structs (on 2 (about.Plain simple.Size))
      ≡ codes "{\"ok\":{\"size\":8191},\"s\":0}\n"
  pub align : answer_line structs (on 2 (about.Plain simple.Align))
      ≡ codes "{\"ok\":{\"align\":4},\"s\":0}\n"
  pub incomplete : answer_line others (on 7 (about.Plain simple.Size))
      ≡ codes "{\"fault\":{\"code\":26,\"name\":\"Incomplete\",\"place\":0},\"s\":0}\n"
  pub no_size : answer_line structs (on 0 (about.Plain simple.Size))
      ≡ codes "{\"fault\":{\"code\":24,\"name\":\"NoType\",\"place\":0},\"s\":0}\n"
  pub name : answer_line others (on 10 (about.Plain simple.Name))
      ≡ codes "{\"ok\":{\"name\":\"const volatile A\"},\"s\":0}\n"
  pub no_name : answer_line structs (on 0 (about.Plain simple.Name))
      ≡ codes "{\"fault\":{\"code\":24,\"name\":\"NoType\",\"place\":0},\"s\":0}\n"
  pub pointer : answer_line others (on 2 (about.Plain simple.Pointer))
      ≡ codes "{\"ok\":{\"t\":3},\"s\":0}\n"
  pub pointer_behind : answer_line others (on 10 (about.Plain simple.Pointer))
      ≡ codes "{\"ok\":{\"t\":3},\"s\":0}\n"
  pub no_pointer : answer_line others (on 3 (about.Plain simple.Pointer))
      ≡ codes "{\"fault\":{\"code\":32,\"name\":\"NotFound\",\"place\":0},\"s\":0}\n"
  pub pointer_to_nothing : answer_line others (on 0 (about.Plain simple.Pointer))
      ≡ codes "{\"fault\":{\"code\":24,\"name\":\"NoType\",\"place\":0},\"s\":0}\n"
  pub found : answer_line structs (looked_up (codes "int")) ≡ codes "{\"ok\":{\"t\":1},\"s\":0}\n"
  pub not_found : answer_line structs (looked_up (codes "int *"))
      ≡ codes "{\"fault\":{\"code\":32,\"name\":\"NotFound\",\"place\":0},\"s\":0}\n"
  pub hidden : answer_line others (looked_up (codes "A"))
      ≡ codes "{\"fault\":{\"code\":32,\"name\":\"NotFound\",\"place\":0},\"s\":0}\n"
  pub no_name_at_all : answer_line structs (looked_up (codes " *"))
      ≡ codes "{\"fault\":{\"code\":33,\"name\":\"BadSyntax\",\"place\":0},\"s\":0}\n"
  pub found_nowhere : answer_line structs (Asks 2 (OfSlot (whole.Find [])))
      ≡ codes "{\"fault\":{\"code\":49,\"name\":\"NoSlot\",\"place\":0},\"s\":0}\n"
  pub path : answer_line structs (on 3 (about.Path (codes "b" ∷ [])))
      ≡ codes "{\"ok\":{\"offset\":4294967328,\"t\":1},\"s\":0}\n"
  pub no_step : answer_line structs (on 3 (about.Path []))
      ≡ codes "{\"ok\":{\"offset\":0,\"t\":3},\"s\":0}\n"
  pub no_member : answer_line structs (on 3 (about.Path (codes "z" ∷ [])))
      ≡ codes "{\"fault\":{\"code\":28,\"name\":\"NoMember\",\"place\":0},\"s\":0}\n"
  pub not_aggregate : answer_line structs (on 3 (about.Path (codes "b" ∷ codes "a" ∷ [])))
      ≡ codes "{\"fault\":{\"code\":29,\"name\":\"NotAggregate\",\"place\":1},\"s\":0}\n"
  pub nothing_staged : answer_line int_bytes (Changes change.Check)
      ≡ codes "{\"fault\":{\"code\":1,\"name\":\"TooShort\",\"place\":0},\"s\":0}\n"

-- ---- requests and their lines

abbrev pub line_of : Answer → List ℕ
line_of answer = reply_line (record { session = 7; outcome = Ok answer })

-- the line of a type without its list
abbrev pub record_line : List ℕ → Body → List ℕ
record_line name body =
    line_of (record_fields (facts (record { name = name; root = false; body = body })))

-- a question of session 1 about type 3 of slot 2
abbrev pub asks : TypeQuestion → Result (ℕ × Request) (ℕ × Fault)
asks question = Ok (1, Asks 2 (OfType (record { 0 = 3 }) question))

abbrev pub is_refused : Result (ℕ × Request) (ℕ × Fault)
is_refused = Err (1, fault 58 0)

-- a line with the word `find` and these additional fields
abbrev pub find_line : List ℕ → List ℕ
find_line fields = codes "{\"s\":1,\"op\":\"find\",\"d\":2" ++ (fields ++ codes "}")

pub record QuestionsAreLines : Type 0 where
  pub window : ask (codes "{\"s\":1,\"op\":\"members\",\"d\":2,\"t\":3,\"from\":4,\"count\":5}")
      ≡ Ok (1, Asks 2 (OfType (record { 0 = 3 }) (about.Members (items_from 4 5))))
  pub no_window : ask (codes "{\"s\":1,\"op\":\"members\",\"d\":2,\"t\":3}")
      ≡ Ok (1, Asks 2 (OfType (record { 0 = 3 }) (about.Members all_items)))
  pub null_window : ask (codes "{\"s\":1,\"op\":\"enumerators\",\"d\":2,\"t\":3,\"from\":null}")
      ≡ Err (1, fault 58 0)
  pub great_count : ask (codes "{\"s\":1,\"op\":\"members\",\"d\":2,\"t\":3,\"count\":4294967296}")
      ≡ Err (1, fault 58 0)
  pub resolve : ask (codes "{\"s\":1,\"op\":\"resolve\",\"d\":2,\"t\":3}")
      ≡ asks (about.Plain simple.Resolve)
  pub size : ask (codes "{\"s\":1,\"op\":\"size\",\"d\":2,\"t\":3}")
      ≡ asks (about.Plain simple.Size)
  pub align : ask (codes "{\"s\":1,\"op\":\"align\",\"d\":2,\"t\":3,\"names\":7}")
      ≡ asks (about.Plain simple.Align)
  pub name : ask (codes "{\"s\":1,\"op\":\"name\",\"d\":2,\"t\":3}")
      ≡ asks (about.Plain simple.Name)
  pub pointer : ask (codes "{\"s\":1,\"op\":\"pointer\",\"d\":2,\"t\":3}")
      ≡ asks (about.Plain simple.Pointer)
  pub find : ask (find_line (codes ",\"text\":\"struct \\\\x41 *\",\"t\":7"))
      ≡ Ok (1, Asks 2 (OfSlot (whole.Find (codes "struct A *"))))
  pub find_nothing : ask (find_line (codes ",\"text\":\"\""))
      ≡ Ok (1, Asks 2 (OfSlot (whole.Find [])))
  pub find_newline : ask (find_line (codes ",\"text\":\"\\n\"")) ≡ is_refused
  pub find_number : ask (find_line (codes ",\"text\":1")) ≡ is_refused
  pub find_absent : ask (find_line []) ≡ is_refused
  pub no_type : ask (codes "{\"s\":1,\"op\":\"size\",\"d\":2}") ≡ Err (1, fault 58 0)
  pub check : ask (codes "{\"s\":1,\"op\":\"check\"}") ≡ Ok (1, Changes change.Check)
  pub plain : text_of (codes "a~ ") ≡ codes "a~ "
  pub escaped : text_of (34 ∷ 92 ∷ 127 ∷ 10 ∷ []) ≡ codes "\\\\x22\\\\x5c\\\\x7f\\\\x0a"
  pub enumerators :
      line_of (lists (codes "enumerators")
      (enumerator_item (record { name = codes "A"; value = negsuc 0 })
      ∷ enumerator_item (record { name = []; value = pos 7 }) ∷ [])
      ∷ says (codes "total") (number 2) ∷ [])
      ≡ codes "{\"ok\":{\"enumerators\":[{\"name\":\"A\",\"value\":-1},{\"name\":\"\",\"value\":7}],\"total\":2},\"s\":7}\n"
  pub naming : record_line (codes "s") (term.pointer 3)
      ≡ codes "{\"ok\":{\"kind\":\"pointer\",\"name\":\"s\",\"root\":false,\"type\":3,\"vlen\":0},\"s\":7}\n"
  pub declaring : record_line [] (term.forward term.union_tag)
      ≡ codes "{\"ok\":{\"kind\":\"forward\",\"name\":\"\",\"root\":false,\"tag\":\"union\",\"vlen\":0},\"s\":7}\n"
  pub bare : record_line [] term.unknown
      ≡ codes "{\"ok\":{\"kind\":\"unknown\",\"name\":\"\",\"root\":false,\"vlen\":0},\"s\":7}\n"
  pub type_found : line_of (type_fields 5) ≡ codes "{\"ok\":{\"t\":5},\"s\":7}\n"
  pub greatest_size : line_of (size_fields (2 ^ 64 - 1))
      ≡ codes "{\"ok\":{\"size\":18446744073709551615},\"s\":7}\n"
  pub alignment : line_of (align_fields 4) ≡ codes "{\"ok\":{\"align\":4},\"s\":7}\n"
  pub position : line_of (position_fields (record { offset = 96; tnum = 1 }))
      ≡ codes "{\"ok\":{\"offset\":96,\"t\":1},\"s\":7}\n"

-- ---- escapes in names

-- a line with the word `path` and these additional fields
abbrev pub path_line : List ℕ → List ℕ
path_line fields = codes "{\"s\":1,\"op\":\"path\",\"d\":2,\"t\":3" ++ (fields ++ codes "}")

abbrev pub asks_path : List (List ℕ) → Result (ℕ × Request) (ℕ × Fault)
asks_path names = asks (about.Path names)

pub record PathsAreLines : Type 0 where
  pub two_names : ask (path_line (codes ",\"names\":[\"b\",\"i 1\"]"))
      ≡ asks_path (codes "b" ∷ codes "i 1" ∷ [])
  pub escapes : ask (path_line (codes ",\"names\":[\"\\\\x00z\",\"\\\\x5c\"]"))
      ≡ asks_path ((0 ∷ codes "z") ∷ (92 ∷ []) ∷ [])
  -- JSON's own escapes are decoded first
  pub escapes_of_json : ask (path_line (codes ",\"names\":[\"\\u0061\\u005cx41\"]"))
      ≡ asks_path (codes "aA" ∷ [])
  pub no_names : ask (path_line (codes ",\"names\":[]")) ≡ asks_path []
  pub empty_name : ask (path_line (codes ",\"names\":[\"\"]")) ≡ asks_path ([] ∷ [])
  pub upper_case : ask (path_line (codes ",\"names\":[\"\\\\x0A\"]")) ≡ is_refused
  pub lone_backslash : ask (path_line (codes ",\"names\":[\"\\\\\"]")) ≡ is_refused
  pub quote : ask (path_line (codes ",\"names\":[\"\\\"\"]")) ≡ is_refused
  pub newline : ask (path_line (codes ",\"names\":[\"\\n\"]")) ≡ is_refused
  pub no_list : ask (path_line (codes ",\"names\":\"b\"")) ≡ is_refused
  pub an_object : ask (path_line (codes ",\"names\":{\"b\":\"b\"}")) ≡ is_refused
  pub a_number : ask (path_line (codes ",\"names\":[\"b\",1]")) ≡ is_refused
  pub second_refused : ask (path_line (codes ",\"names\":[\"b\",\"\\\\\"]")) ≡ is_refused
  pub null_names : ask (path_line (codes ",\"names\":null")) ≡ is_refused
  pub absent : ask (path_line []) ≡ is_refused

-- ---- bytes that texts spell

pub record TextsSpell : Type 0 where
  pub nothing : bytes_spelled_by [] ≡ Some []
  pub plain : bytes_spelled_by (codes " a~") ≡ Some (codes " a~")
  pub first_and_last : bytes_spelled_by (codes "\\x00\\xffb") ≡ Some (0 ∷ 255 ∷ codes "b")
  pub plain_escaped : bytes_spelled_by (codes "\\x61") ≡ Some (codes "a")
  -- the result of an escape is not decoded again
  pub backslash : bytes_spelled_by (codes "\\x5cx41") ≡ Some (92 ∷ codes "x41")
  pub upper_case : bytes_spelled_by (codes "\\x0A") ≡ None
  pub upper_x : bytes_spelled_by (codes "\\X0a") ≡ None
  pub before_0 : bytes_spelled_by (codes "\\x0/") ≡ None
  pub after_9 : bytes_spelled_by (codes "\\x:0") ≡ None
  pub before_a : bytes_spelled_by (codes "\\x0`") ≡ None
  pub after_f : bytes_spelled_by (codes "\\xg0") ≡ None
  pub one_digit : bytes_spelled_by (codes "a\\x4") ≡ None
  pub no_digit : bytes_spelled_by (codes "\\x") ≡ None
  pub lone_backslash : bytes_spelled_by (codes "a\\") ≡ None
  pub two_backslashes : bytes_spelled_by (codes "\\\\x41") ≡ None
  pub another_escape : bytes_spelled_by (codes "\\n41") ≡ None
  pub quote : bytes_spelled_by (codes "a\"") ≡ None
  pub newline : bytes_spelled_by (10 ∷ []) ≡ None
  pub delete : bytes_spelled_by (127 ∷ []) ≡ None
  pub beyond_ascii : bytes_spelled_by (0xc3 ∷ 0xa9 ∷ []) ≡ None
