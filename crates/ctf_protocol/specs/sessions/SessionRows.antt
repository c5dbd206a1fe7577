-- Worked rows of sessions: replies, the requests of lines, and whole outputs. The values were
-- worked out by hand.
use Rattle.std.specs.Prelude.{◌≡◌, ℕ, List, [], ◌∷◌, take, drop, None, Result, Ok, Err, codes}
use Rattle.ctf_model.specs.spaces.Kept.{as_kept}
use Rattle.ctf_protocol.specs.answers.Answers.{Answer, Reply, says}
use Rattle.ctf_protocol.specs.answers.Answers as answers
use Rattle.ctf_protocol.specs.lines.Ask.{ask}
use Rattle.ctf_protocol.specs.lines.Lines.{all_lines}
use Rattle.ctf_protocol.specs.lines.Output.{Mark, out}
use Rattle.ctf_protocol.specs.lines.Output as marks
use Rattle.ctf_protocol.specs.lines.ReplyLines.{fault_line, reply_line}
use Rattle.ctf_protocol.specs.sessions.Runs.{Given, private_state, private_replies}
use Rattle.ctf_protocol.specs.sessions.State.{empty_state}
use Rattle.ctf_model.specs.declared.faults.Fault.{Fault}
use Rattle.ctf_model.specs.declared.data_model.DataModel.TheVariants.{Lp64}
use Rattle.ctf_protocol.specs.declared.requests.ListName.TheVariants.{Ctf}
use Rattle.ctf_protocol.specs.declared.requests.Request.{Request}
use Rattle.ctf_protocol.specs.declared.requests.Request.TheVariants.{Changes, Asks}
use Rattle.ctf_protocol.specs.declared.requests.Change.TheVariants.{Part, Open, Reset}
use Rattle.ctf_protocol.specs.declared.questions.Question.TheVariants.{OfType}
use Rattle.ctf_protocol.specs.declared.questions.PlainQuestion.TheVariants as simple
use Rattle.ctf_protocol.specs.declared.questions.TypeQuestion.TheVariants as about
use Rattle.ctf_model.specs.format.Rows.{ctf_alone, fault, int_bytes}

-- ---- a session

abbrev pub given_request : Request → Given
given_request request = record { request = request; found = None }

-- a question for the kind of a type in a slot
abbrev pub kind_asked : ℕ → ℕ → Request
kind_asked d t = Asks d (OfType (record { 0 = t }) (about.Plain simple.Kind))

-- a session's requests, newest first: it stages an int in two parts, opens it, asks about types,
-- and closes it
abbrev pub questions : List Given
questions =
    given_request (kind_asked 1 2) ∷ given_request (kind_asked 2 1) ∷ given_request (kind_asked 1 1)
    ∷ given_request (Changes (Open Lp64))
    ∷ given_request (Changes (Part Ctf (drop 40 int_bytes)))
    ∷ given_request (Changes (Part Ctf (take 40 int_bytes))) ∷ []

abbrev pub reply_of : Result Answer Fault → Reply
reply_of outcome = record { session = 0; outcome = outcome }

pub record SessionRuns : Type 0 where
  pub replies : private_replies empty_state (given_request (Changes Reset) ∷ questions)
      ≡ reply_of (Ok []) ∷ reply_of (Err (fault 24 0)) ∷ reply_of (Err (fault 49 0))
      ∷ reply_of (Ok (says (codes "kind") (answers.word (codes "integer")) ∷ []))
      ∷ reply_of (Ok (says (codes "d") (answers.number 1)
      ∷ says (codes "types") (answers.number 1) ∷ []))
      ∷ reply_of (Ok (says (codes "length") (answers.number 53) ∷ []))
      ∷ reply_of (Ok (says (codes "length") (answers.number 40) ∷ [])) ∷ []
  pub opened : private_state empty_state questions
      ≡ record empty_state {
        slots = record {
          number = 1;
          kept = as_kept (ctf_alone int_bytes);
          parent = None;
          draft = None;
        }
            ∷ [];
        next = 2;
      }
  pub reset : private_state empty_state (given_request (Changes Reset) ∷ questions) ≡ empty_state
  pub refused : private_replies empty_state (given_request (Changes (Open Lp64)) ∷ [])
      ≡ reply_of (Err (fault 1 0)) ∷ []

-- ---- lines

abbrev pub answers_of : ℕ → Result Answer Fault → List ℕ
answers_of s outcome = reply_line (record { session = s; outcome = outcome })

pub record LinesSay : Type 0 where
  pub length : answers_of 7 (Ok (says (codes "length") (answers.number 53) ∷ []))
      ≡ codes "{\"ok\":{\"length\":53},\"s\":7}\n"
  pub opened :
      answers_of 7 (Ok (says (codes "d") (answers.number 1)
      ∷ says (codes "types") (answers.number 20) ∷ []))
      ≡ codes "{\"ok\":{\"d\":1,\"types\":20},\"s\":7}\n"
  pub kind : answers_of 7 (Ok (says (codes "kind") (answers.word (codes "integer")) ∷ []))
      ≡ codes "{\"ok\":{\"kind\":\"integer\"},\"s\":7}\n"
  pub done : answers_of 7 (Ok []) ≡ codes "{\"ok\":{},\"s\":7}\n"
  pub refusal : answers_of 7 (Err (fault 49 0))
      ≡ codes "{\"fault\":{\"code\":49,\"name\":\"NoSlot\",\"place\":0},\"s\":7}\n"
  pub last_session : answers_of 4294967295 (Ok []) ≡ codes "{\"ok\":{},\"s\":4294967295}\n"
  pub at_place : fault_line 0 (fault 13 36)
      ≡ codes "{\"fault\":{\"code\":13,\"name\":\"BadName\",\"place\":36},\"s\":0}\n"
  pub cut : all_lines (codes "ab\n\nc") ≡ codes "ab" ∷ [] ∷ codes "c" ∷ []
  pub ended : all_lines (codes "ab\n") ≡ codes "ab" ∷ []
  pub none : all_lines [] ≡ []

-- ---- the requests of lines

pub record LinesAsk : Type 0 where
  pub reset : ask (codes "{\"s\":7,\"op\":\"reset\"}") ≡ Ok (7, Changes Reset)
  pub opens : ask (codes " {\"op\":\"open\", \"s\":4294967295, \"x\":[]}")
      ≡ Ok (4294967295, Changes (Open Lp64))
  pub kind : ask (codes "{\"s\":1,\"op\":\"kind\",\"d\":2,\"t\":65535}")
      ≡ Ok (1, kind_asked 2 65535)
  pub part : ask (codes "{\"s\":1,\"op\":\"part\",\"section\":\"ctf\",\"bytes\":\"F1cf\"}")
      ≡ Ok (1, Changes (Part Ctf (0xf1 ∷ 0xcf ∷ [])))
  pub not_json : ask [] ≡ Err (0, fault 57 0)
  pub no_object : ask (codes "5") ≡ Err (0, fault 58 0)
  pub no_session : ask (codes "{\"s\":0,\"op\":\"reset\"}") ≡ Err (0, fault 58 0)
  pub no_word : ask (codes "{\"s\":7,\"op\":\"rest\"}") ≡ Err (7, fault 58 0)
  pub great_type : ask (codes "{\"s\":7,\"op\":\"kind\",\"d\":2,\"t\":65536}") ≡ Err (7, fault 58 0)
  pub odd_digits : ask (codes "{\"s\":7,\"op\":\"part\",\"section\":\"ctf\",\"bytes\":\"f1c\"}")
      ≡ Err (7, fault 58 0)

-- ---- the whole output

-- two sessions alternate; one line runs out of memory, and so does reading another, and a line
-- without a request
pub record OutputIs : Type 0 where
  pub written : out (λ s. empty_state) []
      (codes "{\"s\":1,\"op\":\"part\",\"section\":\"ctf\",\"bytes\":\"f1cf\"}"
      ∷ codes "{\"s\":2,\"op\":\"part\",\"section\":\"ctf\",\"bytes\":\"00\"}"
      ∷ codes "{\"s\":1,\"op\":\"reset\"}" ∷ codes "{\"s\":1,\"op\":\"reset\"}"
      ∷ codes "{\"s\":1,\"op\":\"part\",\"section\":\"ctf\",\"bytes\":\"02\"}" ∷ [])
      (marks.answered ∷ marks.answered ∷ marks.refused ∷ marks.unread ∷ [])
      ≡ codes "{\"ok\":{\"length\":2},\"s\":1}\n" ∷ codes "{\"ok\":{\"length\":1},\"s\":2}\n"
      ∷ codes "{\"fault\":{\"code\":0,\"name\":\"Memory\",\"place\":0},\"s\":1}\n"
      ∷ codes "{\"fault\":{\"code\":0,\"name\":\"Memory\",\"place\":0},\"s\":0}\n"
      ∷ codes "{\"ok\":{\"length\":3},\"s\":1}\n" ∷ []
  pub marked : out (λ s. empty_state) [] (codes "5" ∷ codes "{\"s\":3,\"op\":\"rest\"}" ∷ [])
      (marks.refused ∷ marks.refused ∷ [])
      ≡ codes "{\"fault\":{\"code\":0,\"name\":\"Memory\",\"place\":0},\"s\":0}\n"
      ∷ codes "{\"fault\":{\"code\":0,\"name\":\"Memory\",\"place\":0},\"s\":3}\n" ∷ []
