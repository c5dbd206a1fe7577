-- The effect of serving all sessions' lines on a broker and a sink. Source: ours.
use Rattle.std.specs.Prelude.{◌≡◌, ◌≢◌, ℕ, ◌≤◌, List, [], ◌∷◌, ◌++◌, length, true, Option, None, Some, Result, Ok, Err, ◌⊎◌}
use Rattle.ctf_lines.specs.Memory.{takes_memory}
use Rattle.ctf_protocol.specs.lines.Ask.{ask}
use Rattle.ctf_protocol.specs.lines.Lines.{longest_line}
use Rattle.ctf_protocol.specs.lines.Output.{Mark, answered, calls_after, calls_made, out, refused, unread}
use Rattle.ctf_model.specs.rules.Refusals.{placeless}
use Rattle.ctf_protocol.specs.lines.ReplyLines.{fault_line, reply_line}
use Rattle.ctf_protocol.specs.sessions.Runs.{Call, Steps, no_memory, own_state}
use Rattle.ctf_protocol.specs.sessions.State.{State}
use Rattle.ctf_model.specs.declared.faults.Fault.{Fault}
use Rattle.ctf_model.specs.declared.faults.TheConstants.Fault.{LONG_LINE}
use Rattle.ctf_protocol.specs.answers.Answers.{Reply}
use Rattle.ctf_protocol.specs.declared.requests.Request.{Request}
use Rattle.ctf_laws.specs.Good.{AreGood}
use Rattle.ctf_laws.specs.Replied.{AreReplies}
use Rattle.ctf_wire.specs.Endings.{EndsBy}
use Rattle.ctf_wire.specs.Memory.{IsGrantedUnless, MayRefuse}
use Rattle.ctf_wire.specs.Served.{Answers, BeginsWith, Sent, SentFront}
use Rattle.ctf_wire.specs.Streams.{Pulled, Pushed}
use Rattle.ctf_broker.specs.Table.{Libraries, library_at}
use Rattle.ctf_wire.specs.declared.run_faults.RunFault.{RunFault}

-- the request in a line; none stands for a line that was too long to be stored
abbrev pub ask_stored : Option (List ℕ) → Result (ℕ × Request) (ℕ × Fault)
ask_stored None = Err (0, placeless LONG_LINE)
ask_stored (Some line) = ask line

-- all libraries are unchanged
abbrev pub AllStay : (ℕ → State) → (ℕ → State) → Type 0
AllStay old new = (s : ℕ) → new s ≡ old s

-- a line was answered: with its refusal, or with the reply to its request's step
abbrev pub Reacts : (ℕ → State) → Result (ℕ × Request) (ℕ × Fault) → List ℕ → (ℕ → State) → Type 0
Reacts old (Err refusal) written new = (written ≡ fault_line refusal.0 refusal.1) × AllStay old new
Reacts old (Ok said) written new =
    (reply : Reply) × (written ≡ reply_line reply) × Steps old said.0 said.1 reply new
    × IsGrantedUnless old said.0 said.1 reply new

-- reading this line may run out of memory: it is not too long, and has a backslash or a list, or
-- its request stores a text
abbrev pub MayWant : Option (List ℕ) → Type 0
MayWant None = ⊥
MayWant (Some line) = (length line ≤ longest_line) × (takes_memory line ≡ true)

-- one line among all sessions' libraries: reading it ran out of memory, or it was answered
abbrev pub LineSteps : (ℕ → State) → Option (List ℕ) → List ℕ → (ℕ → State) → Type 0
LineSteps old line written new =
    (MayWant line × (written ≡ reply_line (no_memory 0)) × AllStay old new)
    ⊎ Reacts old (ask_stored line) written new

-- one line given to a broker
abbrev pub BrokerStep : Libraries → Option (List ℕ) → List ℕ → Libraries → Type 0
BrokerStep old line written new = LineSteps (library_at old) line written (library_at new)

-- a line is marked `unread` only if reading it may need memory, and `refused` only if its request
-- may need memory
abbrev pub IsMarked : (ℕ → State) → List ℕ → Result (ℕ × Request) (ℕ × Fault) → Mark → Type 0
IsMarked libraries line said unread = MayWant (Some line)
IsMarked libraries line said refused = MayRefuse libraries said
IsMarked libraries line said answered = Unit {0}

-- the same for each line, with the libraries at its time
abbrev pub AreMarked : (ℕ → State) → List Call → List (List ℕ) → List Mark → Type 0
AreMarked start calls (line ∷ lines) (mark ∷ marks) =
    IsMarked (own_state start calls) line (ask line) mark
    × AreMarked start (calls_after calls mark (ask line)) lines marks
AreMarked start calls _ _ = Unit {0}

-- These lines are served: each has the reply of its session's own run, and each session's library
-- is that of its own run. If all libraries were good, they still are, and each reply is correct for
-- the library at its time: questions are answered from the one dictionary that the slot's lists
-- denote, malformed lists are refused for the first broken rule, and an update's bytes denote the
-- draft's content.
pub record RunsAlone (old : Libraries) (lines replies : List (List ℕ))
    (new : Libraries) : Type 0 where
  pub marks : List Mark
  pub marked : AreMarked (library_at old) [] lines marks
  pub replies_are : replies ≡ out (library_at old) [] lines marks
  pub libraries_are : (s : ℕ)
      → library_at new s ≡ own_state (library_at old) (calls_made [] lines marks) s
  pub right : AreGood (library_at old) → AreReplies (library_at old) lines marks replies
  pub good : AreGood (library_at old) → AreGood (library_at new)

-- a broker answers lines as each session's own run does
abbrev pub ServesAlone : Type 0
ServesAlone =
    (old new : Libraries) (lines replies : List (List ℕ)) → Answers BrokerStep old lines replies new
    → RunsAlone old lines replies new

-- these lines are served, and the replies are sent
pub record WritesOut (old : Libraries) (lines : List (List ℕ)) (new : Libraries)
    (before after : Pushed) : Type 0 where
  pub replies : List (List ℕ)
  pub runs : RunsAlone old lines replies new
  pub sent : Sent before replies after

-- the first of these lines are served; at least `sure` of their replies are sent, and a prefix of
-- the last ones, which waited
pub record BreaksOff (old : Libraries) (sure : ℕ) (lines : List (List ℕ)) (new : Libraries)
    (before after : Pushed) : Type 0 where
  pub answered : List (List ℕ)
  pub first : BeginsWith lines answered
  pub replies : List (List ℕ)
  pub waiting : List (List ℕ)
  pub runs : RunsAlone old answered (replies ++ waiting) new
  pub enough : sure ≤ length replies
  pub sent : SentFront before replies waiting after

-- the effect of a run of at most `reads` reads on all libraries, the source and the sink
abbrev pub ServesTo : ℕ → Libraries → Libraries → Pulled → Pulled → Pushed → Pushed
    → Result (Unit {0}) RunFault → Type 0
ServesTo reads old new source_old source_new sink_old sink_new result =
    EndsBy (λ lines. WritesOut old lines new sink_old sink_new)
    (λ sure lines. BreaksOff old sure lines new sink_old sink_new)
    reads source_old source_new sink_new result
