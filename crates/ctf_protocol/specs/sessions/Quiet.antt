-- Requests that take no memory, and replies where memory may run out. Source: ours.
use Rattle.std.specs.Prelude.{◌≡◌, ◌⊎◌, Bool, true, false, Result, Err}
use Rattle.ctf_protocol.specs.answers.Answers.{Answer}
use Rattle.ctf_model.specs.rules.Refusals.{out_of_memory}
use Rattle.ctf_model.specs.declared.faults.Fault.{Fault}
use Rattle.ctf_protocol.specs.declared.questions.PlainQuestion.{PlainQuestion}
use Rattle.ctf_protocol.specs.declared.questions.PlainQuestion.TheVariants as plain
use Rattle.ctf_protocol.specs.declared.questions.TypeQuestion.{TypeQuestion}
use Rattle.ctf_protocol.specs.declared.questions.TypeQuestion.TheVariants as about
use Rattle.ctf_protocol.specs.declared.questions.Question.{Question}
use Rattle.ctf_protocol.specs.declared.questions.Question.TheVariants.{OfType, OfSlot, OfHeld}
use Rattle.ctf_protocol.specs.declared.questions.SlotQuestion.{SlotQuestion}
use Rattle.ctf_protocol.specs.declared.questions.SlotQuestion.TheVariants as whole
use Rattle.ctf_protocol.specs.declared.requests.Change.{Change}
use Rattle.ctf_protocol.specs.declared.requests.Change.TheVariants as change
use Rattle.ctf_protocol.specs.declared.requests.DraftStep.TheVariants.{Discard}

-- questions that take no memory
abbrev pub is_quiet_plain : PlainQuestion → Bool
is_quiet_plain plain.Kind = true
is_quiet_plain plain.Array = true
is_quiet_plain plain.Encoding = true
is_quiet_plain plain.Reference = true
is_quiet_plain plain.Resolve = true
is_quiet_plain plain.Size = true
is_quiet_plain plain.Align = true
is_quiet_plain plain.Pointer = true
is_quiet_plain _ = false

abbrev pub is_quiet_on : TypeQuestion → Bool
is_quiet_on (about.Plain question) = is_quiet_plain question
is_quiet_on _ = false

abbrev pub is_quiet_whole : SlotQuestion → Bool
is_quiet_whole (whole.Find written) = true
is_quiet_whole _ = false

abbrev pub is_quiet : Question → Bool
is_quiet (OfType t question) = is_quiet_on question
is_quiet (OfSlot question) = is_quiet_whole question
is_quiet (OfHeld question) = false

-- the answer to a question, or out of memory
abbrev pub MayAnswer : Result Answer Fault → Result Answer Fault → Type 0
MayAnswer said result = (result ≡ said) ⊎ (result ≡ Err out_of_memory)

-- changes that take no memory
abbrev pub is_quiet_change : Change → Bool
is_quiet_change change.Clear = true
is_quiet_change change.Reset = true
is_quiet_change (change.Withdraw name) = true
is_quiet_change (change.Close d) = true
is_quiet_change (change.Draft d Discard) = true
is_quiet_change _ = false
