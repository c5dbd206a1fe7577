-- Answers about a type, and which questions take memory. Source: ours.
use Rattle.std.specs.Prelude.{◌≡◌, ℕ, Bool, true, false, Result}
use Rattle.ctf_library.specs.declared.answering.TypeAnswer.{TypeAnswer}
use Rattle.ctf_library.specs.declared.answering.TypeAnswer.TheVariants.{Lent, Name, Value}
use Rattle.ctf_protocol.specs.answers.Questions.{answer_of}
use Rattle.ctf_model.specs.declared.faults.Fault.{Fault}
use Rattle.ctf_model.specs.format.Term.{Term}
use Rattle.ctf_model.specs.spaces.Space.{Space}
use Rattle.ctf_protocol.specs.declared.questions.Question.{Question}
use Rattle.ctf_protocol.specs.declared.questions.Question.TheVariants.{OfType, OfSlot, OfHeld}
use Rattle.ctf_protocol.specs.declared.questions.PlainQuestion.TheVariants as plain
use Rattle.ctf_protocol.specs.declared.questions.TypeQuestion.{TypeQuestion}
use Rattle.ctf_protocol.specs.declared.questions.TypeQuestion.TheVariants as about

-- the answer to a question, or a request for the text that answers it
abbrev pub IsTypeAnswer : TypeQuestion → Space → ℕ → Result Term Fault → TypeAnswer → Type 0
IsTypeAnswer question s t x (Lent answer) = answer ≡ answer_of question s t x
IsTypeAnswer question s t x Name = question ≡ about.Plain plain.Name
IsTypeAnswer question s t x (Value memory offset) = question ≡ about.Show memory.now offset

-- the answer is a text that is made for it
abbrev pub makes_text_on : TypeQuestion → Bool
makes_text_on (about.Plain plain.Name) = true
makes_text_on (about.Show memory offset) = true
makes_text_on _ = false

-- the same for any question
abbrev pub makes_text : Question → Bool
makes_text (OfType t question) = makes_text_on question
makes_text (OfSlot question) = false
makes_text (OfHeld question) = false
