-- A question of a session among all libraries, with a reply that carries its own number.
use Rattle.std.proofs.Common.{◌≡◌, ◌<◌, ℕ, List, length, Bool, true, false, Result, refl, ap, subst, ◌⊎◌, inl, inr}
use Rattle.std.specs.Prelude.{Vec}
use Rattle.std.specs.declared.alloc.Global.{Global}
use Rattle.ctf_library.specs.Telling.{makes_text}
use Rattle.ctf_protocol.specs.answers.Answers.{Answer, Reply}
use Rattle.ctf_protocol.specs.lines.ReplyLines.{reply_line}
use Rattle.ctf_protocol.specs.sessions.Runs.{Steps, IsGranted, IsRefused, no_memory}
use Rattle.ctf_protocol.specs.sessions.State.{State}
use Rattle.ctf_protocol.specs.sessions.SlotQuestions.{answer_to}
use Rattle.ctf_protocol.specs.sessions.Quiet.{MayAnswer}
use Rattle.ctf_model.specs.declared.faults.Fault.{Fault}
use Rattle.ctf_protocol.specs.declared.questions.Question.{Question}
use Rattle.ctf_protocol.specs.declared.requests.Request.{Request}
use Rattle.ctf_protocol.specs.declared.requests.Request.TheVariants.{Asks}
use Rattle.ctf_wire.specs.Room.{Replies}
use Rattle.ctf_wire.specs.ServingAs.{AnswersAs}

abbrev reply_to : ℕ → Result Answer Fault → Reply
reply_to s outcome = record { session = s; outcome = outcome }

stays : (old : ℕ → State) (s : ℕ) (request : Request) (reply : Reply) → IsGranted old s request reply old ⊎ IsRefused old s reply old → Steps old s request reply old
stays old s request reply own = record { own = own; others = λ other ne. refl }

-- the line of the answer was written, or that of out of memory
abbrev Wrote : ℕ → Result Answer Fault → Vec ℕ Global → Vec ℕ Global → Type 0
Wrote own result before after =
    Replies before (reply_line (reply_to own result)) after
    ⊎ (Replies before (reply_line (no_memory own)) after × (131072 < length (reply_line (reply_to own result))))

abbrev pub Happened : (ℕ → State) → ℕ → ℕ → Request → Vec ℕ Global → Vec ℕ Global → Type 0
Happened old s own request before after =
    (written : List ℕ) × AnswersAs old s own request written old × Replies before written after

-- a text is to be made, which may run out of memory
text_step : (old : ℕ → State) (s own d : ℕ) (q : Question) (result : Result Answer Fault) (before after : Vec ℕ Global) → makes_text q ≡ true → MayAnswer (answer_to d q (old s)) result → Wrote own result before after
    → Happened old s own (Asks d q) before after
text_step old s own d q result before after made may (inr line) =
    (reply_line (no_memory own), record { reply = no_memory s; said = refl; steps = stays old s (Asks d q) (no_memory s) (inr (refl, refl)); granted = inr (inl made) }, line.0)
text_step old s own d q result before after made (inl said) (inl line) =
    (reply_line (reply_to own result), record { reply = reply_to s result; said = refl; steps = stays old s (Asks d q) (reply_to s result) (inl (ap (reply_to s) said, refl)); granted = inr (inl made) }, line)
text_step old s own d q result before after made (inr none) (inl line) =
    (reply_line (reply_to own result), record { reply = reply_to s result; said = refl; steps = stays old s (Asks d q) (reply_to s result) (inr (ap (reply_to s) none, refl)); granted = inr (inl made) }, line)

-- the answer is lent; only a long reply may run out of memory
lent_step : (old : ℕ → State) (s own d : ℕ) (q : Question) (result : Result Answer Fault) (before after : Vec ℕ Global) → result ≡ answer_to d q (old s) → Wrote own result before after → Happened old s own (Asks d q) before after
lent_step old s own d q result before after said (inl line) =
    let granted : IsGranted old s (Asks d q) (reply_to s result) old = (ap (reply_to s) said, refl) in
    (reply_line (reply_to own result), record { reply = reply_to s result; said = refl; steps = stays old s (Asks d q) (reply_to s result) (inl granted); granted = inl granted }, line)
lent_step old s own d q result before after said (inr line) =
    let long = subst (λ (r : Result Answer Fault). 131072 < length (reply_line (reply_to own r))) said line.1 in
    (reply_line (no_memory own), record { reply = no_memory s; said = refl; steps = stays old s (Asks d q) (no_memory s) (inr (refl, refl)); granted = inr (inr long) }, line.0)

-- whichever line was written
pub question_step : (old : ℕ → State) (s own d : ℕ) (q : Question) (result : Result Answer Fault) (before after : Vec ℕ Global) → MayAnswer (answer_to d q (old s)) result
    → (makes_text q ≡ false → result ≡ answer_to d q (old s)) → Wrote own result before after → Happened old s own (Asks d q) before after
question_step old s own d q result before after may lent wrote = by_text (makes_text q) refl
  where
    by_text : (t : Bool) → makes_text q ≡ t → Happened old s own (Asks d q) before after
    by_text true made = text_step old s own d q result before after made may wrote
    by_text false none = lent_step old s own d q result before after (lent none) wrote
