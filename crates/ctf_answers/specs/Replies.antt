-- What lent replies show, and the replies to changes.
use Rattle.std.specs.Prelude.{ℕ, Result, Ok, Err}
use Rattle.ctf_protocol.specs.answers.Answers as answers
use Rattle.ctf_model.specs.declared.faults.Fault.{Fault}
use Rattle.ctf_answers.specs.Counts.{counts_view}
use Rattle.ctf_answers.specs.declared.counts.Counts.{Counts}
use Rattle.ctf_answers.specs.declared.replies.Reply.{Reply}

abbrev pub reply_of : Reply → answers.Reply
reply_of r = record { session = r.session; outcome = r.outcome }

abbrev pub change_answer : Result Counts Fault → Result answers.Answer Fault
change_answer (Ok counts) = Ok (counts_view counts)
change_answer (Err fault) = Err fault

-- the reply to a change
abbrev pub change_reply : ℕ → Result Counts Fault → answers.Reply
change_reply session outcome = record { session = session; outcome = change_answer outcome }

-- the same, not yet addressed to its session
abbrev pub unaddressed_reply : Result Counts Fault → answers.Reply
unaddressed_reply outcome = change_reply 0 outcome
