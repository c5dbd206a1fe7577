use Rattle.std.proofs.Common.{ap, inl, ◌∙◌}
use Rattle.ctf_protocol.specs.answers.Questions.{answer_of}
use Rattle.ctf_space.specs.SpaceView.{space_of}
use Rattle.ctf_library.proofs.answering.answer_on.Goals as goal

pub returns-in-Lent-clause-answer : goal.returns-in-Lent-clause-answer
returns-in-Lent-clause-answer c =
    let s = space_of c.args.space.now in
    inl (c.in-Lent.ensures ∙ ap (answer_of c.args.question.now s c.args.t.0) c.in_ok-found.ensures)

pub returns-in-Lent-clause-quiet : goal.returns-in-Lent-clause-quiet
returns-in-Lent-clause-quiet c =
    let s = space_of c.args.space.now in
    λ quiet. c.in-Lent.ensures ∙ ap (answer_of c.args.question.now s c.args.t.0) c.in_ok-found.ensures

pub returns-in-Lent-clause-lent : goal.returns-in-Lent-clause-lent
returns-in-Lent-clause-lent c =
    let s = space_of c.args.space.now in
    λ lent. c.in-Lent.ensures ∙ ap (answer_of c.args.question.now s c.args.t.0) c.in_ok-found.ensures
