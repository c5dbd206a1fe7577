use Rattle.ctf_broker.specs.Table.{library_at}
use Rattle.ctf_wire.proofs.QuestionSteps.{question_step}
use Rattle.ctf_wire.proofs.serving.answer_question.Goals as goal

pub returns : goal.returns
returns c =
    question_step (library_at c.args.broker.now) c.args.session c.args.own _ _ c.answer-outcome.result c.args.out.now c.append_answer.new.out c.answer-outcome.ensures.answer c.answer-outcome.ensures.lent c.append_answer.ensures
