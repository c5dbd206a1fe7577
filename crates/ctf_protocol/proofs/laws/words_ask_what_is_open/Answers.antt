use Rattle.ctf_protocol.proofs.OpenQuestions.{figures_are_asked, types_are_asked, wholes_are_asked}
use Rattle.ctf_protocol.proofs.OpenSteps.{steps_are_made}
use Rattle.ctf_protocol.proofs.laws.words_ask_what_is_open.Goals as goal

pub returns : goal.returns
returns c = record {
  types = types_are_asked;
  figures = figures_are_asked;
  wholes = wholes_are_asked;
  steps = steps_are_made;
}
