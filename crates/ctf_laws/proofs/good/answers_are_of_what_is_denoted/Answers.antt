use Rattle.ctf_laws.proofs.Answered.{answers_are_of_what_is_denoted, slots_denote}
use Rattle.ctf_laws.proofs.good.answers_are_of_what_is_denoted.Goals as goal

pub returns : goal.returns
returns c = record { there = slots_denote; answers = answers_are_of_what_is_denoted }
