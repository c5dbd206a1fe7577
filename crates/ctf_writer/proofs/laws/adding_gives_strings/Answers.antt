use Rattle.ctf_model.specs.writing.WrittenNames.{strings_of, used_names}
use Rattle.ctf_writer.proofs.Distinct.{each_once}
use Rattle.ctf_writer.proofs.laws.adding_gives_strings.Goals as goal

pub returns : goal.returns
unfolding strings_of
returns c = λ d. each_once (used_names d)
