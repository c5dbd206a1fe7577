use Rattle.std.proofs.Common.{refl}
use Rattle.ctf_protocol.specs.words.Words.{words}
use Rattle.ctf_protocol.proofs.rows.words_are_written.Goals as goal

pub returns : goal.returns
unfolding words
returns c = record { table = refl; upper_case = refl; cut = refl; longer = refl; no_text = refl }
