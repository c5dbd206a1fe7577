use Rattle.ctf_model.proofs.FoundAgain.{found}
use Rattle.ctf_model.proofs.RecordedTypes.{recorded}
use Rattle.ctf_model.proofs.laws.written_records_spell.Goals as goal

pub returns : goal.returns
returns c = record { names = found; records = λ names x fits short found. (recorded names x fits short found).spells }
