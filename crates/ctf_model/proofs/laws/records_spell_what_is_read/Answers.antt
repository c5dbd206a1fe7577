use Rattle.ctf_model.proofs.SpelledRead.{says_of, spells_of}
use Rattle.ctf_model.proofs.laws.records_spell_what_is_read.Goals as goal

pub returns : goal.returns
returns c = λ t b x. ((λ s. (s.whole, s.form, says_of t b x s)), λ r. spells_of t b x r.0 r.1 r.2)
