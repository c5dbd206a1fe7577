use Rattle.ctf_model.proofs.Denoted.{faultless_denoted, one_dictionary, denoted_denotes}
use Rattle.ctf_model.proofs.laws.faultless_exactly_where_denoted.Goals as goal

pub returns : goal.returns
returns c = record { denoted = faultless_denoted; one = one_dictionary; computed = denoted_denotes }
