use Rattle.ctf_sections.proofs.LastNames.{none_at_all, up_to_last}
use Rattle.ctf_sections.proofs.ends.end_of_names.Goals as goal

pub returns-in-Some : goal.returns-in-Some
returns-in-Some c = up_to_last c.args.table.now c.in-Some.last c.in-Some.ensures

pub returns-in-None : goal.returns-in-None
returns-in-None c = none_at_all c.args.table.now c.in-None.ensures
