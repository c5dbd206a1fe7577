use Rattle.std.proofs.Common.{sym, ◌∙◌}
use Rattle.ctf_layout.proofs.Visits.{kept_of_row}
use Rattle.ctf_layout.proofs.filling.kept_row.Goals as goal

pub returns-in-Some : goal.returns-in-Some
returns-in-Some c = λ f there. kept_of_row c.args.number c.args.row c.args.element c.kept_itself.result c.in-Some.e f c.row_amount.result (sym c.extent.ensures ∙ c.in-Some.is) c.row_amount.ensures c.kept_itself.ensures there
