use Rattle.std.proofs.Common.{Some}
use Rattle.ctf_check.specs.CheckedView.{lists_of}
use Rattle.ctf_c.proofs.names.Filled.{IsFilled}
use Rattle.ctf_c.specs.names.Filling.{TellsMember}
use Rattle.ctf_c.specs.names.MembersView.{members_at}
use Rattle.ctf_c.proofs.names.filling.fill_members.Given as goal

abbrev pub invariant-loop-i : goal.invariant-loop-i
invariant-loop-i l = IsFilled (TellsMember (Some (lists_of l.dictionary))) (members_at l.members) l.from l.fn.rows l.rows l.i
