use Rattle.std.proofs.Common.{◌-◌, Some, ap, ◌∙◌, arith}
use Rattle.ctf_check.specs.CheckedView.{lists_of}
use Rattle.ctf_c.proofs.names.Filled.{all_filled, filled, unfilled}
use Rattle.ctf_c.specs.names.Filling.{TellsMember}
use Rattle.ctf_c.specs.names.MembersView.{members_at}
use Rattle.ctf_c.proofs.names.filling.fill_members.Goals as goal

pub loop-i-init : goal.loop-i-init
loop-i-init c = unfilled (TellsMember (Some (lists_of c.args.dictionary.now))) (members_at c.args.members.now) c.args.from c.args.rows.now

pub loop-i-preserved : goal.loop-i-preserved
loop-i-preserved c = filled (TellsMember (Some (lists_of c.args.dictionary.now))) (members_at c.args.members.now) c.args.from c.args.rows.now c.loop-i.rows c.loop-i.i c.member_row.result c.loop-i.invariant (omega (arith, c.loop-i-test.true, c.loop-i.auto.rows, c.min-count.ensures)) (omega (arith, c.loop-i-test.true, c.min-count.ensures, c.saturating_sub-left.ensures, c.len.ensures)) c.member_row.ensures

pub returns : goal.returns
returns c = all_filled (TellsMember (Some (lists_of c.args.dictionary.now))) (members_at c.args.members.now) c.args.from c.args.rows.now c.loop-i.rows c.loop-i.i c.saturating_sub-left.result c.min-count.result c.loop-i.invariant c.loop-i-test.false (c.saturating_sub-left.ensures ∙ ap (λ n. n - c.args.from) c.len.ensures) c.min-count.ensures
