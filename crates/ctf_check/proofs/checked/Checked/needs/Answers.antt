use Rattle.std.proofs.Common.{ap, ◌∙◌}
use Rattle.ctf_check.specs.CheckedView.{lists_of}
use Rattle.ctf_check.specs.Needed.{records_need, entries_need}
use Rattle.ctf_check.proofs.Needing.{all_need}
use Rattle.ctf_check.proofs.Order.{types_are}
use Rattle.ctf_check.proofs.checked.Checked.needs.Goals as goal

pub returns-then-child : goal.returns-then-child
returns-then-child c =
    let d = c.args.self.now in
    let part = types_are (lists_of d).ctf c.section.result.now c.section.ensures.bytes in
    let child_is = c.if-child.ensures in
    let records = c.records_need.ensures ∙ ap records_need part in
    let entries = c.entries_need.ensures ∙ ap entries_need c.entries.ensures in
    rw (← child_is) (c.greater.ensures ∙ rw (records, entries) (all_need (lists_of d) d.faultless))
