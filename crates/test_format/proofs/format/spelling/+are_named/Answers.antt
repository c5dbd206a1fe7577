use Rattle.std.proofs.Common.{◌+◌, sym, ◌∙◌}
use Rattle.ctf_sections.specs.StringsView.{tables}
use Rattle.test_format.proofs.Named.{items_named}
use Rattle.test_format.proofs.format.spelling.+are_named.Goals as goal

pub returns : goal.returns
returns t c = λ place h.
    let named = rw c.u32_at.ensures at (sym c.names_nothing.ensures ∙ c.if-names_nothing.false) in
    let rest = rw c.split_at.ensures.back at c.are_named.ensures (place + c.args.len) h in
    items_named (tables c.args.strings) place c.args.len c.args.count c.args.list.now named rest
