use Rattle.std.proofs.Common.{◌≤◌, length, refl, sym, ◌∙◌, arith}
use Rattle.ctf_model.specs.format.Record.{member_len as len_of_member}
use Rattle.ctf_model.specs.format.Spelling.{member_of}
use Rattle.ctf_sections.specs.StringsView.{tables}
use Rattle.ctf_views.specs.Lists.{items_in}
use Rattle.ctf_views.proofs.Items.{items_in_length, row_some}
use Rattle.ctf_views.proofs.Named.{named_nowhere}
use Rattle.ctf_views.proofs.members.first_named.Goals as goal

pub is_named-requires-clause-good : goal.is_named-requires-clause-good
is_named-requires-clause-good c =
    row_some (member_of c.args.row.size (tables c.args.row.strings)) (len_of_member c.args.row.size) c.args.count c.loop-index.index c.args.bytes.now c.bytes_at.result.now c.requires c.loop-index-test.true c.bytes_at.ensures.item

pub returns : goal.returns
returns c =
    let item = member_of c.args.row.size (tables c.args.row.strings) in
    let len = len_of_member c.args.row.size in
    let members = items_in item len c.args.count c.args.bytes.now in
    let past : length members ≤ c.loop-index.index = omega (arith, items_in_length item len c.args.count c.args.bytes.now c.requires, c.loop-index-test.false) in
    sym (named_nowhere c.args.name.now members c.loop-index.index past) ∙ c.loop-index.invariant
