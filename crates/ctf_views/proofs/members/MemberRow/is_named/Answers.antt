use Rattle.std.proofs.Common.{◌≡◌}
use Rattle.ctf_sections.specs.StringsView.{tables}
use Rattle.ctf_views.proofs.MemberNames.{named_as}
use Rattle.ctf_views.proofs.members.MemberRow.is_named.Goals as goal

pub returns : goal.returns
returns c =
    named_as c.args.self.now.size (tables c.args.self.now.strings) c.args.bytes.now c.args.name.now c.u32_at.result _ c.requires.good c.u32_at.ensures c.is_name_after.ensures
