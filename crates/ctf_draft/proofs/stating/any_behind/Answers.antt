use Rattle.std.proofs.Common.{sym, ◌∙◌}
use Rattle.ctf_draft.specs.Stating.{begins_behind}
use Rattle.ctf_draft.specs.TypeView.{member_of}
use Rattle.ctf_draft.proofs.Among.{any_at}
use Rattle.ctf_draft.proofs.stating.any_behind.Goals as goal

pub returns-then-is_behind : goal.returns-then-is_behind
returns-then-is_behind c =
    sym (any_at member_of (begins_behind c.args.size) c.args.members.now c.loop-member.member-index c.member-item.result c.loop-member-test.true c.member-item.is (sym c.is_behind.ensures.behind ∙ c.if-is_behind.true))
