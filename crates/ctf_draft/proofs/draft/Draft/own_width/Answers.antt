use Rattle.std.proofs.Common.{◌≡◌, Some, is_some, arith}
use Rattle.ctf_model.specs.rules.Chains.{own_index}
use Rattle.ctf_model.specs.drafts.Drafts.{count_of}
use Rattle.ctf_draft.specs.TypeView.{body_of}
use Rattle.ctf_draft.proofs.ScalarWidths.{width_found_alone}
use Rattle.ctf_draft.proofs.draft.Draft.own_width.Goals as goal

pub returns : goal.returns
returns c =
    let d = c.args.self.now.draft in
    let own : own_index (is_some d.parent) (count_of d) c.args.n.0 ≡ Some c.in_ok-i.i = grind arith in
    width_found_alone d c.args.n.0 c.in_ok-i.i own (body_of c.own_body.result.now) c.own_body.ensures c.width.result c.width.ensures
