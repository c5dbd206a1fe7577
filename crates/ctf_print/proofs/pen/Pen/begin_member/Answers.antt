use Rattle.std.proofs.Common.{◌≡◌, ◌+◌, ◌∙◌, sym}
use Rattle.std.proofs.lemmas.Option.{same_Some}
use Rattle.std.proofs.lemmas.Result.{err_from_is_err_and}
use Rattle.ctf_model.specs.values.Values.{label}
use Rattle.ctf_views.specs.ItemsView.{member as member_view}
use Rattle.ctf_print.specs.ImageView.{shows}
use Rattle.ctf_print.proofs.Names.{item_lent}
use Rattle.ctf_print.proofs.Writes.{next_ok, refused_as, refused_first}
use Rattle.ctf_print.proofs.pen.Pen.begin_member.Goals as goal

pub returns-in_err-write_label-clause-refused : goal.returns-in_err-write_label-clause-refused
returns-in_err-write_label-clause-refused c m here =
    let p = err_from_is_err_and c.from_residual.result c.from_residual.ensures.1 in
    let same : m ≡ member_view c.unwrap-member.result = same_Some _ _ (sym here ∙ item_lent member_view c.get.result c.unwrap-member.result _ c.get.ensures c.unwrap-member.ensures) in
    rw (same, p.1) (λ at. refused_first c.args.self.now.out _ _ _ c.in_err-write_label.ensures.err)

pub returns-in_err-look_up-clause-refused : goal.returns-in_err-look_up-clause-refused
returns-in_err-look_up-clause-refused c m here =
    let p = err_from_is_err_and c.from_residual-in_err-look_up.result c.from_residual-in_err-look_up.ensures.1 in
    let same : m ≡ member_view c.unwrap-member.result = same_Some _ _ (sym here ∙ item_lent member_view c.get.result c.unwrap-member.result _ c.get.ensures c.unwrap-member.ensures) in
    rw (same, p.1) (λ at. refused_as c.args.self.now.out c.write_label.new.self.out _ _ _ (next_ok c.args.self.now.out c.write_label.new.self.out (label c.unwrap-member.result.name.now) (shows c.args.image.now c.args.nesting c.unwrap-member.result.tnum.0 (at + c.unwrap-member.result.offset)) c.in_ok-write_label.ensures.ok) (c.in_err-look_up.ensures.refused (at + c.unwrap-member.result.offset)))
