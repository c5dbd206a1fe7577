use Rattle.std.proofs.Common.{get_or, sym, ◌∙◌}
use Rattle.ctf_model.specs.drafts.Drafts.{is_absent}
use Rattle.ctf_model.specs.declared.numbers.TypeNum.{TypeNum}
use Rattle.ctf_draft.specs.TypeView.{number_of}
use Rattle.ctf_draft.proofs.Among.{any_at, none_more, same_at}
use Rattle.ctf_draft.proofs.draft.Draft.any_absent.Goals as goal

pub returns-then-is_absent : goal.returns-then-is_absent
returns-then-is_absent c =
    let at : TypeNum = get_or c.args.numbers.now c.loop-number.number-index (record { 0 = 0 }) in
    sym (any_at number_of (is_absent c.args.self.now.draft) c.args.numbers.now c.loop-number.number-index at c.loop-number-test.true (same_at c.args.numbers.now c.loop-number.number-index (record { 0 = 0 }) c.loop-number-test.true) (sym c.is_absent.ensures ∙ c.if-is_absent.true))

pub loop-number-preserved : goal.loop-number-preserved
loop-number-preserved c =
    let at : TypeNum = get_or c.args.numbers.now c.loop-number.number-index (record { 0 = 0 }) in
    none_more number_of (is_absent c.args.self.now.draft) c.args.numbers.now c.loop-number.number-index at c.loop-number-test.true (same_at c.args.numbers.now c.loop-number.number-index (record { 0 = 0 }) c.loop-number-test.true) (sym c.is_absent.ensures ∙ c.if-is_absent.false) c.loop-number.invariant
