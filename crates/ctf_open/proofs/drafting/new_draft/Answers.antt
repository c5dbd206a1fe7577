use Rattle.std.proofs.Common.{List, ℕ, length, ap, sym, ◌∙◌}
use Rattle.std.specs.Prelude.{◌==◌, not}
use Rattle.std.proofs.lemmas.Result.{IfOk-weaker}
use Rattle.ctf_open.proofs.DraftParents.{made_under, there}
use Rattle.ctf_open.proofs.drafting.new_draft.Goals as goal

pub new-requires : goal.new-requires
new-requires c =
    let same = c.in_ok-parname.ensures in
    record { named = there _ c.in_ok-parent.parent _ c.args.parent c.in_ok-parent.ensures ∙ c.requires ∙ ap (λ (name : List ℕ). not (length name == 0)) (sym same) }

pub returns-clause-under : goal.returns-clause-under
returns-clause-under c =
    IfOk-weaker c.new.result _ _ (λ d h. made_under _ c.in_ok-parent.parent _ _ _ _ d.draft c.in_ok-parent.ensures h.0) c.new.ensures.ok
