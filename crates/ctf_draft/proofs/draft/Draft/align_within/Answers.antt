use Rattle.std.proofs.Common.{◌-◌, ap, sym, ◌∙◌, arith}
use Rattle.ctf_model.specs.drafts.Drafts.{content}
use Rattle.ctf_model.specs.figures.Figures.{aligning, comes_to, parents_figure}
use Rattle.ctf_draft.specs.Sizing.{size_from}
use Rattle.ctf_draft.specs.TypeView.{body_of}
use Rattle.ctf_draft.proofs.Figuring.{at_first, by_aligning, elsewhere_at, one_on}
use Rattle.ctf_draft.proofs.draft.Draft.align_within.Goals as goal

pub loop-step-init : goal.loop-step-init
loop-step-init c =
    let d = c.args.self.now.draft in
    at_first (aligning d.model) (parents_figure (aligning d.model) d.parent) (content d) c.args.most c.args.n.0

pub returns-in_default : goal.returns-in_default
returns-in_default c =
    let d = c.args.self.now.draft in
    let f = parents_figure (aligning d.model) d.parent in
    elsewhere_at (aligning d.model) f (content d) (c.args.most - c.loop-step._step) c.loop-step.at.0 (omega arith) c.align_elsewhere.result c.align_elsewhere.ensures ∙ sym c.loop-step.invariant

pub returns-in-Itself : goal.returns-in-Itself
returns-in-Itself c =
    let d = c.args.self.now.draft in
    let f = parents_figure (aligning d.model) d.parent in
    let on = comes_to (aligning d.model) f (content d) ((c.args.most - c.loop-step._step) - 1) in
    sym (c.loop-step.invariant
    ∙ by_aligning c.self.inside.model d.model (ap (λ o. o.draft.model) c.self.view_is) f (content d) (c.args.most - c.loop-step._step) c.loop-step.at.0 (omega arith) c.in-Some.i (body_of c.own_body.result.now) c.in_ok-align.field-0 (sym c.own_index.ensures ∙ c.in-Some.is) c.own_body.ensures c.in_ok-align.ensures
    ∙ ap (size_from on) c.in-Itself.is)

pub loop-step-preserved : goal.loop-step-preserved
loop-step-preserved c =
    let d = c.args.self.now.draft in
    let f = parents_figure (aligning d.model) d.parent in
    let on = comes_to (aligning d.model) f (content d) ((c.args.most - c.loop-step._step) - 1) in
    c.loop-step.invariant
    ∙ by_aligning c.self.inside.model d.model (ap (λ o. o.draft.model) c.self.view_is) f (content d) (c.args.most - c.loop-step._step) c.loop-step.at.0 (omega arith) c.in-Some.i (body_of c.own_body.result.now) c.in_ok-align.field-0 (sym c.own_index.ensures ∙ c.in-Some.is) c.own_body.ensures c.in_ok-align.ensures
    ∙ ap (size_from on) c.in-One.is
    ∙ one_on (aligning d.model) f (content d) c.args.most c.in-One.t.0 c.loop-step._step
