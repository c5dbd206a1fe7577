use Rattle.std.proofs.Common.{◌-◌, ap, sym, ◌∙◌, arith}
use Rattle.ctf_model.specs.drafts.Drafts.{content}
use Rattle.ctf_model.specs.figures.Figures.{comes_to, parents_figure, sizing, times}
use Rattle.ctf_draft.specs.Sizing.{size_from}
use Rattle.ctf_draft.specs.TypeView.{body_of}
use Rattle.ctf_draft.proofs.Figuring.{at_first, by_sizing, elsewhere_at, none_at, none_follow, one_on}
use Rattle.ctf_draft.proofs.draft.Draft.+size_within.Goals as goal

pub loop-step-init : goal.loop-step-init
loop-step-init t c =
    let d = c.args.self.now.draft in
    at_first (sizing d.model) (parents_figure (sizing d.model) d.parent) (content d) c.args.most c.args.n.0

pub returns-then-at-eq0 : goal.returns-then-at-eq0
returns-then-at-eq0 t c =
    let d = c.args.self.now.draft in
    let f = parents_figure (sizing d.model) d.parent in
    rw c.placeless.ensures (sym (c.loop-step.invariant ∙ none_at (sizing d.model) f (content d) (c.args.most - c.loop-step.step) c.loop-step.at.0 (omega arith) c.if-at-eq0.true))

pub returns-in_default : goal.returns-in_default
returns-in_default t c =
    let d = c.args.self.now.draft in
    let f = parents_figure (sizing d.model) d.parent in
    elsewhere_at (sizing d.model) f (content d) (c.args.most - c.loop-step.step) c.loop-step.at.0 (omega arith) c.size_elsewhere.result c.size_elsewhere.ensures ∙ sym c.loop-step.invariant

pub returns-in-Itself : goal.returns-in-Itself
returns-in-Itself t c =
    let d = c.args.self.now.draft in
    let f = parents_figure (sizing d.model) d.parent in
    let on = comes_to (sizing d.model) f (content d) ((c.args.most - c.loop-step.step) - 1) in
    sym (c.loop-step.invariant
    ∙ by_sizing c.self.inside.model d.model (ap (λ o. o.draft.model) c.self.view_is) f (content d) (c.args.most - c.loop-step.step) c.loop-step.at.0 (omega arith) c.in-Some.i (body_of c.own_body.result.now) c.sizing.result (sym c.own_index.ensures ∙ c.in-Some.is) c.own_body.ensures c.sizing.ensures
    ∙ ap (size_from on) c.in-Itself.is)

pub loop-step-preserved : goal.loop-step-preserved
loop-step-preserved t c =
    let d = c.args.self.now.draft in
    let f = parents_figure (sizing d.model) d.parent in
    let on = comes_to (sizing d.model) f (content d) ((c.args.most - c.loop-step.step) - 1) in
    c.loop-step.invariant
    ∙ by_sizing c.self.inside.model d.model (ap (λ o. o.draft.model) c.self.view_is) f (content d) (c.args.most - c.loop-step.step) c.loop-step.at.0 (omega arith) c.in-Some.i (body_of c.own_body.result.now) c.sizing.result (sym c.own_index.ensures ∙ c.in-Some.is) c.own_body.ensures c.sizing.ensures
    ∙ ap (size_from on) c.in-One.is
    ∙ one_on (sizing d.model) f (content d) c.args.most c.in-One.t.0 c.loop-step.step

pub returns-in-Row : goal.returns-in-Row
returns-in-Row t c =
    let d = c.args.self.now.draft in
    let f = parents_figure (sizing d.model) d.parent in
    let on = comes_to (sizing d.model) f (content d) ((c.args.most - c.loop-step.step) - 1) in
    c.repeated_size.ensures ∙ ap (times c.in-Row.count) c.size_within.ensures
    ∙ sym (c.loop-step.invariant
    ∙ by_sizing c.self.inside.model d.model (ap (λ o. o.draft.model) c.self.view_is) f (content d) (c.args.most - c.loop-step.step) c.loop-step.at.0 (omega arith) c.in-Some.i (body_of c.own_body.result.now) c.sizing.result (sym c.own_index.ensures ∙ c.in-Some.is) c.own_body.ensures c.sizing.ensures
    ∙ ap (size_from on) c.in-Row.is)

pub returns : goal.returns
returns t c =
    let d = c.args.self.now.draft in
    let f = parents_figure (sizing d.model) d.parent in
    rw c.placeless-2.ensures (sym (c.loop-step.invariant ∙ none_follow (sizing d.model) f (content d) (c.args.most - c.loop-step.step) c.loop-step.at.0 (omega arith)))
