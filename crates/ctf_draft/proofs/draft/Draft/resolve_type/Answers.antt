use Rattle.std.proofs.Common.{ℕ, ◌-◌, Result, Ok, ap, sym, refl, ◌∙◌, arith}
use Rattle.std.specs.Prelude.{option_map}
use Rattle.ctf_model.specs.drafts.Drafts.{content}
use Rattle.ctf_model.specs.figures.Figures.{comes_to, parents_figure, resolving}
use Rattle.ctf_model.specs.declared.faults.Fault.{Fault}
use Rattle.ctf_model.proofs.Settled.{most_is}
use Rattle.ctf_draft.specs.TypeView.{body_of}
use Rattle.ctf_draft.proofs.Figuring.{by_renamed, by_renaming, elsewhere_at, none_at, none_follow, one_on}
use Rattle.ctf_draft.proofs.draft.Draft.resolve_type.Goals as goal

pub loop-step-init : goal.loop-step-init
loop-step-init c = refl

pub returns-then-at-eq0 : goal.returns-then-at-eq0
returns-then-at-eq0 c =
    let d = c.args.self.now.draft in
    let f = parents_figure resolving d.parent in
    ap (λ (k : ℕ). let r : Result ℕ Fault = Ok k in r) c.if-at-eq0.true
    ∙ sym (ap (λ (k : ℕ). comes_to resolving f (content d) k c.args.n.0) most_is ∙ c.loop-step.invariant ∙ none_at resolving f (content d) (514 - c.loop-step._step) c.loop-step.at.0 (omega arith) c.if-at-eq0.true)

pub returns-in_default : goal.returns-in_default
returns-in_default c =
    let d = c.args.self.now.draft in
    let f = parents_figure resolving d.parent in
    elsewhere_at resolving f (content d) (514 - c.loop-step._step) c.loop-step.at.0 (omega arith) _ c.resolve_elsewhere.ensures
    ∙ sym (ap (λ (k : ℕ). comes_to resolving f (content d) k c.args.n.0) most_is ∙ c.loop-step.invariant)

pub loop-step-preserved : goal.loop-step-preserved
loop-step-preserved c =
    let d = c.args.self.now.draft in
    let f = parents_figure resolving d.parent in
    let on = comes_to resolving f (content d) ((514 - c.loop-step._step) - 1) in
    c.loop-step.invariant
    ∙ by_renaming f (content d) (514 - c.loop-step._step) c.loop-step.at.0 (omega arith) c.in-Some.i (body_of c.own_body.result.now) (option_map (λ t. t.0) c.alias_target.result) (sym c.own_index.ensures ∙ c.in-Some.is) c.own_body.ensures c.alias_target.ensures
    ∙ ap (λ o. by_renamed on c.loop-step.at.0 (option_map (λ t. t.0) o)) c.in-Some-alias_target.is
    ∙ one_on resolving f (content d) 514 c.in-Some-alias_target.t.0 c.loop-step._step

pub returns-in-None : goal.returns-in-None
returns-in-None c =
    let d = c.args.self.now.draft in
    let f = parents_figure resolving d.parent in
    let on = comes_to resolving f (content d) ((514 - c.loop-step._step) - 1) in
    sym (ap (λ (k : ℕ). comes_to resolving f (content d) k c.args.n.0) most_is ∙ c.loop-step.invariant
    ∙ by_renaming f (content d) (514 - c.loop-step._step) c.loop-step.at.0 (omega arith) c.in-Some.i (body_of c.own_body.result.now) (option_map (λ t. t.0) c.alias_target.result) (sym c.own_index.ensures ∙ c.in-Some.is) c.own_body.ensures c.alias_target.ensures
    ∙ ap (λ o. by_renamed on c.loop-step.at.0 (option_map (λ t. t.0) o)) c.in-None.is)

pub returns : goal.returns
returns c =
    let d = c.args.self.now.draft in
    let f = parents_figure resolving d.parent in
    rw c.placeless.ensures (sym (ap (λ (k : ℕ). comes_to resolving f (content d) k c.args.n.0) most_is ∙ c.loop-step.invariant ∙ none_follow resolving f (content d) (514 - c.loop-step._step) c.loop-step.at.0 (omega arith)))
