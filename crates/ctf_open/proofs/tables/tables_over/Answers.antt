use Rattle.std.proofs.Common.{◌≡◌, Some, None, ap, subst, sym, ◌∙◌}
use Rattle.ctf_check.specs.CheckedView.{dictionary_of, lists_of}
use Rattle.ctf_open.proofs.Fitting.{parents_fit, same_models}
use Rattle.ctf_model.specs.format.Dictionary.{said_by}
use Rattle.ctf_model.specs.spaces.Kept.{fault_over}
use Rattle.ctf_model.specs.format.Lists.{Lists}
use Rattle.ctf_model.specs.spaces.Space as spaces
use Rattle.ctf_names.specs.Fitting as names
use Rattle.ctf_space.specs.SpaceView.{parent_lists, space_of}
use Rattle.ctf_open.proofs.tables.tables_over.Goals as goal

pub over-requires-2-clause-own : goal.over-requires-2-clause-own
over-requires-2-clause-own c = subst (λ (l : Lists). names.Fits l None c.tables.result.now.index) (sym (c.in_ok-space.ensures.lists ∙ c.view.ensures)) c.tables.ensures.index

pub over-requires-2-clause-parent : goal.over-requires-2-clause-parent
over-requires-2-clause-parent c =
    let fault : fault_over c.args.child.now c.args.parent.now ≡ None = rw (← c.view.ensures, ← c.model.ensures, ← c.view-2.ensures, ← c.model-2.ensures) c.in_ok-space.ensures.exact_ok in
    let alike = same_models c.args.child.now c.args.parent.now fault in
    let model = ap (λ (s : spaces.Space). s.model) c.in_ok-space.ensures.ok ∙ c.model.ensures ∙ sym alike in
    let above : (space_of c.in_ok-space.space).parent ≡ Some (dictionary_of c.view-2.result) = ap (λ (s : spaces.Space). s.parent) c.in_ok-space.ensures.ok in
    let listed : parent_lists c.in_ok-space.space ≡ Some (lists_of c.view-2.result) = c.in_ok-space.ensures.parent in (
      λ x e. let is : dictionary_of c.view-2.result ≡ x = cc in parents_fit (space_of c.in_ok-space.space) c.args.parent.now x c.tables-2.result.now.layout model (ap said_by (sym c.view-2.ensures) ∙ is) c.tables-2.ensures.layout,
      λ x e. let is : lists_of c.view-2.result ≡ x = cc in subst (λ (l : Lists). names.Fits l None c.tables-2.result.now.index) (sym c.view-2.ensures ∙ is) c.tables-2.ensures.index,
    )
