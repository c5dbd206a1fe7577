use Rattle.std.proofs.Common.{◌≤◌, List, length, map, option_map, set, sym, ap, subst, ◌∙◌, arith}
use Rattle.std.proofs.lemmas.List.{map-set}
use Rattle.ctf_model.specs.format.Term.{Term}
use Rattle.std.proofs.lemmas.Result.{on_ok_weaker, on_err_weaker}
use Rattle.ctf_model.specs.drafts.Adders.{body_at, replace_body, with_enumerator}
use Rattle.ctf_draft.specs.ParentView.{parent_in}
use Rattle.ctf_model.specs.drafts.DraftLaws.{IsSound}
use Rattle.ctf_model.specs.drafts.Drafts.{Draft}
use Rattle.ctf_draft.specs.DraftView.{Owned}
use Rattle.ctf_draft.specs.TypeView.{enumerator_of, type_of}
use Rattle.ctf_draft.proofs.Pending.{left_here, put_here}
use Rattle.ctf_draft.specs.Reaching.{Knows}
use Rattle.ctf_draft.proofs.Known.{left_known, other_known}
use Rattle.ctf_draft.proofs.Sounding.{either_sound}
use Rattle.ctf_draft.proofs.Holding.{place_inside, enumerated_bounded}
use Rattle.ctf_draft.proofs.Views.{seen}
use Rattle.ctf_draft.proofs.draft.Draft.put_enumerator.Goals as goal

pub returns-clause-ok : goal.returns-clause-ok
returns-clause-ok c =
    let d = c.self.inside in
    let parent = parent_in d.parent in
    on_ok_weaker c.push_enumerator.result (put_here d.parname d.parlabel parent d.model d.updated d.updated_labels d.types.items d.labels c.args.n.0 c.args.i c.index_mut.result.now c.index_mut.ensures.value (omega (arith, c.self.invariant.0, d.types.ok.0)) c.args.self.now.draft (ap (λ o. o.draft) c.self.view_is) c.requires.pending (with_enumerator (enumerator_of c.args.enumerator)) c.push_enumerator.new.to) c.push_enumerator.ensures.ok

pub returns-clause-as_before : goal.returns-clause-as_before
returns-clause-as_before c =
    let d = c.self.inside in
    let parent = parent_in d.parent in
    on_err_weaker c.push_enumerator.result (λ same. ap (λ (e : Draft). let o : Owned = record { draft = e; dictionary = option_map (λ p. p.value.kept) d.dictionary } in o) (left_here d.parname d.parlabel parent d.model d.updated d.updated_labels d.types.items d.labels c.args.n.0 c.args.i c.index_mut.result.now c.index_mut.ensures.value (omega (arith, c.self.invariant.0, d.types.ok.0)) c.args.self.now.draft (ap (λ o. o.draft) c.self.view_is) c.requires.pending c.push_enumerator.new.to same) ∙ c.self.view_is) c.push_enumerator.ensures.as_before

pub invariant_of-self : goal.invariant_of-self
invariant_of-self c =
    let d = c.self.inside in
    let parent = parent_in d.parent in
    let n = c.args.n.0 in
    let e = c.args.self.now.draft in
    let view = ap (λ o. o.draft) c.self.view_is in
    let change = with_enumerator (enumerator_of c.args.enumerator) in
    let after = seen d.parname d.parlabel parent d.model d.updated d.updated_labels (map type_of (set d.types.items c.args.i c.push_enumerator.new.to)) d.labels in
    let before = seen d.parname d.parlabel parent d.model d.updated d.updated_labels (map type_of d.types.items) d.labels in
    let few : d.updated ≤ length d.types.items = omega (arith, c.self.invariant.0, d.types.ok.0) in
    let changed = on_ok_weaker c.push_enumerator.result (put_here d.parname d.parlabel parent d.model d.updated d.updated_labels d.types.items d.labels n c.args.i c.index_mut.result.now c.index_mut.ensures.value few e view c.requires.pending change c.push_enumerator.new.to) c.push_enumerator.ensures.ok in
    let left = on_err_weaker c.push_enumerator.result (λ same. left_here d.parname d.parlabel parent d.model d.updated d.updated_labels d.types.items d.labels n c.args.i c.index_mut.result.now c.index_mut.ensures.value few e view c.requires.pending c.push_enumerator.new.to same) c.push_enumerator.ensures.as_before in
    let sound = c.requires.sound (subst IsSound view c.self.invariant.4) in
    let new = c.push_enumerator.new.to in
    let all = map-set type_of d.types.items c.args.i new in
    let left_marks = left_known before d.marks c.leave.new.self c.leave.ensures.left c.self.invariant.5 in
    let knows = subst (λ (ts : List Term). Knows (seen d.parname d.parlabel parent d.model d.updated d.updated_labels ts d.labels) c.leave.new.self) (sym all) (other_known d.parname d.parlabel parent d.model c.leave.new.self d.updated d.updated_labels (map type_of d.types.items) d.labels c.args.i (type_of new) c.leave.ensures.unknown left_marks) in (
      c.self.invariant.0,
      c.self.invariant.1,
      c.self.invariant.2,
      c.self.invariant.3,
      either_sound c.push_enumerator.result before (replace_body e n (change (body_at e n))) after changed left c.self.invariant.4 sound,
      knows,
      enumerated_bounded d.parname d.parlabel parent d.model d.depths d.updated d.updated_labels d.types.items d.labels c.args.i c.index_mut.result.now new (place_inside d.parname d.parlabel parent d.model d.updated d.updated_labels d.types.items d.labels n c.args.i e view c.requires.pending) c.index_mut.ensures.value c.self.invariant.6 c.push_enumerator.result (enumerator_of c.args.enumerator) c.push_enumerator.ensures.ok c.push_enumerator.ensures.as_before,
    )
