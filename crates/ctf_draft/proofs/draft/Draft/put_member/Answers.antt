use Rattle.std.proofs.Common.{◌≡◌, ◌≤◌, Option, get_or, is_some, List, length, map, option_map, set, sym, ap, subst, ◌∙◌, arith}
use Rattle.std.proofs.lemmas.List.{get_or-map, length-map, length-take, map-set}
use Rattle.ctf_model.specs.format.Term.{Term}
use Rattle.std.proofs.lemmas.Result.{on_ok_weaker, on_err_weaker}
use Rattle.ctf_model.specs.drafts.Adders.{body_at, replace_body, with_member}
use Rattle.ctf_draft.specs.ParentView.{parent_in}
use Rattle.ctf_model.specs.drafts.DraftLaws.{IsSound}
use Rattle.ctf_model.specs.drafts.Drafts.{Draft, count_of}
use Rattle.ctf_model.specs.rules.Chains.{own_index}
use Rattle.ctf_draft.specs.DraftView.{Owned}
use Rattle.ctf_draft.specs.TypeView.{member_of, type_of}
use Rattle.ctf_draft.proofs.Pending.{left_here, put_here}
use Rattle.ctf_model.specs.figures.FigureLaws.{nothing}
use Rattle.ctf_draft.specs.declared.reach.Reach.{Reach}
use Rattle.ctf_draft.specs.Reaching.{Knows, Stays}
use Rattle.ctf_draft.proofs.Known.{left_known, other_known}
use Rattle.ctf_draft.proofs.OneMore.{by_either, pushed_known}
use Rattle.ctf_draft.proofs.Sounding.{either_sound}
use Rattle.ctf_draft.proofs.Holding.{place_inside, pushed_bounded}
use Rattle.ctf_draft.proofs.Views.{seen}
use Rattle.ctf_draft.proofs.draft.Draft.put_member.Goals as goal

pub returns-clause-ok : goal.returns-clause-ok
returns-clause-ok c =
    let d = c.self.inside in
    let parent = parent_in d.parent in
    on_ok_weaker c.push_member.result (put_here d.parname d.parlabel parent d.model d.updated d.updated_labels d.types.items d.labels c.args.n.0 c.args.i c.index_mut.result.now c.index_mut.ensures.value (omega (arith, c.self.invariant.0, d.types.ok.0)) c.args.self.now.draft (ap (λ o. o.draft) c.self.view_is) c.requires.pending (with_member (member_of c.args.member) c.args.size) c.push_member.new.to) c.push_member.ensures.ok

pub returns-clause-as_before : goal.returns-clause-as_before
returns-clause-as_before c =
    let d = c.self.inside in
    let parent = parent_in d.parent in
    on_err_weaker c.push_member.result (λ same. ap (λ (e : Draft). let o : Owned = record { draft = e; dictionary = option_map (λ p. p.value.kept) d.dictionary } in o) (left_here d.parname d.parlabel parent d.model d.updated d.updated_labels d.types.items d.labels c.args.n.0 c.args.i c.index_mut.result.now c.index_mut.ensures.value (omega (arith, c.self.invariant.0, d.types.ok.0)) c.args.self.now.draft (ap (λ o. o.draft) c.self.view_is) c.requires.pending c.push_member.new.to same) ∙ c.self.view_is) c.push_member.ensures.as_before

pub invariant_of-self : goal.invariant_of-self
invariant_of-self c =
    let d = c.self.inside in
    let few : d.updated ≤ length d.types.items = omega (arith, c.self.invariant.0, d.types.ok.0) in
    let before = seen d.parname d.parlabel (parent_in d.parent) d.model d.updated d.updated_labels (map type_of d.types.items) d.labels in
    let bounded = c.make_ready.ensures.still before (omega (arith, length-take d.updated (map type_of d.types.items), length-map d.types.items type_of, few)) c.self.invariant.6 in
    (c.self.invariant.0, c.self.invariant.1, c.self.invariant.2, c.self.invariant.3, c.self.invariant.4, c.self.invariant.5, bounded)

pub invariant_of-self-2 : goal.invariant_of-self-2
invariant_of-self-2 c =
    let d = c.self.inside in
    let parent = parent_in d.parent in
    let n = c.args.n.0 in
    let e = c.args.self.now.draft in
    let view = ap (λ o. o.draft) c.self.view_is in
    let change = with_member (member_of c.args.member) c.args.size in
    let after = seen d.parname d.parlabel parent d.model d.updated d.updated_labels (map type_of (set d.types.items c.args.i c.push_member.new.to)) d.labels in
    let before = seen d.parname d.parlabel parent d.model d.updated d.updated_labels (map type_of d.types.items) d.labels in
    let few : d.updated ≤ length d.types.items = omega (arith, c.self.invariant.0, d.types.ok.0) in
    let changed = on_ok_weaker c.push_member.result (put_here d.parname d.parlabel parent d.model d.updated d.updated_labels d.types.items d.labels n c.args.i c.index_mut.result.now c.index_mut.ensures.value few e view c.requires.pending change c.push_member.new.to) c.push_member.ensures.ok in
    let left = on_err_weaker c.push_member.result (λ same. left_here d.parname d.parlabel parent d.model d.updated d.updated_labels d.types.items d.labels n c.args.i c.index_mut.result.now c.index_mut.ensures.value few e view c.requires.pending c.push_member.new.to same) c.push_member.ensures.as_before in
    let sound = c.requires.sound (subst IsSound view c.self.invariant.4) in
    let new = c.push_member.new.to in
    let all = map-set type_of d.types.items c.args.i new in
    let left_marks = left_known before d.marks c.leave_unless.new.self c.leave_unless.ensures.left c.self.invariant.5 in
    let marks = c.leave_unless.new.self in
    let terms = map type_of d.types.items in
    let low = place_inside d.parname d.parlabel parent d.model d.updated d.updated_labels d.types.items d.labels n c.args.i e view c.requires.pending in
    let was : get_or terms c.args.i nothing ≡ type_of c.index_mut.result.now = get_or-map type_of d.types.items c.args.i c.index_mut.result.now nothing low ∙ ap type_of (sym c.index_mut.ensures.value) in
    let knows = subst (λ (ts : List Term). Knows (seen d.parname d.parlabel parent d.model d.updated d.updated_labels ts d.labels) marks) (sym all)
    (by_either c.stays_known-stays.result
    (λ yes.
    pushed_known d.parname d.parlabel parent d.model marks d.updated d.updated_labels terms d.labels c.push_member.result c.args.i (type_of c.index_mut.result.now) (type_of new) (member_of c.args.member) c.args.size (omega (arith, low, length-map d.types.items type_of)) was c.push_member.ensures.ok c.push_member.ensures.as_before
    (subst (λ (x : Draft). Stays x marks c.args.i c.args.member.tnum.0) (sym view) (subst (λ (ks : List (Option Reach)). Stays e ks c.args.i c.args.member.tnum.0) (sym (c.leave_unless.ensures.same yes)) (c.stays_known-stays.ensures yes))) left_marks)
    (λ no. other_known d.parname d.parlabel parent d.model marks d.updated d.updated_labels terms d.labels c.args.i (type_of new) (c.leave_unless.ensures.unknown no) left_marks)) in
    let bounded = c.make_ready.ensures.still before (omega (arith, length-take d.updated (map type_of d.types.items), length-map d.types.items type_of, few)) c.self.invariant.6 in
    let own = c.own_index-held.ensures ∙ ap (λ (x : Draft). own_index (is_some x.parent) (count_of x) c.args.member.tnum.0) (sym view) in (
      c.self.invariant.0,
      c.self.invariant.1,
      c.self.invariant.2,
      c.self.invariant.3,
      either_sound c.push_member.result before (replace_body e n (change (body_at e n))) after changed left c.self.invariant.4 sound,
      knows,
      pushed_bounded d.parname d.parlabel parent d.model c.make_ready.new.self d.updated d.updated_labels d.types.items d.labels c.args.i c.index_mut.result.now new (place_inside d.parname d.parlabel parent d.model d.updated d.updated_labels d.types.items d.labels n c.args.i e view c.requires.pending) c.index_mut.ensures.value bounded c.push_member.result (member_of c.args.member) c.args.size c.own_index-held.result few own c.in_ok-make_ready.ensures.ready c.push_member.ensures.ok c.push_member.ensures.as_before,
    )
