use Rattle.std.proofs.Common.{◌≤◌, length, map, take, sym, ap, subst, arith}
use Rattle.std.proofs.lemmas.List.{length-map, length-take, take-map}
use Rattle.ctf_model.specs.drafts.DraftLaws.{IsSound}
use Rattle.ctf_model.proofs.SoundDrafts.{life_sound}
use Rattle.ctf_draft.specs.ParentView.{parent_in}
use Rattle.ctf_draft.specs.TypeView.{type_of}
use Rattle.ctf_draft.proofs.Holding.{discarded_bounded}
use Rattle.ctf_draft.proofs.Known.{none_known}
use Rattle.ctf_draft.proofs.Views.{dropped, seen}
use Rattle.ctf_draft.proofs.draft.Draft.discard.Goals as goal

pub returns-clause-draft : goal.returns-clause-draft
returns-clause-draft c =
    let d = c.self.inside in
    rw (← c.self.view_is, c.truncate.ensures.items, c.truncate-2.ensures, ← take-map type_of d.updated d.types.items) (dropped d.parname d.parlabel (parent_in d.parent) d.model d.updated d.updated_labels (map type_of d.types.items) d.labels)

pub invariant_of-self : goal.invariant_of-self
invariant_of-self c =
    let d = c.self.inside in
    let parent = parent_in d.parent in
    let terms = map type_of d.types.items in
    let few = ap length c.truncate-2.ensures in
    let front = length-take d.updated_labels d.labels in
    let sound = subst IsSound (sym (dropped d.parname d.parlabel parent d.model d.updated d.updated_labels terms d.labels)) (life_sound (seen d.parname d.parlabel parent d.model d.updated d.updated_labels terms d.labels) c.self.invariant.4).0 in
    let inside : d.updated ≤ length terms = omega (arith, length-map d.types.items type_of, c.self.invariant.0, d.types.ok.0) in (
      omega (arith, c.truncate.ensures.len, c.self.invariant.0),
      omega (arith, few, front, c.self.invariant.1),
      omega (arith, c.truncate.ensures.len, c.self.invariant.2),
      c.self.invariant.3,
      rw (c.truncate.ensures.items, c.truncate-2.ensures, ← take-map type_of d.updated d.types.items)
          sound,
      none_known _ c.forget.new.self c.forget.ensures,
      rw (c.truncate.ensures.items, c.truncate-2.ensures, ← take-map type_of d.updated d.types.items)
          (discarded_bounded d.parname d.parlabel parent d.model d.depths c.truncate-3.new.self d.updated d.updated_labels terms d.labels (take d.updated_labels d.labels) inside sound c.truncate-3.ensures.front c.self.invariant.6),
    )
