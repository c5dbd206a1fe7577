use Rattle.std.proofs.Common.{◌≡◌, Ok, subst}
use Rattle.std.specs.Prelude.{option_map}
use Rattle.ctf_open.specs.PartView.{part_in}
use Rattle.ctf_draft.specs.DraftView.{Owned}
use Rattle.ctf_open.specs.Drafting.{IsUnder, IsWritten}
use Rattle.ctf_open.proofs.Alike.{part_alike, still_under, still_written, value_put}
use Rattle.ctf_open.proofs.DraftParents.{AreAlike}
use Rattle.ctf_model.specs.drafts.Adders.{Added}
use Rattle.ctf_model.specs.drafts.Drafts.{rollback}
use Rattle.ctf_open.proofs.open_dictionary.OpenDictionary.add_part.Goals as goal

pub invariant_of-self-2 : goal.invariant_of-self-2
invariant_of-self-2 c =
    let alike : (a : Added) → part_in c.args.part c.deref_mut.result.now.draft ≡ Ok a → AreAlike c.deref_mut.result.now.draft a.draft = (λ a h. part_alike c.deref_mut.result.now.draft c.args.part a h) in
    let under = still_under (λ n. n) c.add_to.result (part_in c.args.part) c.deref_mut.result.now c.add_to.new.draft _ alike c.add_to.ensures.ok c.add_to.ensures.as_before (rw c.deref_mut.ensures.value (c.self.invariant.2 c.in-Some.draft c.in-Some.is)) in
    let written = still_written (λ n. n) c.add_to.result (part_in c.args.part) c.deref_mut.result.now c.add_to.new.draft _ alike c.add_to.ensures.ok c.add_to.ensures.as_before (rw c.deref_mut.ensures.value (c.self.invariant.3 c.in-Some.draft c.in-Some.is)) in (
      c.self.invariant.0,
      c.self.invariant.1,
      λ y e. let same : c.add_to.new.draft ≡ y.value = value_put c.in-Some.draft y _ e in subst (λ (d : Owned). IsUnder d.draft (option_map (λ i. i.parent) c.self.inside.imported)) same under,
      λ y e. let same : c.add_to.new.draft ≡ y.value = value_put c.in-Some.draft y _ e in subst (λ (d : Owned). IsWritten (rollback d.draft) c.self.inside.own) same written,
    )
