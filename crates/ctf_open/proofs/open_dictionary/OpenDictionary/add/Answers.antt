use Rattle.std.proofs.Common.{◌≡◌, ◌∙◌, Ok, subst}
use Rattle.std.specs.Prelude.{option_map}
use Rattle.ctf_draft.specs.DraftView.{Owned}
use Rattle.ctf_draft.specs.NewView.{new_of}
use Rattle.ctf_open.specs.Drafting.{IsUnder, IsWritten}
use Rattle.ctf_model.specs.drafts.Adders.{Added, add_type}
use Rattle.ctf_model.specs.drafts.Drafts.{rollback}
use Rattle.ctf_open.proofs.Alike.{still_under, still_written, value_put}
use Rattle.ctf_open.proofs.DraftParents.{AreAlike, type_alike}
use Rattle.ctf_open.proofs.open_dictionary.OpenDictionary.add.Goals as goal

pub invariant_of-self-2 : goal.invariant_of-self-2
invariant_of-self-2 c =
    let x = new_of (record { name = c.in_ok-name.name; root = c.args.root; body = c.args.body }) in
    let alike : (a : Added) → add_type c.deref_mut.result.now.draft x ≡ Ok a → AreAlike c.deref_mut.result.now.draft a.draft = (λ a h. type_alike c.deref_mut.result.now.draft x a h) in
    let under = still_under (λ t. t.0) c.add.result (λ d. add_type d x) c.deref_mut.result.now c.add.new.self _ alike c.add.ensures.ok c.add.ensures.as_before (rw c.deref_mut.ensures.value (c.self.invariant.2 c.in-Some.draft c.in-Some.is)) in
    let written = still_written (λ t. t.0) c.add.result (λ d. add_type d x) c.deref_mut.result.now c.add.new.self _ alike c.add.ensures.ok c.add.ensures.as_before (rw c.deref_mut.ensures.value (c.self.invariant.3 c.in-Some.draft c.in-Some.is)) in (
      c.self.invariant.0,
      c.self.invariant.1,
      λ y e. let same : c.add.new.self ≡ y.value = value_put c.in-Some.draft y _ e in subst (λ (d : Owned). IsUnder d.draft (option_map (λ i. i.parent) c.self.inside.imported)) same under,
      λ y e. let same : c.add.new.self ≡ y.value = value_put c.in-Some.draft y _ e in subst (λ (d : Owned). IsWritten (rollback d.draft) c.self.inside.own) same written,
    )

pub invariant_of-self-in_err-name : goal.invariant_of-self-in_err-name
invariant_of-self-in_err-name c =
    (c.self.invariant.0, c.self.invariant.1, λ y e. c.self.invariant.2 y (c.in-Some.is ∙ e), λ y e. c.self.invariant.3 y (c.in-Some.is ∙ e))
