use Rattle.std.proofs.Common.{◌≡◌, sym, subst}
use Rattle.std.specs.Prelude.{option_map}
use Rattle.ctf_draft.specs.DraftView.{Owned}
use Rattle.ctf_model.specs.drafts.Drafts.{Draft, rollback}
use Rattle.ctf_open.specs.Drafting.{IsUnder, IsWritten}
use Rattle.ctf_open.proofs.open_dictionary.OpenDictionary.discard.Goals as goal

pub invariant_of-self-2 : goal.invariant_of-self-2
invariant_of-self-2 c =
    let above = option_map (λ i. i.parent) c.self.inside.imported in
    let old : IsUnder c.deref_mut.result.now.draft above = rw c.deref_mut.ensures.value (c.self.invariant.2 c.in-Some.draft c.in-Some.is) in
    let without : IsUnder (rollback c.deref_mut.result.now.draft) above = record { parent = old.parent; model = old.model } in
    let under = subst (λ (d : Draft). IsUnder d above) (sym c.discard.ensures.draft) without in
    let written = subst (λ (d : Draft). IsWritten (rollback d) c.self.inside.own) (sym c.discard.ensures.draft) (rw c.deref_mut.ensures.value (c.self.invariant.3 c.in-Some.draft c.in-Some.is)) in (
      c.self.invariant.0,
      c.self.invariant.1,
      λ y e. let same : c.discard.new.self ≡ y.value = cc in subst (λ (d : Owned). IsUnder d.draft above) same under,
      λ y e. let same : c.discard.new.self ≡ y.value = cc in subst (λ (d : Owned). IsWritten (rollback d.draft) c.self.inside.own) same written,
    )
