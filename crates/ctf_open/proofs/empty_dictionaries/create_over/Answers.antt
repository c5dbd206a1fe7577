use Rattle.std.proofs.Common.{◌≡◌, ◌∙◌, [], None, ap, false, inl, inr, refl, subst, sym, true}
use Rattle.std.proofs.lemmas.Result.{err_from_is_err_and}
use Rattle.ctf_draft.specs.DraftView.{Owned}
use Rattle.ctf_model.specs.declared.faults.Fault.{Fault}
use Rattle.ctf_model.specs.drafts.Drafts.{rollback}
use Rattle.ctf_model.specs.opened.Sizes.{kept_bytes}
use Rattle.ctf_model.specs.opened.Steps.{created}
use Rattle.ctf_model.specs.spaces.Kept.{Kept}
use Rattle.ctf_open.proofs.Alike.{same_value}
use Rattle.ctf_open.proofs.Creating.{created_unmade, either}
use Rattle.ctf_open.proofs.EmptyDrafts.{created_over, empty_denotes, empty_model, empty_uncreated, fits_alone, settled_empty, settled_under}
use Rattle.ctf_open.specs.Drafting.{IsEmptyOf, IsUnder, IsWritten}
use Rattle.ctf_open.specs.Quotas.{IsUncreated, fits_in}
use Rattle.ctf_open.proofs.empty_dictionaries.create_over.Goals as goal

pub returns-then-not-has_room-clause-exact_err : goal.returns-then-not-has_room-clause-exact_err
returns-then-not-has_room-clause-exact_err c =
    let full : fits_in c.args.room (kept_bytes c.args.own.now) ≡ false = ap (fits_in c.args.room) (sym c.bytes.ensures.count) ∙ sym c.has_room.ensures ∙ c.if-not-has_room.true in
    inr (subst (λ (f : Fault). IsUncreated (created None [] [] c.args.model) c.args.room f) (sym c.placeless.ensures) (empty_uncreated c.args.model c.args.own.now c.args.room c.requires full))

pub returns-in_err-draft-clause-exact_err : goal.returns-in_err-draft-clause-exact_err
returns-in_err-draft-clause-exact_err c =
    let p = err_from_is_err_and c.from_residual-in_err-draft.result c.from_residual-in_err-draft.ensures.1 in
    rw (p.1, p.2) (either (created_unmade None [] [] c.args.model c.args.room c.in_err-draft.field-0.0) c.in_err-draft.ensures.exact_err)

pub settle-requires-clause-denotes : goal.settle-requires-clause-denotes
settle-requires-clause-denotes c =
    let same = c.in_ok-share_judged.ensures ∙ c.in_ok-own.ensures in
    let is : IsEmptyOf c.args.model c.in_ok-share_judged.field-0.value.kept = subst (λ (k : Kept). IsEmptyOf c.args.model k) (sym same) c.requires in
    empty_denotes c.args.model _ c.in_ok-draft.draft.draft is c.in_ok-draft.ensures.ok

pub settle-requires-clause-model : goal.settle-requires-clause-model
settle-requires-clause-model c =
    let same = c.in_ok-share_judged.ensures ∙ c.in_ok-own.ensures in
    let is : IsEmptyOf c.args.model c.in_ok-share_judged.field-0.value.kept = subst (λ (k : Kept). IsEmptyOf c.args.model k) (sym same) c.requires in
    empty_model c.args.model _ c.in_ok-draft.draft.draft is c.in_ok-draft.ensures.ok

pub invariant_of-result : goal.invariant_of-result
invariant_of-result c =
    let is : IsEmptyOf c.args.model c.in_ok-own.own = subst (λ (k : Kept). IsEmptyOf c.args.model k) (sym c.in_ok-own.ensures) c.requires in
    let d = c.in_ok-draft.draft.draft in
    let under : IsUnder c.settle.new.self.draft None = settled_under None d _ c.in_ok-draft.ensures.under c.settle.ensures.draft in
    let wrote : IsWritten (rollback c.settle.new.self.draft) c.in_ok-own.own = settled_empty c.args.model _ d _ is c.in_ok-draft.ensures.ok c.settle.ensures.draft in (
      λ x e. absurd cc,
      λ x e. absurd cc,
      λ x e. let same : c.settle.new.self ≡ x.value = sym c.in_ok-draft_box.ensures ∙ same_value _ x e in subst (λ (y : Owned). IsUnder y.draft None) same under,
      λ x e. let same : c.settle.new.self ≡ x.value = sym c.in_ok-draft_box.ensures ∙ same_value _ x e in subst (λ (y : Owned). IsWritten (rollback y.draft) c.in_ok-own.own) same wrote,
    )

pub returns-clause-ok : goal.returns-clause-ok
returns-clause-ok c =
    let is : IsEmptyOf c.args.model c.in_ok-own.own = subst (λ (k : Kept). IsEmptyOf c.args.model k) (sym c.in_ok-own.ensures) c.requires in
    rw c.in_ok-draft_box.ensures (created_over c.args.model c.in_ok-own.own c.in_ok-draft.draft.draft c.settle.new.self.draft is c.in_ok-draft.ensures.ok c.settle.ensures.draft)

pub returns-clause-room : goal.returns-clause-room
returns-clause-room c =
    let bytes = ap kept_bytes c.in_ok-own.ensures ∙ sym c.bytes.ensures.count in
    fits_alone c.args.room (kept_bytes c.in_ok-own.own) true (ap (fits_in c.args.room) bytes ∙ sym c.has_room.ensures ∙ c.if-not-has_room.false)

pub returns-in_err-share_judged-clause-exact_err : goal.returns-in_err-share_judged-clause-exact_err
returns-in_err-share_judged-clause-exact_err c =
    let p = err_from_is_err_and c.from_residual-in_err-share_judged.result c.from_residual-in_err-share_judged.ensures.1 in
    rw (p.1, p.2) (inl refl)
