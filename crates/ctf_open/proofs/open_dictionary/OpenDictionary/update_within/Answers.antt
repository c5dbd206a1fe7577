use Rattle.std.proofs.Common.{◌≡◌, ◌+◌, true, Option, ap, subst, ◌∙◌}
use Rattle.std.proofs.lemmas.Option.{same_Some}
use Rattle.ctf_model.specs.drafts.Drafts.{rollback}
use Rattle.ctf_model.specs.spaces.Kept.{Kept}
use Rattle.ctf_open.proofs.Creating.{written_fits}
use Rattle.ctf_open.specs.Drafting.{IsWritten}
use Rattle.ctf_open.specs.Quotas.{fits_in}
use Rattle.ctf_model.specs.opened.Open.{Open}
use Rattle.ctf_model.specs.opened.Sizes.{kept_bytes, parent_bytes}
use Rattle.ctf_open.proofs.open_dictionary.OpenDictionary.update_within.Goals as goal

pub returns-clause-room : goal.returns-clause-room
returns-clause-room c =
    let above = c.parent_of.ensures ∙ ap (λ (s : Open). s.parent) c.self.view_is in
    subst (λ (o : Option Kept). fits_in c.args.room (kept_bytes c.in_ok-update.update.own + parent_bytes o) ≡ true) above (written_fits _ _ c.args.room _ c.in_ok-update.ensures.written c.in_ok-update.ensures.room)

pub invariant_of-self-then-pending-eq0 : goal.invariant_of-self-then-pending-eq0
invariant_of-self-then-pending-eq0 c =
    (c.self.invariant.0, c.self.invariant.1, λ y e. c.self.invariant.2 y (c.in-Some.is ∙ e), λ y e. c.self.invariant.3 y (c.in-Some.is ∙ e))

pub updated_over-requires-clause-before : goal.updated_over-requires-clause-before
updated_over-requires-clause-before c own e =
    rw c.deref-2.ensures (subst (IsWritten (rollback c.in-Some.draft.value.draft)) (same_Some c.self.inside.own own e) (c.self.invariant.3 c.in-Some.draft c.in-Some.is))
