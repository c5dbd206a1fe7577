-- New drafts without a parent, and the dictionary that they share.
use Rattle.std.proofs.Common.{◌≡◌, ◌+◌, ℕ, arith, List, [], Bool, false, None, Some, Option, Result, Ok, Err, refl, ap, sym, subst, ◌∙◌}
use Rattle.ctf_model.proofs.SoundDrafts.{new_sound}
use Rattle.ctf_model.proofs.WrittenDrafts.{draft_denoted}
use Rattle.ctf_model.specs.drafts.DraftLaws.{IsSound}
use Rattle.ctf_model.specs.drafts.Drafts.{Draft, commit, content, empty_draft, new_draft, rollback}
use Rattle.ctf_model.specs.format.Dictionary.{Denotes}
use Rattle.ctf_model.specs.format.Lists.{Lists}
use Rattle.ctf_model.specs.opened.Open.{Open}
use Rattle.ctf_model.specs.opened.Sizes.{kept_bytes}
use Rattle.ctf_model.specs.opened.Steps.{created, settled_as}
use Rattle.ctf_model.specs.rules.Refusals.{placeless}
use Rattle.ctf_model.specs.spaces.Kept.{Kept}
use Rattle.ctf_model.specs.writing.Written.{lists_of, written}
use Rattle.ctf_model.specs.declared.data_model.DataModel.{DataModel}
use Rattle.ctf_model.specs.declared.faults.Fault.{Fault}
use Rattle.ctf_model.specs.declared.faults.TheConstants.Fault.{QUOTA_FULL}
use Rattle.ctf_open.proofs.Creating.{created_done}
use Rattle.ctf_open.specs.Drafting.{IsEmptyOf, IsUnder, IsWritten}
use Rattle.ctf_open.specs.Quotas.{IsUncreated, fits_in}
use Rattle.ctf_open.specs.declared.rooms.Room.{Room}

abbrev pub empty : DataModel → Draft
empty model = empty_draft None [] [] model

pub new_empty : (model : DataModel) (d : Draft) → new_draft None [] [] model ≡ Ok d → empty model ≡ d
unfolding new_draft
new_empty model d e = let same : empty model ≡ d = cc in same

made : (model : DataModel) → new_draft None [] [] model ≡ Ok (empty model)
unfolding new_draft
made model = refl

-- the dictionary denotes the empty draft
pub empty_denotes : (model : DataModel) (kept : Kept) (d : Draft) → IsEmptyOf model kept → new_draft None [] [] model ≡ Ok d → Denotes kept.lists (content d)
empty_denotes model kept d w e =
    let sound : IsSound (empty model) = new_sound None [] [] model (empty model) refl (made model) in
    let wrote = draft_denoted (empty model) kept.lists.ctf sound w.bytes in
    let lists : kept.lists ≡ lists_of kept.lists.ctf = ap (λ (k : Kept). k.lists) w.alone in
    let denotes = subst (λ (l : Lists). Denotes l (content (empty model))) (sym lists) wrote in
    subst (λ (x : Draft). Denotes kept.lists (content x)) (new_empty model d e) denotes

pub empty_model : (model : DataModel) (kept : Kept) (d : Draft) → IsEmptyOf model kept → new_draft None [] [] model ≡ Ok d → kept.model ≡ d.model
empty_model model kept d w e = ap (λ (k : Kept). k.model) w.alone ∙ ap (λ (x : Draft). x.model) (new_empty model d e)

pub written_empty : (model : DataModel) (kept : Kept) (d : Draft) → IsEmptyOf model kept → new_draft None [] [] model ≡ Ok d → IsWritten d kept
written_empty model kept d w e = subst (λ (x : Draft). IsWritten x kept) (new_empty model d e) w

-- after the update, it is the draft's dictionary
pub settled_empty : (model : DataModel) (kept : Kept) (d now : Draft) → IsEmptyOf model kept → new_draft None [] [] model ≡ Ok d → now ≡ commit d → IsWritten (rollback now) kept
settled_empty model kept d now w e settles =
    subst (λ (x : Draft). IsWritten (rollback x) kept) (sym settles) (subst (λ (x : Draft). IsWritten (rollback (commit x)) kept) (new_empty model d e) w)

pub settled_under : (above : Option Kept) (d now : Draft) → IsUnder d above → now ≡ commit d → IsUnder now above
settled_under above d now u settles =
    subst (λ (x : Draft). IsUnder x above) (sym settles) (record { parent = u.parent; model = u.model })

-- what a create gives
pub created_over : (model : DataModel) (kept : Kept) (d now : Draft) → IsEmptyOf model kept → new_draft None [] [] model ≡ Ok d → now ≡ commit d → created None [] [] model ≡ Ok (record { own = kept; parent = None; draft = Some now })
created_over model kept d now w e settles = created_done None None [] [] model d now kept e (written_empty model kept d w e) refl settles

more_by_none : (n : ℕ) → n + 0 ≡ n
more_by_none n = omega arith

pub fits_alone : (room : Option Room) (n : ℕ) (b : Bool) → fits_in room n ≡ b → fits_in room (n + 0) ≡ b
fits_alone room n b e = ap (λ (k : ℕ). fits_in room k) (more_by_none n) ∙ e

pub empty_uncreated : (model : DataModel) (kept : Kept) (room : Option Room) → IsEmptyOf model kept → fits_in room (kept_bytes kept) ≡ false → IsUncreated (created None [] [] model) room (placeless QUOTA_FULL)
empty_uncreated model kept room w full =
    subst (λ (r : Result Open Fault). IsUncreated r room (placeless QUOTA_FULL)) (sym (created_over model kept (empty model) (commit (empty model)) w (made model) refl)) (refl, fits_alone room (kept_bytes kept) false full)

-- the dictionary of what was created
pub created_empty : (model : DataModel) (s : Open) → created None [] [] model ≡ Ok s → IsEmptyOf model s.own
unfolding created new_draft
created_empty model s e = at (written (content (empty model))) refl e
  where
    at : (r : Result (List ℕ) Fault) → written (content (empty model)) ≡ r → settled_as None (empty model) r ≡ Ok s → IsEmptyOf model s.own
    at (Ok bytes) w is =
        let same : record { own = record { lists = lists_of bytes; model = model }; parent = None; draft = Some (commit (empty model)) } ≡ s = cc in
        subst (λ (o : Open). IsEmptyOf model o.own) same (record { bytes = w; alone = refl })
    at (Err f) w is = absurd cc
