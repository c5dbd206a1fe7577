-- The result of a new draft and of an update.
use Rattle.std.proofs.Common.{◌≡◌, ◌+◌, ℕ, true, arith, List, length, Option, None, Some, Result, Ok, Err, refl, ap, sym, subst, ◌∙◌, ◌⊎◌, inl, inr}
use Rattle.std.specs.Prelude.{option_map}
use Rattle.ctf_model.specs.opened.Steps.{Stepped, with_count, created, settled_as, step_update, updated_if, updated_over}
use Rattle.ctf_model.specs.opened.Open.{Open}
use Rattle.ctf_open.specs.Drafting.{IsWritten}
use Rattle.ctf_open.specs.Quotas.{IsRefused, IsUncreated, IsUnwritten, fits_in}
use Rattle.ctf_open.specs.declared.rooms.Room.{Room}
use Rattle.ctf_model.specs.opened.Sizes.{kept_bytes, parent_bytes}
use Rattle.ctf_model.specs.drafts.Drafts.{Draft, content, new_draft, commit}
use Rattle.ctf_model.specs.spaces.Kept.{Kept, kept_dictionary, modelled_by}
use Rattle.ctf_model.specs.writing.Written.{written}
use Rattle.ctf_model.specs.declared.data_model.DataModel.{DataModel}
use Rattle.ctf_model.specs.declared.faults.Fault.{Fault}

abbrev pub MadeOf : Option Kept → List ℕ → List ℕ → DataModel → Result Draft Fault
MadeOf above parname parlabel model = new_draft (option_map modelled_by above) parname parlabel model

-- a written draft is settled as its dictionary
settled_done : (above parent : Option Kept) (d now : Draft) (kept : Kept) → IsWritten d kept → parent ≡ above → now ≡ commit d → settled_as above d (written (content d)) ≡ Ok (record { own = kept; parent = parent; draft = Some now })
settled_done above parent d now kept w same settles =
    rw (same, settles) (ap (settled_as above d) w.bytes ∙ ap (λ (k : Kept). Ok (record { own = k; parent = above; draft = Some (commit d) })) (sym w.alone))

pub created_done : (above parent : Option Kept) (parname parlabel : List ℕ) (model : DataModel) (d now : Draft) (kept : Kept) → MadeOf above parname parlabel model ≡ Ok d → IsWritten d kept → parent ≡ above → now ≡ commit d → created above parname parlabel model ≡ Ok (record { own = kept; parent = parent; draft = Some now })
unfolding created
created_done above parent parname parlabel model d now kept made w same settles =
    ap (updated_over above) made ∙ settled_done above parent d now kept w same settles

more_by_nothing : (n m : ℕ) → (n + (0 + 0)) + m ≡ n + m
more_by_nothing n m = omega arith

-- the written bytes are everything that is stored
pub written_fits : (d : Draft) (kept : Kept) (room : Option Room) (parent : ℕ) → IsWritten d kept → fits_in room (length kept.lists.ctf + parent) ≡ true → fits_in room (kept_bytes kept + parent) ≡ true
written_fits d kept room parent w fits =
    let alone : kept_bytes kept ≡ length kept.lists.ctf + (0 + 0) = ap kept_bytes w.alone in
    ap (λ (n : ℕ). fits_in room n) (ap (λ (n : ℕ). n + parent) alone ∙ more_by_nothing (length kept.lists.ctf) parent) ∙ fits

unwritten_as : (above : Option Kept) (d : Draft) (room : Option Room) (f : Fault) (r : Result (List ℕ) Fault) → IsUnwritten r (parent_bytes above) room f → IsUncreated (settled_as above d r) room f
unwritten_as above d room f (Ok bytes) h = (h.0, ap (λ (n : ℕ). fits_in room n) (more_by_nothing (length bytes) (parent_bytes above)) ∙ h.1)
unwritten_as above d room f (Err g) h = h

pub created_unwritten : (above : Option Kept) (parname parlabel : List ℕ) (model : DataModel) (d : Draft) (room : Option Room) (f : Fault) → MadeOf above parname parlabel model ≡ Ok d → IsUnwritten (written (content d)) (parent_bytes above) room f → IsUncreated (created above parname parlabel model) room f
unfolding created
created_unwritten above parname parlabel model d room f made refused =
    subst (λ (r : Result Open Fault). IsUncreated r room f) (sym (ap (updated_over above) made)) (unwritten_as above d room f (written (content d)) refused)

pub created_unmade : (above : Option Kept) (parname parlabel : List ℕ) (model : DataModel) (room : Option Room) (f : Fault) → MadeOf above parname parlabel model ≡ Err f → IsUncreated (created above parname parlabel model) room f
unfolding created
created_unmade above parname parlabel model room f refused =
    subst (λ (r : Result Open Fault). IsUncreated r room f) (sym (ap (updated_over above) refused)) refl

-- without a limit, a refusal means that it was not made
pub uncreated_free : (r : Result Open Fault) (f : Fault) → IsUncreated r None f → r ≡ Err f
uncreated_free (Ok s) f h = let no = h.1 in absurd cc
uncreated_free (Err g) f h = ap (λ (x : Fault). Err x) (sym h)

pub refused_free : (r : Result Stepped Fault) (f : Fault) → IsRefused r None f → r ≡ Err f
refused_free (Ok step) f h = let no = h.1 in absurd cc
refused_free (Err g) f h = ap (λ (x : Fault). Err x) (sym h)

-- an error of either sort
pub either : {A B C : Type 0} → (B → C) → A ⊎ B → A ⊎ C
either f (inl a) = inl a
either f (inr b) = inr (f b)

-- ---- updates

updates : (s : Open) (d : Draft) → s.draft ≡ Some d → step_update s ≡ with_count (settled_as s.parent d (written (content d)))
updates s d e = ap (updated_if s.parent) e

pub update_done : (s : Open) (parent : Option Kept) (d now : Draft) (kept : Kept) (n : ℕ) → s.draft ≡ Some d → IsWritten d kept → parent ≡ s.parent → now ≡ commit d → n ≡ length (kept_dictionary kept).terms → step_update s ≡ Ok (record { served = record { own = kept; parent = parent; draft = Some now }; answer = n })
update_done s parent d now kept n e w same settles count =
    updates s d e ∙ ap with_count (settled_done s.parent parent d now kept w same settles)
    ∙ ap (λ (k : ℕ). Ok (record { served = record { own = kept; parent = parent; draft = Some now }; answer = k })) (sym count)

refused_as : (s : Open) (d : Draft) (room : Option Room) (f : Fault) (r : Result (List ℕ) Fault) → IsUnwritten r (parent_bytes s.parent) room f → IsRefused (with_count (settled_as s.parent d r)) room f
refused_as s d room f (Ok bytes) h = (h.0, ap (λ (n : ℕ). fits_in room n) (more_by_nothing (length bytes) (parent_bytes s.parent)) ∙ h.1)
refused_as s d room f (Err g) h = h

pub update_refused : (s : Open) (d : Draft) (room : Option Room) (f : Fault) → s.draft ≡ Some d → IsUnwritten (written (content d)) (parent_bytes s.parent) room f → IsRefused (step_update s) room f
update_refused s d room f e refused =
    subst (λ (r : Result Stepped Fault). IsRefused r room f) (sym (updates s d e)) (refused_as s d room f (written (content d)) refused)
