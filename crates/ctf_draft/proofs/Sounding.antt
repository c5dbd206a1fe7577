-- Drafts in code are sound.
use Rattle.std.proofs.Common.{◌≡◌, ℕ, false, List, length, Option, Some, None, Result, Ok, Err, is_some, option_map, refl, sym, subst}
use Rattle.std.specs.Prelude.{not, ◌==◌, OnErr, OnOk, FitsSigned}
use Rattle.std.specs.Int.{w32}
use Rattle.ctf_model.specs.drafts.Adders.{add_enumerator, against_enumerator, body_at, replace_body, with_enumerator, with_member}
use Rattle.ctf_model.specs.format.Dictionary.{said_by}
use Rattle.ctf_model.specs.drafts.DraftLaws.{IsSound}
use Rattle.ctf_model.specs.drafts.Drafts.{Draft, above, empty_draft, has_zero, is_childs, is_of_other, new_draft}
use Rattle.ctf_model.specs.spaces.Imports.{Modelled}
use Rattle.ctf_model.specs.rules.Judgements.{first_met}
use Rattle.ctf_model.specs.spaces.Kept.{Kept, modelled_by}
use Rattle.ctf_model.specs.format.Term.{Enumerator}
use Rattle.ctf_model.specs.declared.data_model.DataModel.{DataModel}
use Rattle.ctf_model.proofs.SoundDrafts.{enumerator_sound, member_sound, new_sound}
use Rattle.ctf_draft.specs.Planning.{against_name, planned}
use Rattle.ctf_draft.specs.declared.plan.Plan.{Plan}
use Rattle.ctf_draft.proofs.MemberAdded.{member_accepted}

-- after a change that succeeded, or left everything as it was
pub either_sound : {A E : Type 0} (r : Result A E) (before changed after : Draft) → OnOk r (after ≡ changed) → OnErr r (after ≡ before) → IsSound before → IsSound changed → IsSound after
either_sound (Ok a) before changed after is same old new = subst IsSound (sym is) new
either_sound (Err e) before changed after is same old new = subst IsSound (sym same) old

pub empty_sound : (parent : Option Modelled) (parname parlabel : List ℕ) (model : DataModel) → is_some parent ≡ not (length parname == 0) → has_zero parname ≡ false → has_zero parlabel ≡ false → is_childs (above parent) ≡ false → is_of_other model parent ≡ false → IsSound (empty_draft (above parent) parname parlabel model)
unfolding new_draft
empty_sound parent parname parlabel model named clean clean_label grown_up alike =
    new_sound parent parname parlabel model (empty_draft (above parent) parname parlabel model) named (rw (clean, clean_label, grown_up, alike) refl)

-- parents as given to a draft, and without their models
pub same_above : {P : Type 0} (kept : P → Kept) (parent : Option P) → option_map (λ p. said_by (kept p).lists) parent ≡ above (option_map (λ p. modelled_by (kept p)) parent)
same_above kept None = refl
same_above kept (Some p) = refl

-- a member added at its planned offset
pub planned_sound : (d : Draft) (n : ℕ) (name : List ℕ) (tnum : ℕ) (offset : Option ℕ) (p : Plan) → IsSound d → against_name d n name tnum ≡ None → planned d n tnum offset ≡ Ok p → IsSound (replace_body d n (with_member (record { name = name; tnum = tnum; offset = p.offset }) p.size (body_at d n)))
planned_sound d n name tnum offset p ok none h =
    member_sound d n name tnum offset (record { draft = replace_body d n (with_member (record { name = name; tnum = tnum; offset = p.offset }) p.size (body_at d n)); answer = p.offset }) ok (member_accepted d n name tnum offset p none h)

pub enumerated_sound : (d : Draft) (n : ℕ) (e : Enumerator) → IsSound d → FitsSigned w32 e.value → first_met (against_enumerator d n e.name) ≡ None → IsSound (replace_body d n (with_enumerator e (body_at d n)))
unfolding add_enumerator
enumerated_sound d n e ok low none = enumerator_sound d n e (replace_body d n (with_enumerator e (body_at d n))) ok low (rw none refl)
