use Rattle.std.proofs.Common.{◌≡◌, ◌⊎◌, ℕ, List, length, Some, Ok, refl, ap, sym, ◌∙◌, arith}
use Rattle.std.proofs.lemmas.Result.{err_from_is_err_and}
use Rattle.std.specs.Prelude.{◌==◌, not, option_copied}
use Rattle.ctf_library.proofs.Creating.{create_made, create_refused, either}
use Rattle.ctf_library.proofs.Rooms.{room_le}
use Rattle.ctf_model.specs.rules.Refusals.{out_of_memory}
use Rattle.ctf_open.specs.Quotas.{IsUncreated}
use Rattle.ctf_model.specs.opened.Sizes.{parent_bytes}
use Rattle.ctf_model.specs.opened.Steps.{created}
use Rattle.ctf_protocol.specs.sessions.DraftSteps.{model_made}
use Rattle.ctf_protocol.specs.sessions.Outcomes.{quota}
use Rattle.ctf_library.proofs.slots.Slot.create.Goals as goal

pub create-requires : goal.create-requires
create-requires c = c.requires ∙ ap (λ (name : List ℕ). not (length name == 0)) (sym c.parname-parname.ensures)

pub returns-clause-ok : goal.returns-clause-ok
returns-clause-ok c =
    let made : created (option_copied c.args.parent) c.args.creation.now.parname c.args.creation.now.parlabel (model_made (option_copied c.args.parent) c.args.creation.now) ≡ Ok c.in_ok-draft.draft = rw (← c.parname-parname.ensures, ← c.parlabel-parlabel.ensures, ← c.model_of-model.ensures) c.in_ok-draft.ensures.ok in
    (create_made c.args.number (option_copied c.args.parent) c.args.creation.now _ made, refl)

pub returns-clause-room : goal.returns-clause-room
returns-clause-room c =
    let le = room_le _ c.in_ok-draft.ensures.room in
    let alike = ap parent_bytes c.in_ok-draft.ensures.above in
    omega (arith, le, alike)

pub returns-in_err-draft-clause-exact_err : goal.returns-in_err-draft-clause-exact_err
returns-in_err-draft-clause-exact_err c =
    let p = err_from_is_err_and c.from_residual.result c.from_residual.ensures.1 in
    let refused : (c.in_err-draft.field-0.0 ≡ out_of_memory) ⊎ IsUncreated (created (option_copied c.args.parent) c.args.creation.now.parname c.args.creation.now.parlabel (model_made (option_copied c.args.parent) c.args.creation.now)) (Some (record { others = c.args.others; most = quota })) c.in_err-draft.field-0.0 = rw (← c.parname-parname.ensures, ← c.parlabel-parlabel.ensures, ← c.model_of-model.ensures) c.in_err-draft.ensures.exact_err in
    rw (p.1, p.2) (either (create_refused c.args.number c.args.others (option_copied c.args.parent) c.args.creation.now c.in_err-draft.field-0.0) refused)
