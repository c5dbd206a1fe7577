use Rattle.std.proofs.Common.{◌+◌, Ok, refl, inl, inr, ap, arith}
use Rattle.std.proofs.lemmas.Result.{err_from_is_err_and}
use Rattle.ctf_library.specs.SlotView.{slot_of}
use Rattle.ctf_library.proofs.DraftSteps.{update_done, update_refused}
use Rattle.ctf_library.proofs.Rooms.{room_le}
use Rattle.ctf_model.specs.opened.Open.{Open}
use Rattle.ctf_model.specs.opened.Sizes.{kept_bytes, parent_bytes}
use Rattle.ctf_protocol.specs.answers.Answers.{Answer}
use Rattle.ctf_library.proofs.slots.Slot.update.Goals as goal

pub returns-clause-step : goal.returns-clause-step
returns-clause-step c =
    update_done c.args.others (slot_of c.args.self.now) _ _ _ c.in_ok-types.ensures.ok c.in_ok-types.ensures.room c.in_ok-types.ensures.parent (ap (λ (a : Answer). Ok a) c.one.ensures)

pub returns-clause-room : goal.returns-clause-room
returns-clause-room c =
    let le = room_le _ c.in_ok-types.ensures.room in
    let alike = ap parent_bytes c.in_ok-types.ensures.parent in
    inr (omega (arith, le, alike))

pub returns-in_err-types-clause-step : goal.returns-in_err-types-clause-step
returns-in_err-types-clause-step c =
    let p = err_from_is_err_and c.from_residual.result c.from_residual.ensures.1 in
    rw (p.1, p.2) (update_refused c.args.others (slot_of c.args.self.now) _ c.in_err-types.field-0.0 _ c.in_err-types.ensures.exact_err c.in_err-types.ensures.as_before refl)

pub returns-in_err-types-clause-room : goal.returns-in_err-types-clause-room
returns-in_err-types-clause-room c = inl (ap (λ (o : Open). kept_bytes o.own + parent_bytes o.parent) c.in_err-types.ensures.as_before)
