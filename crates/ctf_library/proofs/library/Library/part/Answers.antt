use Rattle.std.proofs.Common.{◌≡◌, ◌<◌, ◌+◌, Ok, Err, false, ap, refl, sym, subst, ◌∙◌, arith}
use Rattle.std.proofs.lemmas.Result.{err_from_is_err_and}
use Rattle.ctf_library.proofs.Counting.{counted_charge, staged_counted}
use Rattle.ctf_library.proofs.Quota.{part_makes, part_refused}
use Rattle.ctf_library.proofs.Rooms.{room_le, room_lt}
use Rattle.std.proofs.Common.{length, map}
use Rattle.ctf_library.specs.SlotView.{slot_of}
use Rattle.ctf_library.specs.Stepping.{Makes}
use Rattle.ctf_protocol.specs.answers.Answers.{Answer}
use Rattle.ctf_protocol.specs.sessions.Charges.{charge}
use Rattle.ctf_protocol.specs.sessions.Outcomes.{quota}
use Rattle.ctf_protocol.specs.sessions.Steps.{parts}
use Rattle.ctf_protocol.specs.sessions.State.{State}
use Rattle.ctf_library.specs.Charged.{IsCounted}
use Rattle.ctf_library.proofs.library.Library.part.Goals.{After-add}
use Rattle.ctf_library.proofs.library.Library.part.Goals as goal

-- the sums, whether or not the part was added
counted : (c : After-add) → IsCounted c.self.inside.slots.items c.self.inside.published c.add.new.self c.self.inside.slot_bytes
counted c =
    let charged = c.charge.ensures ∙ counted_charge _ _ _ _ _ _ c.self.view_is c.self.invariant.2 in
    staged_counted c.add.result c.args.list c.args.piece.now _ _ _ _ _ c.charge.result c.fits-has_room.result c.add.ensures.staged c.add.ensures.fits c.add.ensures.err c.fits-has_room.ensures charged c.self.invariant.2

pub invariant_of-self : goal.invariant_of-self
invariant_of-self c = (c.self.invariant.0, c.self.invariant.1, counted (goal.at.invariant_of-self c).After-add)

pub invariant_of-self-2 : goal.invariant_of-self-2
invariant_of-self-2 c = (c.self.invariant.0, c.self.invariant.1, counted (goal.at.invariant_of-self-2 c).After-add)

pub returns : goal.returns
returns c =
    let inside : State = record { slots = map slot_of c.self.inside.slots.items; next = c.self.inside.next; stage = c.self.inside.stage; published = c.self.inside.published } in
    let stage = c.add.new.self in
    let known = c.charge.ensures in
    let same : charge inside ≡ charge c.args.self.now = ap charge c.self.view_is in
    let le = room_le (c.charge.result + length c.args.piece.now) (sym c.fits-has_room.ensures ∙ c.in_ok-length.ensures.fits) in
    let made = part_makes c.args.list c.args.piece.now inside stage c.in_ok-length.length (Ok c.one.result) c.in_ok-length.ensures.staged c.in_ok-length.ensures.short (omega (arith, le, known, same)) (ap (λ (a : Answer). Ok a) c.one.ensures) in
    subst (λ (s : State). Makes s (parts c.args.list c.args.piece.now s) (Ok c.one.result) (record inside { stage = stage })) c.self.view_is made

pub returns-in_err-length : goal.returns-in_err-length
returns-in_err-length c =
    let p = err_from_is_err_and c.from_residual.result c.from_residual.ensures.1 in
    let inside : State = record { slots = map slot_of c.self.inside.slots.items; next = c.self.inside.next; stage = c.self.inside.stage; published = c.self.inside.published } in
    let stage = c.add.new.self in
    let known = c.charge.ensures in
    let same : charge inside ≡ charge c.args.self.now = ap charge c.self.view_is in
    let over : c.fits-has_room.result ≡ false → quota < charge inside + length c.args.piece.now = λ e. let lt = room_lt (c.charge.result + length c.args.piece.now) (sym c.fits-has_room.ensures ∙ e) in omega (arith, lt, known, same) in
    let fault = c.in_err-length.field-0.0 in
    let made = part_refused c.args.list c.args.piece.now inside stage fault c.fits-has_room.result (Err fault) c.in_err-length.ensures.full over c.in_err-length.ensures.err refl in
    rw (p.1, p.2) (subst (λ (s : State). Makes s (parts c.args.list c.args.piece.now s) (Err fault) (record inside { stage = stage })) c.self.view_is made)
