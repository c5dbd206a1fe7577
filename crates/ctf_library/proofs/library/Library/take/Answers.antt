use Rattle.std.proofs.Common.{◌≡◌, ◌+◌, rules, refl, inl, ap, sym, ◌∙◌, arith}
use Rattle.ctf_library.specs.Charged.{bytes_in}
use Rattle.ctf_protocol.specs.sessions.Charges.{slot_bytes}
use Rattle.ctf_model.specs.opened.Sizes.{kept_bytes}
use Rattle.ctf_library.specs.SlotView.{slot_of}
use Rattle.ctf_library.proofs.Counting.{counted_charge}
use Rattle.ctf_library.proofs.Quota.{takes_done, takes_over}
use Rattle.ctf_library.proofs.Rooms.{room_le, room_lt}
use Rattle.ctf_library.proofs.library.Library.take.Goals as goal

pub returns-then-not-fits : goal.returns-then-not-fits
returns-then-not-fits c =
    let lt = room_lt (c.charge.result + c.bytes-bytes.result) (sym c.fits.ensures ∙ c.if-not-fits.true) in
    let charged = c.charge.ensures in
    let count = c.bytes-bytes.ensures.count in
    let to = takes_over c.args.found c.in-Some.loaded c.args.self.now (sym c.has_room.ensures ∙ c.if-not-has_room.false) c.in-Some.is (omega (arith, lt, charged, count)) in
    rw to (inl (search rules, refl))

pub overflow_add-self : goal.overflow_add-self
overflow_add-self c =
    let le = room_le (c.charge.result + c.bytes-bytes.result) (sym c.fits.ensures ∙ c.if-not-fits.false) in
    let charged = c.charge.ensures ∙ counted_charge _ _ _ _ _ _ c.self.view_is c.self.invariant.2 in
    omega (arith, le, charged)

pub invariant_of-self-2 : goal.invariant_of-self-2
invariant_of-self-2 c =
    let le = room_le (c.charge.result + c.bytes-bytes.result) (sym c.fits.ensures ∙ c.if-not-fits.false) in
    let charged = c.charge.ensures ∙ counted_charge _ _ _ _ _ _ c.self.view_is c.self.invariant.2 in
    let count = c.bytes-bytes.ensures.count in
    let pushed = c.push.ensures.bytes in
    let slot : slot_bytes (slot_of c.of.result) ≡ kept_bytes c.in-Some.loaded + 0 = ap slot_bytes c.of.ensures in
    let items : bytes_in c.reserve.new.self.items ≡ bytes_in c.self.inside.slots.items = ap bytes_in c.reserve.ensures.items in
    let was = c.self.invariant.2.slots in
    (search rules, search rules, record { slots = omega (arith, pushed, slot, items, was, count); small = omega (arith, le, charged) })

pub returns : goal.returns
returns c =
    let le = room_le (c.charge.result + c.bytes-bytes.result) (sym c.fits.ensures ∙ c.if-not-fits.false) in
    let charged = c.charge.ensures in
    let count = c.bytes-bytes.ensures.count in
    let to = takes_done c.args.found c.in-Some.loaded c.args.self.now (sym c.has_room.ensures ∙ c.if-not-has_room.false) c.in-Some.is (omega (arith, le, charged, count)) in
    rw to (inl (search rules, search rules))
