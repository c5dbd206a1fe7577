-- The stored sums of a library.
use Rattle.std.proofs.Common.{◌≡◌, ◌+◌, ℕ, List, map, length, Bool, true, Result, Ok, Err, ap, sym, subst, ◌∙◌, arith}
use Rattle.std.specs.Prelude.{IfOk, OnErr, OnOk, nat_lt, not}
use Rattle.ctf_library.specs.Charged.{IsCounted, bytes_published}
use Rattle.ctf_library.specs.Quotas.{IsStaged}
use Rattle.ctf_library.specs.SlotView.{slot_of}
use Rattle.ctf_library.specs.declared.slots.Slot as own
use Rattle.ctf_library.proofs.Rooms.{room_le}
use Rattle.ctf_model.specs.format.Lists.{Lists}
use Rattle.ctf_model.specs.declared.faults.Fault.{Fault}
use Rattle.ctf_protocol.proofs.Charged.{charge_is, staged_more}
use Rattle.ctf_protocol.specs.sessions.Charges.{charge}
use Rattle.ctf_model.specs.opened.Sizes.{lists_bytes}
use Rattle.ctf_protocol.specs.sessions.State.{Publication, State}
use Rattle.ctf_protocol.specs.sessions.Outcomes.{quota}
use Rattle.ctf_protocol.specs.declared.requests.ListName.{ListName}

-- the charge, from the stored sums
pub counted_charge : (held : List own.Slot) (out : List Publication) (stage : Lists) (next a : ℕ) (s : State) → record { slots = map slot_of held; next = next; stage = stage; published = out } ≡ s → IsCounted held out stage a → charge s ≡ lists_bytes stage + (a + bytes_published out)
counted_charge held out stage next a s is n =
    let here : State = record { slots = map slot_of held; next = next; stage = stage; published = out } in
    let slots = n.slots in
    let same = ap charge is in
    omega (arith, charge_is here, slots, same)

-- ---- a staged part

pub staged_counted : (r : Result ℕ Fault) (list : ListName) (piece : List ℕ) (held : List own.Slot) (out : List Publication) (old new : Lists) (a k : ℕ) (room : Bool) → IfOk r (λ n. IsStaged list piece old new n) → OnOk r (room ≡ true) → OnErr r (new ≡ old) → room ≡ not (nat_lt quota (k + length piece)) → k ≡ lists_bytes old + (a + bytes_published out) → IsCounted held out old a → IsCounted held out new a
staged_counted (Ok n) list piece held out old new a k room staged fits same is charged counted =
    let le = room_le (k + length piece) (sym is ∙ fits) in
    let grown = ap lists_bytes staged.lists ∙ staged_more list piece old in
    record { slots = counted.slots; small = omega (arith, le, grown, charged) }
staged_counted (Err f) list piece held out old new a k room staged fits same is charged counted =
    subst (λ (stage : Lists). IsCounted held out stage a) (sym same) counted
