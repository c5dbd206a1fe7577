use Rattle.std.proofs.Common.{ap, sym, ◌∙◌}
use Rattle.ctf_library.proofs.Quota.{refused_creates}
use Rattle.std.specs.Prelude.{is_some, option_and_then, option_map}
use Rattle.std.proofs.lemmas.Result.{IfErr-weaker, IfOk-weaker}
use Rattle.ctf_protocol.specs.sessions.State.{Slot, State}
use Rattle.ctf_protocol.specs.sessions.Slots.{slot_at}
use Rattle.ctf_library.proofs.Creating.{creates_done, either, map_there}
use Rattle.ctf_library.proofs.library.Library.new_slot.Goals as goal

pub returns-clause-ok : goal.returns-clause-ok
returns-clause-ok c =
    let is = c.in_ok-parent.ensures.ok ∙ ap (option_and_then (λ d. option_map (λ (s : Slot). s.kept) (slot_at d c.args.self.now.slots))) c.parent.ensures.parent in
    let there = map_there _ c.in_ok-parent.parent ∙ c.in_ok-parent.ensures.there ∙ ap is_some c.parent.ensures.parent in
    let room = sym c.has_room.ensures ∙ c.if-not-has_room.false in
    let next = ap (λ (s : State). s.next) c.self.view_is in
    IfOk-weaker c.create.result _ _ (λ slot h. (creates_done c.args.creation.now c.args.self.now _ _ _ is there room next h.0, h.1 ∙ next)) c.create.ensures.ok

pub returns-clause-exact_err : goal.returns-clause-exact_err
returns-clause-exact_err c =
    let is = c.in_ok-parent.ensures.ok ∙ ap (option_and_then (λ d. option_map (λ (s : Slot). s.kept) (slot_at d c.args.self.now.slots))) c.parent.ensures.parent in
    let there = map_there _ c.in_ok-parent.parent ∙ c.in_ok-parent.ensures.there ∙ ap is_some c.parent.ensures.parent in
    let room = sym c.has_room.ensures ∙ c.if-not-has_room.false in
    let next = ap (λ (s : State). s.next) c.self.view_is in
    IfErr-weaker c.create.result _ _ (λ f h. either (refused_creates c.args.creation.now c.args.self.now _ _ c.charge.result f is there room next c.charge.ensures) h) c.create.ensures.exact_err
