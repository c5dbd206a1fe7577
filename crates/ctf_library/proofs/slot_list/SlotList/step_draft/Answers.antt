use Rattle.std.proofs.Common.{◌≡◌, ◌+◌, ◌++◌, ◌∷◌, ℕ, List, Option, map, refl, ap, subst, sym, ◌∙◌}
use Rattle.std.proofs.lemmas.Bool.{ne_eqb}
use Rattle.std.specs.List.Sorted.{IsNonDecreasingBy}
use Rattle.std.specs.Option.{option_to_list}
use Rattle.ctf_library.proofs.DraftPlaces.{later_stepped}
use Rattle.ctf_library.proofs.Rising.{others_in_order}
use Rattle.ctf_library.specs.Drafting.{HaveStepped}
use Rattle.ctf_library.specs.SlotItems.{SlotItems}
use Rattle.ctf_library.specs.SlotView.{slot_of}
use Rattle.ctf_library.specs.declared.slots.Slot as own
use Rattle.ctf_protocol.specs.sessions.State.{Slot}
use Rattle.ctf_library.proofs.slot_list.SlotList.step_draft.Goals as goal

pub step_draft-stepped-requires-clause-order : goal.step_draft-stepped-requires-clause-order
step_draft-stepped-requires-clause-order c = others_in_order c.self.inside.first c.self.inside.others.items _ refl (subst (λ (s : SlotItems). IsNonDecreasingBy (λ (x : own.Slot). x.number) s.items) (sym c.self.view_is) c.requires.order)

pub returns-clause-slots : goal.returns-clause-slots
returns-clause-slots c =
    let first = slot_of c.in-Some.first in
    let others = map slot_of c.self.inside.others.items in
    let new = map slot_of c.step_draft-stepped.new.slots.items in
    let stepped = subst (λ (k : ℕ). HaveStepped (c.args.others + k) c.args.step.now c.args.number c.step_draft-stepped.result others new) c.bytes-before.ensures c.step_draft-stepped.ensures.slots in
    let all : first ∷ others ≡ map slot_of c.args.self.now.items = ap (λ (o : Option own.Slot). map slot_of (option_to_list o ++ c.self.inside.others.items)) (sym c.in-Some.is) ∙ ap (λ (s : SlotItems). map slot_of s.items) c.self.view_is in
    subst (λ (xs : List Slot). HaveStepped c.args.others c.args.step.now c.args.number c.step_draft-stepped.result xs (first ∷ new)) all (later_stepped c.args.others c.args.step.now c.args.number first others new _ (ne_eqb c.in-Some.first.number c.args.number c.if-first-number.false) stepped)
