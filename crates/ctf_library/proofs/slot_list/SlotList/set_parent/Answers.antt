use Rattle.std.proofs.Common.{refl, subst, sym}
use Rattle.std.specs.List.Sorted.{IsNonDecreasingBy}
use Rattle.ctf_library.proofs.Rising.{others_in_order}
use Rattle.ctf_library.specs.SlotItems.{SlotItems}
use Rattle.ctf_library.specs.declared.slots.Slot as own
use Rattle.ctf_library.proofs.slot_list.SlotList.set_parent.Goals as goal

pub set_parent-requires-clause-order : goal.set_parent-requires-clause-order
set_parent-requires-clause-order c = others_in_order c.self.inside.first c.self.inside.others.items _ refl (subst (λ (s : SlotItems). IsNonDecreasingBy (λ (x : own.Slot). x.number) s.items) (sym c.self.view_is) c.requires.order)
