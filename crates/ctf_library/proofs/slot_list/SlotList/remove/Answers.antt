use Rattle.std.proofs.Common.{refl, subst, sym}
use Rattle.std.specs.List.Sorted.{IsNonDecreasingBy}
use Rattle.ctf_library.proofs.Rising.{others_in_order}
use Rattle.ctf_library.specs.SlotItems.{SlotItems}
use Rattle.ctf_library.specs.declared.slots.Slot as own
use Rattle.ctf_library.proofs.slot_list.SlotList.remove.Goals as goal

pub remove_slot-requires : goal.remove_slot-requires
remove_slot-requires c = others_in_order c.self.inside.first c.self.inside.others.items _ refl (subst (λ (s : SlotItems). IsNonDecreasingBy (λ (x : own.Slot). x.number) s.items) (sym c.self.view_is) c.requires)
