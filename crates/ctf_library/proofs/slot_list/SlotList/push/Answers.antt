use Rattle.std.proofs.Common.{◌≡◌, true, subst, sym}
use Rattle.ctf_library.proofs.Rising.{rise_pushed_later}
use Rattle.ctf_library.specs.SlotItems.{SlotItems}
use Rattle.ctf_library.specs.SlotOrder.{rise_between}
use Rattle.ctf_library.proofs.slot_list.SlotList.push.Goals as goal

pub returns-clause-rise : goal.returns-clause-rise
returns-clause-rise c = λ h. rise_pushed_later c.self.inside.first c.self.inside.others.items _ c.args.slot c.push_slot.ensures.items (subst (λ (s : SlotItems). rise_between 0 s.items c.args.slot.number ≡ true) (sym c.self.view_is) h)
