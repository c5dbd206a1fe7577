use Rattle.ctf_library.proofs.DraftPlaces.{discard_is_quiet}
use Rattle.ctf_library.specs.SlotView.{slot_of}
use Rattle.ctf_library.proofs.places.step_slot.Goals as goal

pub returns-clause-quiet : goal.returns-clause-quiet
returns-clause-quiet c = λ e want. discard_is_quiet (slot_of c.args.slot.now) c.args.step.now _ e (c.step-stepped.ensures.quiet e) want
