use Rattle.std.proofs.Common.{sym, subst}
use Rattle.ctf_protocol.specs.declared.additions.Addition.{Addition}
use Rattle.ctf_protocol.specs.declared.requests.DraftStep.TheVariants.{Add}
use Rattle.ctf_library.specs.Drafting.{IsStepped}
use Rattle.ctf_library.specs.SlotView.{slot_of}
use Rattle.ctf_protocol.specs.sessions.DraftSteps.{slot_step}
use Rattle.ctf_library.proofs.slots.Slot.add.Goals as goal

pub returns-in-Type-clause-step : goal.returns-in-Type-clause-step
unfolding slot_step
returns-in-Type-clause-step c =
    subst (λ (a : Addition). IsStepped (slot_step (Add a) (slot_of c.args.self.now)) c.add_type.result (slot_of c.args.self.now) (slot_of c.add_type.new.self)) (sym c.in-Type.is) c.add_type.ensures.step

pub returns-in-Member-clause-step : goal.returns-in-Member-clause-step
unfolding slot_step
returns-in-Member-clause-step c =
    subst (λ (a : Addition). IsStepped (slot_step (Add a) (slot_of c.args.self.now)) c.add_member.result (slot_of c.args.self.now) (slot_of c.add_member.new.self)) (sym c.in-Member.is) c.add_member.ensures.step

pub returns-in-Label-clause-step : goal.returns-in-Label-clause-step
unfolding slot_step
returns-in-Label-clause-step c =
    subst (λ (a : Addition). IsStepped (slot_step (Add a) (slot_of c.args.self.now)) c.add_label.result (slot_of c.args.self.now) (slot_of c.add_label.new.self)) (sym c.in-Label.is) c.add_label.ensures.step
