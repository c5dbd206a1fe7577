-- Properties of each change, for every library: one row per change.
use Rattle.std.proofs.Common.{◌≡◌, ◌≤◌, true, Option, refl}
use Rattle.ctf_model.specs.rules.Faults.{first_fault}
use Rattle.ctf_model.specs.spaces.Kept.{Kept}
use Rattle.ctf_protocol.specs.answers.KeyOrder.{IsInOrder, KeysRise}
use Rattle.ctf_protocol.specs.sessions.Charges.{charge}
use Rattle.ctf_protocol.specs.sessions.ChargeLaws.{RequestsStayWithinQuota}
use Rattle.ctf_protocol.specs.sessions.RefusalLaws.{RefusalsAreInTheTable, RefusalsChangeNothing}
use Rattle.ctf_protocol.specs.sessions.State.{State}
use Rattle.ctf_protocol.specs.sessions.Outcomes.{quota}
use Rattle.ctf_protocol.specs.sessions.Slots.{slot_at}
use Rattle.ctf_protocol.specs.sessions.Steps.{change_step, step}
use Rattle.ctf_protocol.specs.declared.requests.Change.{Change}
use Rattle.ctf_protocol.specs.declared.requests.Change.TheVariants as change
use Rattle.ctf_protocol.specs.declared.requests.Request.{Request}
use Rattle.ctf_protocol.specs.declared.requests.Request.TheVariants.{Changes, Asks}
use Rattle.ctf_protocol.proofs.KeyOrder as keys
use Rattle.ctf_protocol.proofs.TableCodes as codes
use Rattle.ctf_protocol.proofs.TableDrafts.{dictionary_good}
use Rattle.ctf_protocol.proofs.TableSteps as table
use Rattle.ctf_protocol.proofs.RefusedSteps as kept
use Rattle.ctf_protocol.proofs.WithinQuota as bounded

-- The keys of its answer ascend, and its refusals are in the table of faults. A refusal leaves the
-- library as it was, and no change exceeds the quota.
record Holds (state : State) (c : Change) (found : Option Kept) : Type 0 where
  in_order : IsInOrder (change_step state c found).reply.outcome
  has_row : table.right (change_step state c found) ≡ true
  stays : kept.Stays (change_step state c found) state
  within : charge state ≤ quota → bounded.Stays (change_step state c found)

each_change : (state : State) (c : Change) (found : Option Kept) → Holds state c found
unfolding change_step
each_change state (change.Part list piece) found = record {
  in_order = keys.staging list _ state _ refl;
  has_row = table.staged_right list _ state;
  stays = kept.staging _ list _ state refl;
  within = λ h. bounded.staging _ list _ state refl h;
}
each_change state change.Check found = record {
  in_order = keys.accepted (first_fault state.stage) state;
  has_row = table.accepted (first_fault state.stage) state (dictionary_good state.stage);
  stays = kept.accepting (first_fault state.stage) state;
  within = λ h. bounded.accepting (first_fault state.stage) state h;
}
each_change state (change.Open model) found = record {
  in_order = keys.opening model state _ refl;
  has_row = table.opens_right model state;
  stays = kept.opens_stay _ model state refl;
  within = λ h. bounded.opens_stay _ model state refl h;
}
each_change state change.Clear found = record {
  in_order = refl;
  has_row = refl;
  stays = kept.granted _ _ state;
  within = λ h. bounded.clearing state h;
}
each_change state change.Reset found = record {
  in_order = refl;
  has_row = refl;
  stays = kept.granted _ _ state;
  within = λ h. bounded.resetting state h;
}
each_change state (change.Close d) found = record {
  in_order = keys.closed d (slot_at d state.slots) state;
  has_row = table.at_slot _ (slot_at d state.slots) state (λ slot. refl);
  stays = kept.closing d (slot_at d state.slots) state;
  within = λ h. bounded.closing d (slot_at d state.slots) state refl h;
}
each_change state (change.Import d p) found = record {
  in_order = keys.importing d (slot_at d state.slots) (slot_at p state.slots) state;
  has_row = table.at_slot _ (slot_at d state.slots) state (λ child. table.at_slot _ (slot_at p state.slots) state (λ parent. table.import_right child d parent state));
  stays = kept.importing d (slot_at d state.slots) (slot_at p state.slots) state;
  within = λ h. bounded.importing d (slot_at d state.slots) (slot_at p state.slots) state h;
}
each_change state (change.Publish d name) found = record {
  in_order = keys.publishing name (slot_at d state.slots) state;
  has_row = table.at_slot _ (slot_at d state.slots) state (λ slot. table.publish_slot name slot state);
  stays = kept.publishing name (slot_at d state.slots) state;
  within = λ h. bounded.publishing name (slot_at d state.slots) state h;
}
each_change state (change.Withdraw name) found = record {
  in_order = keys.withdrawn _ name state refl;
  has_row = table.withdrawn name state;
  stays = kept.withdrawn _ name state refl;
  within = λ h. bounded.withdrawn _ name state refl h;
}
each_change state (change.Take owner name) found = record {
  in_order = keys.taking found state _ refl;
  has_row = table.takes_right found state;
  stays = kept.taking _ found state refl;
  within = λ h. bounded.taking _ found state refl h;
}
each_change state (change.Create asked) found = record {
  in_order = keys.created_from asked.parent asked state;
  has_row = table.from_right asked.parent asked state;
  stays = kept.created_from asked.parent asked state;
  within = λ h. bounded.created_from asked.parent asked state h;
}
each_change state (change.Draft d x) found = record {
  in_order = keys.stepping d x (slot_at d state.slots) state;
  has_row = table.at_slot _ (slot_at d state.slots) state (λ slot. table.becomes_right x d slot state);
  stays = kept.stepping x d (slot_at d state.slots) state refl;
  within = λ h. bounded.stepping x d (slot_at d state.slots) state refl h;
}

-- ---- every request

pub keys_rise : KeysRise
keys_rise state (Changes c) found = (each_change state c found).in_order
keys_rise state (Asks d question) found = keys.of_slot question (slot_at d state.slots)

step_right : (state : State) (request : Request) (found : Option Kept) → table.right (step state request found) ≡ true
step_right state (Changes c) found = (each_change state c found).has_row
step_right state (Asks d question) found = table.by_slot question (slot_at d state.slots)

pub refusals : RefusalsAreInTheTable
refusals state request found fault e = codes.told (step state request found).reply.outcome fault (step_right state request found) e

pub refusals_keep : RefusalsChangeNothing
refusals_keep state (Changes c) found = (each_change state c found).stays
refusals_keep state (Asks d question) found = λ f h. refl

pub within_quota : RequestsStayWithinQuota
within_quota state (Changes c) found = (each_change state c found).within
within_quota state (Asks d question) found = λ h. h
