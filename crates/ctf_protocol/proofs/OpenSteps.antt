-- Steps of the draft in a slot are those of the open dictionary there.
use Rattle.std.proofs.Common.{refl}
use Rattle.ctf_protocol.specs.sessions.DraftSteps.{created_slot, slot_step}
use Rattle.ctf_protocol.specs.sessions.OpenLaws.{StepsAreMade}

pub steps_are_made : StepsAreMade
unfolding slot_step created_slot
steps_are_made = record {
  type = λ s name root kind. refl;
  member = λ s t name tnum offset. refl;
  enumerator = λ s t name value. refl;
  label = λ s name last. refl;
  update = λ s. refl;
  discard = λ s. refl;
  create = λ n above asked. refl;
  import = λ child parent d p state e f. rw (e, f) refl;
}
