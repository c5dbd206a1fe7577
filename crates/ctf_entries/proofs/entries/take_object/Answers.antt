use Rattle.ctf_entries.proofs.Telling.{entries_object, sound_object}
use Rattle.ctf_entries.proofs.entries.take_object.Goals as goal

pub invariant_of-left : goal.invariant_of-left
invariant_of-left c = record { near = c.requires.near; sound = sound_object _ _ _ _ c.requires.first c.requires.object c.args.unread.sound }

pub returns : goal.returns
returns c = entries_object _ _ _ _ _ _ _ c.requires.first c.requires.object c.type_in.ensures c.behind_object.ensures
