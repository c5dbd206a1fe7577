use Rattle.ctf_entries.proofs.Telling.{entries_function, sound_function}
use Rattle.ctf_entries.proofs.entries.take_function.Goals as goal

pub signature_of-requires : goal.signature_of-requires
signature_of-requires c = record { good = (sound_function _ _ _ _ c.requires.first c.requires.function c.args.unread.sound).0 }

pub behind_function-requires : goal.behind_function-requires
behind_function-requires c = record { good = (sound_function _ _ _ _ c.requires.first c.requires.function c.args.unread.sound).0 }

pub invariant_of-left : goal.invariant_of-left
invariant_of-left c = record { near = c.requires.near; sound = rw c.behind_function.ensures (sound_function _ _ _ _ c.requires.first c.requires.function c.args.unread.sound).1 }

pub returns : goal.returns
returns c = entries_function _ _ _ _ _ _ _ c.requires.first c.requires.function c.signature_of.ensures c.behind_function.ensures
