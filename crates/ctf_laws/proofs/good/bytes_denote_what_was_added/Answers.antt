use Rattle.ctf_laws.proofs.Answered.{bytes_denote, updates_denote}
use Rattle.ctf_laws.proofs.good.bytes_denote_what_was_added.Goals as goal

pub returns : goal.returns
returns c = record { updates = updates_denote; added = bytes_denote }
