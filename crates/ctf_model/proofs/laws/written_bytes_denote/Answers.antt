use Rattle.ctf_model.proofs.WrittenDrafts.{draft_alike, draft_child, draft_denoted, draft_imported}
use Rattle.ctf_model.proofs.laws.written_bytes_denote.Goals as goal

pub returns : goal.returns
returns c = record { denoted = draft_denoted; child = draft_child; imported = draft_imported; alike = draft_alike }
