use Rattle.ctf_writer.proofs.Made.{written_count}
use Rattle.ctf_writer.proofs.updating.update.Goals as goal

pub judge-requires-clause-count : goal.judge-requires-clause-count
judge-requires-clause-count c = written_count _ _ c.types.result.now c.in_ok-bytes.ensures.stands c.types.ensures.types
