use Rattle.ctf_protocol.proofs.TextReading.{texts_read_back, lines_have_the_text}
use Rattle.ctf_protocol.proofs.laws.texts_are_read_back.Goals as goal

pub returns : goal.returns
returns c = record { line = lines_have_the_text; read = texts_read_back }
