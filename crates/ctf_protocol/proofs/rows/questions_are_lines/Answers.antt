use Rattle.std.proofs.Common.{refl}
use Rattle.std.specs.Str.{is_utf8, chars}
use Rattle.hex.proofs.OnLiterals.{hex_on_literals}
use Rattle.serde_json.proofs.OnLiterals.{serde_json_on_literals}
use Rattle.ctf_protocol.specs.lines.Ask.{ask}
use Rattle.ctf_protocol.specs.lines.Text.{bytes_spelled_by}
use Rattle.ctf_protocol.specs.words.Words.{words}
use Rattle.std.specs.Fmt.{digits}
use Rattle.ctf_model.specs.rules.FaultNames.{name_of_fault}
use Rattle.ctf_protocol.specs.lines.ReplyLines.{fitting_line}
use Rattle.ctf_protocol.proofs.rows.questions_are_lines.Goals as goal

pub returns : goal.returns
unfolding digits name_of_fault fitting_line ask words bytes_spelled_by is_utf8 chars hex_on_literals serde_json_on_literals
returns c = record { window = refl; no_window = refl; null_window = refl; great_count = refl; resolve = refl; size = refl; align = refl; name = refl; pointer = refl; find = refl; find_nothing = refl; find_newline = refl; find_number = refl; find_absent = refl; no_type = refl; check = refl; plain = refl; escaped = refl; enumerators = refl; naming = refl; declaring = refl; bare = refl; type_found = refl; greatest_size = refl; alignment = refl; position = refl }
