use Rattle.std.proofs.Common.{refl}
use Rattle.std.specs.Str.{is_utf8, chars}
use Rattle.hex.proofs.OnLiterals.{hex_on_literals}
use Rattle.serde_json.proofs.OnLiterals.{serde_json_on_literals}
use Rattle.ctf_protocol.specs.lines.Ask.{ask}
use Rattle.ctf_protocol.specs.lines.LineFields.{each_read}
use Rattle.ctf_protocol.specs.lines.Text.{bytes_spelled_by}
use Rattle.ctf_protocol.specs.words.Words.{words}
use Rattle.ctf_protocol.proofs.rows.paths_are_lines.Goals as goal

pub returns : goal.returns
unfolding ask words each_read bytes_spelled_by is_utf8 chars hex_on_literals serde_json_on_literals
returns c = record { two_names = refl; escapes = refl; escapes_of_json = refl; no_names = refl; empty_name = refl; upper_case = refl; lone_backslash = refl; quote = refl; newline = refl; no_list = refl; an_object = refl; a_number = refl; second_refused = refl; null_names = refl; absent = refl }
