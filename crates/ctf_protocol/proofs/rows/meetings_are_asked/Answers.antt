use Rattle.std.proofs.Common.{refl}
use Rattle.std.specs.Str.{is_utf8, chars}
use Rattle.hex.proofs.OnLiterals.{hex_on_literals}
use Rattle.serde_json.proofs.OnLiterals.{serde_json_on_literals}
use Rattle.ctf_protocol.specs.lines.Ask.{ask}
use Rattle.ctf_protocol.specs.words.Words.{words}
use Rattle.ctf_protocol.proofs.rows.meetings_are_asked.Goals as goal

pub returns : goal.returns
unfolding ask words is_utf8 chars hex_on_literals serde_json_on_literals
returns c = record { publish = refl; take = refl; withdraw = refl; nameless = refl; operators = refl; empty_name = refl; other_byte = refl; no_owner = refl }
