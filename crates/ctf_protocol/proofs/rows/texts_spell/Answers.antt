use Rattle.std.proofs.Common.{refl}
use Rattle.ctf_protocol.specs.lines.Text.{bytes_spelled_by}
use Rattle.ctf_protocol.proofs.rows.texts_spell.Goals as goal

pub returns : goal.returns
unfolding bytes_spelled_by
returns c = record { nothing = refl; plain = refl; first_and_last = refl; plain_escaped = refl; backslash = refl; upper_case = refl; upper_x = refl; before_0 = refl; after_9 = refl; before_a = refl; after_f = refl; one_digit = refl; no_digit = refl; lone_backslash = refl; two_backslashes = refl; another_escape = refl; quote = refl; newline = refl; delete = refl; beyond_ascii = refl }
