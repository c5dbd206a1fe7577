-- From a line to its request.
use Rattle.std.proofs.Common.{◌≡◌, ℕ, ◌≤◌, ◌<◌, List, length, Bool, true, false, Option, Err, refl, ◌∙◌, ap, sym}
use Rattle.std.specs.Str.{IsUtf8, is_utf8}
use Rattle.std.proofs.lemmas.Bool.{lt-ltb, le-ltb}
use Rattle.std.proofs.lemmas.Str.{IsUtf8-from_is_utf8, is_utf8-from_IsUtf8}
use Rattle.serde_json.specs.Data.{Data}
use Rattle.serde_json.specs.Read.{read}
use Rattle.ctf_protocol.specs.lines.Ask.{ask, value_asked}
use Rattle.ctf_model.specs.rules.Refusals.{placeless}
use Rattle.ctf_model.specs.declared.faults.TheConstants.Fault.{NOT_JSON, LONG_LINE}

-- a line that is too long is refused
pub ask-long : (line : List ℕ) → 1048576 < length line → ask line ≡ Err (0, placeless LONG_LINE)
unfolding ask
ask-long line h = rw (lt-ltb 1048576 (length line) h) refl

-- a line of text has the request of its JSON value
pub ask-text : (line text : List ℕ) (d : Option Data) → length line ≤ 1048576 → text ≡ line → IsUtf8 line → read text ≡ d → ask line ≡ value_asked d
unfolding ask
ask-text line text d h same utf8 said =
    rw (le-ltb 1048576 (length line) h, is_utf8-from_IsUtf8 line utf8) (ap value_asked (ap read (sym same) ∙ said))

not_text : (line : List ℕ) → (IsUtf8 line → ⊥) → (b : Bool) → is_utf8 line ≡ b → b ≡ false
not_text line n true e = absurd (n (IsUtf8-from_is_utf8 line e))
not_text line n false e = refl

-- any other line is not JSON
pub ask-not_text : (line : List ℕ) → length line ≤ 1048576 → (IsUtf8 line → ⊥) → ask line ≡ Err (0, placeless NOT_JSON)
unfolding ask
ask-not_text line h n = rw (le-ltb 1048576 (length line) h, not_text line n (is_utf8 line) refl) refl
