-- The request of a line, if a number is given for one without.
use Rattle.std.proofs.Common.{◌≡◌, ℕ, ◌≤◌, ◌<◌, List, length, Bool, true, false, Option, Some, None, Err, refl, ◌∙◌, ap, sym}
use Rattle.std.specs.Str.{IsUtf8, is_utf8}
use Rattle.std.specs.Prelude.{codes, is_none, nat_lt, if◌then◌else◌}
use Rattle.std.proofs.lemmas.Bool.{lt-ltb, le-ltb}
use Rattle.std.proofs.lemmas.Str.{IsUtf8-from_is_utf8, is_utf8-from_IsUtf8}
use Rattle.serde_json.specs.Data.{Data}
use Rattle.serde_json.specs.Find.{as_number, as_u64, get}
use Rattle.serde_json.specs.Read.{read}
use Rattle.ctf_model.specs.declared.faults.TheConstants.Fault.{NOT_JSON, LONG_LINE}
use Rattle.ctf_model.specs.rules.Refusals.{placeless}
use Rattle.ctf_lines.specs.Numbered.{ask_or, value_asked_or}
use Rattle.ctf_protocol.specs.lines.Ask.{ask, asked_by, json, value_asked}
use Rattle.ctf_protocol.specs.lines.LineFields.{◌▹◌, in_range}

-- ---- without a given number, a line has the request of `ask`

own_number : (o : Option Data) → (if is_none o then None else (((o ▹ as_number) ▹ as_u64) ▹ in_range 1 4294967295)) ≡ (((o ▹ as_number) ▹ as_u64) ▹ in_range 1 4294967295)
own_number None = refl
own_number (Some d) = refl

value_asked_or-none : (d : Option Data) → value_asked_or None d ≡ value_asked d
value_asked_or-none None = refl
value_asked_or-none (Some d) = ap (asked_by d) (own_number (get (codes "s") d))

pub ask_or-none : (line : List ℕ) → ask_or None line ≡ ask line
unfolding ask ask_or
ask_or-none line = by_length (nat_lt 1048576 (length line))
  where
    by_length : (long : Bool) → (if long then Err (0, placeless LONG_LINE) else value_asked_or None (json line)) ≡ (if long then Err (0, placeless LONG_LINE) else value_asked (json line))
    by_length true = refl
    by_length false = value_asked_or-none (json line)

-- ---- as in `ask`

pub ask_or-long : (given : Option ℕ) (line : List ℕ) → 1048576 < length line → ask_or given line ≡ Err (0, placeless LONG_LINE)
unfolding ask_or
ask_or-long given line h = rw (lt-ltb 1048576 (length line) h) refl

pub ask_or-text : (given : Option ℕ) (line text : List ℕ) (d : Option Data) → length line ≤ 1048576 → text ≡ line → IsUtf8 line → read text ≡ d → ask_or given line ≡ value_asked_or given d
unfolding ask_or
ask_or-text given line text d h same utf8 said =
    rw (le-ltb 1048576 (length line) h, is_utf8-from_IsUtf8 line utf8) (ap (value_asked_or given) (ap read (sym same) ∙ said))

not_text : (line : List ℕ) → (IsUtf8 line → ⊥) → (b : Bool) → is_utf8 line ≡ b → b ≡ false
not_text line n true e = absurd (n (IsUtf8-from_is_utf8 line e))
not_text line n false e = refl

pub ask_or-not_text : (given : Option ℕ) (line : List ℕ) → length line ≤ 1048576 → (IsUtf8 line → ⊥) → ask_or given line ≡ Err (0, placeless NOT_JSON)
unfolding ask_or
ask_or-not_text given line h n = rw (le-ltb 1048576 (length line) h, not_text line n (is_utf8 line) refl) refl

-- a line that is no text, or whose text is no JSON
pub ask_or-not_json : (given : Option ℕ) (line : List ℕ) → length line ≤ 1048576 → (IsUtf8 line → read line ≡ None) → ask_or given line ≡ Err (0, placeless NOT_JSON)
ask_or-not_json given line h none = by_text (is_utf8 line) refl
  where
    by_text : (b : Bool) → is_utf8 line ≡ b → ask_or given line ≡ Err (0, placeless NOT_JSON)
    by_text true e =
        let utf8 = IsUtf8-from_is_utf8 line e in
        ask_or-text given line line None h refl utf8 (none utf8)
    by_text false e = ask_or-not_text given line h (λ utf8. absurd (let is : false ≡ true = sym e ∙ is_utf8-from_IsUtf8 line utf8 in cc))
