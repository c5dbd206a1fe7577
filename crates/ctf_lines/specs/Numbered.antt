-- The request in a line of a session; a line without a session number gets the session's. Source:
-- ours.
use Rattle.std.specs.Prelude.{ℕ, List, [], ◌∷◌, length, Bool, false, ◌==◌, ◌||◌, is_none, Option, None, Some, Result, Err, nat_lt, codes, if◌then◌else◌}
use Rattle.serde_json.specs.Data.{Data}
use Rattle.serde_json.specs.Find.{get}
use Rattle.ctf_protocol.specs.lines.Ask.{asked_by, json}
use Rattle.ctf_protocol.specs.lines.LineFields.{number_in}
use Rattle.ctf_protocol.specs.lines.Lines.{longest_line}
use Rattle.ctf_model.specs.rules.Refusals.{placeless}
use Rattle.ctf_model.specs.declared.faults.Fault.{Fault}
use Rattle.ctf_model.specs.declared.faults.TheConstants.Fault.{NOT_JSON, LONG_LINE}
use Rattle.ctf_protocol.specs.declared.requests.Request.{Request}

-- ---- objects

-- a space, a tab, or a line's end
abbrev pub is_blank : ℕ → Bool
is_blank c = (((c == 32) || (c == 9)) || (c == 10)) || (c == 13)

-- the text begins with a brace, after blanks; if it is JSON, it is an object
abbrev pub begins_object : List ℕ → Bool
begins_object [] = false
begins_object (c ∷ cs) = if is_blank c then begins_object cs else (c == 123)

-- ---- numbers

-- the session number in the line, or the given one
abbrev pub number_or : Option ℕ → Data → Option ℕ
number_or given line =
    if is_none (get (codes "s") line) then given
    else number_in 1 4294967295 (codes "s") line

-- ---- lines, as in `ask`

abbrev pub value_asked_or : Option ℕ → Option Data → Result (ℕ × Request) (ℕ × Fault)
value_asked_or given None = Err (0, placeless NOT_JSON)
value_asked_or given (Some line) = asked_by line (number_or given line)

unfoldable pub ask_or : Option ℕ → List ℕ → Result (ℕ × Request) (ℕ × Fault)
ask_or given line =
    if nat_lt longest_line (length line) then Err (0, placeless LONG_LINE)
    else value_asked_or given (json line)

-- the number given to a line of a session; none if the line is no object
abbrev pub given_to : ℕ → List ℕ → Option ℕ
given_to session line = if begins_object line then Some session else None

-- the request in a line of a session, with the line's own number or the session's; or the refusal
abbrev pub ask_as : ℕ → List ℕ → Result (ℕ × Request) (ℕ × Fault)
ask_as session line = ask_or (given_to session line) line
