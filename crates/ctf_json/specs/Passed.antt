-- The tokens after a value whose numbers are all in range. Only private clauses cite it.
use Rattle.std.specs.Prelude.{ℕ, Bool, List, length, cond, Option, Some, None, option_and_then}
use Rattle.json.specs.Token.{Token}
use Rattle.json.specs.Json.{Json, null, boolean, number, string, items, members, value}
use Rattle.ctf_json.specs.TreeData.{in_range, items_in_range, members_in_range}

-- the tokens after a parsed value, if it is good
abbrev pub tokens_behind : {A : Type 0} → (A → Bool) → Option (A × List Token) → Option (List Token)
tokens_behind good read = option_and_then (λ p. cond (good p.0) (Some p.1) None) read

abbrev pub passed_value : ℕ → List Token → Option (List Token)
passed_value depth ts = tokens_behind in_range (value depth ts)

abbrev pub passed_items : ℕ → List Token → Option (List Token)
passed_items depth ts = tokens_behind items_in_range (items (value depth) (length ts) ts)

abbrev pub passed_members : ℕ → List Token → Option (List Token)
passed_members depth ts = tokens_behind members_in_range (members (value depth) (length ts) ts)

-- the stored part of a value that begins with this token, if nothing nested is stored
abbrev pub begun : Token → Json
begun Token.begin_object = null
begun Token.end_object = null
begun Token.begin_array = null
begun Token.end_array = null
begun (Token.key s) = null
begun (Token.string s) = string s
begun (Token.number s) = number s
begun (Token.boolean b) = boolean b
begun Token.null = null
begun Token.bad = null
