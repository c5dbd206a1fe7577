-- The model of a reader of texts without escapes. Only private clauses cite it.
use Rattle.std.specs.Prelude.{◌≡◌, ◌≢◌, ℕ, List, [], ◌∷◌, Bool, true, false, ⊤, Option, None, Some}
use Rattle.json.specs.Json.{read_key}
use Rattle.json.specs.Token.{Token, bad, boolean, null, number, string}
use Rattle.json.specs.Word.{head}
use Rattle.json.specs.Lex.{between, lex, fresh, after_value, after_comma, may_begin, may_close, punctuate}
use Rattle.json.specs.Lex as spec
use Rattle.ctf_json.specs.Passed.{begun}
use Rattle.ctf_json.specs.TreeData.{in_range}
use Rattle.ctf_json.specs.declared.values.Field.{Field}
use Rattle.ctf_json.specs.declared.values.Field.TheVariants as field
use Rattle.ctf_json.specs.declared.plain_reader.Place.{Place}
use Rattle.ctf_json.specs.declared.plain_reader.Place.TheVariants.{Fresh, AfterValue, AfterComma, Failed}

abbrev pub tokens_at : Place → List ℕ → List Token
tokens_at Fresh text = punctuate fresh (lex between text)
tokens_at AfterValue text = punctuate after_value (lex between text)
tokens_at AfterComma text = punctuate after_comma (lex between text)
tokens_at Failed text = []

abbrev pub NotBeforeComma : Place → List ℕ → Type 0
NotBeforeComma Fresh text = ⊤
NotBeforeComma AfterValue text = head text ≢ 44
NotBeforeComma AfterComma text = ⊤
NotBeforeComma Failed text = ⊤

-- wherever a value may begin, text `old` gives token `t`, then the tokens of `new`
abbrev pub Begins : List ℕ → Token → Place → List ℕ → Type 0
Begins old t place new =
    (p : spec.Place) → may_begin p ≡ true
    → punctuate p (lex between old) ≡ t ∷ tokens_at place new

abbrev pub Closes : List ℕ → Token → Place → List ℕ → Type 0
Closes old t place new =
    (p : spec.Place) → may_close p ≡ true
    → punctuate p (lex between old) ≡ t ∷ tokens_at place new

abbrev pub closes_at : Place → Bool
closes_at Fresh = true
closes_at AfterValue = true
closes_at AfterComma = false
closes_at Failed = false

abbrev pub begins_at : Place → Bool
begins_at Fresh = true
begins_at AfterValue = false
begins_at AfterComma = true
begins_at Failed = false

abbrev pub refused_at : Place → List Token
refused_at Fresh = bad ∷ []
refused_at AfterValue = bad ∷ []
refused_at AfterComma = bad ∷ []
refused_at Failed = []

-- the token of a field
abbrev pub field_token : Field → Token
field_token field.Null = null
field_token (field.Bool b) = boolean b
field_token (field.Number s) = number s.now
field_token (field.String s) = string s.now

abbrev pub HasValue : Field → Type 0
HasValue f = in_range (begun (field_token f)) ≡ true

-- the tokens begin with a field, whose number is in range
abbrev pub IsField : List Token → Field → List Token → Type 0
IsField old f new = (old ≡ field_token f ∷ new) × HasValue f

-- the tokens `old` are those of `new`, after the field if one was taken
abbrev pub IsTaken : List Token → Option Field → List Token → Type 0
IsTaken old None new = old ≡ new
IsTaken old (Some f) new = IsField old f new

-- a key was read, and its value if that was taken as a field
abbrev pub IsMember : List Token → List ℕ → Option Field → List Token → Type 0
IsMember old k taken new =
    (ts : List Token) × (read_key old ≡ Some (Some k, ts)) × IsTaken ts taken new

-- so does the text, wherever a value may begin
abbrev pub BeginsField : List ℕ → Field → List ℕ → Type 0
BeginsField old f new =
    ((p : spec.Place) → may_begin p ≡ true
    → punctuate p (lex between old) ≡ field_token f ∷ punctuate after_value (lex between new))
    × HasValue f
