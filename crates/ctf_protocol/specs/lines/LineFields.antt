-- The fields of a request line. What is JSON is serde_json's reading of it; all else is ours.
use Rattle.std.specs.Prelude.{ℕ, ◌&&◌, List, [], ◌∷◌, length, is_none, Option, None, Some, option_and_then, nat_le, codes, if◌then◌else◌}
use Rattle.std.specs.Option.{option_map}
use Rattle.std.specs.Result.{result_ok}
use Rattle.hex.specs.Hex.{decode_of}
use Rattle.serde_json.specs.Data.{Data, Items, no_items, item}
use Rattle.serde_json.specs.Find.{get, as_number, as_u64, as_str}
use Rattle.ctf_model.specs.declared.numbers.TypeNum.{TypeNum}
use Rattle.ctf_protocol.specs.lines.Text.{bytes_spelled_by}
use Rattle.ctf_protocol.specs.declared.questions.Window.{Window}

-- ---- one field after another

-- a field, then the others; none if it is missing or bad
infixr 5 ◌▹◌
abbrev pub ◌▹◌ : {A B : Type 0} → Option A → (A → Option B) → Option B
field ▹ others = option_and_then others field

-- the last field, then the value made of all of them
infixr 5 ◌▸◌
abbrev pub ◌▸◌ : {A B : Type 0} → Option A → (A → B) → Option B
field ▸ made = option_map made field

-- ---- numbers and texts

-- `n`, if it is between `low` and `high`
abbrev pub in_range : ℕ → ℕ → ℕ → Option ℕ
in_range low high n = if nat_le low n && nat_le n high then Some n else None

-- the number in a field, if present and in range
abbrev pub number_in : ℕ → ℕ → List ℕ → Data → Option ℕ
number_in low high key line =
    ((get key line ▹ as_number) ▹ as_u64) ▹ in_range low high

-- the text in a field
abbrev pub text_in : List ℕ → Data → Option (List ℕ)
text_in key line = get key line ▹ as_str

-- the greatest number of bytes in one request
abbrev pub longest_piece : ℕ
longest_piece = 1048576

-- the bytes, if they are not more than that
abbrev pub not_too_many : List ℕ → Option (List ℕ)
not_too_many bytes = if nat_le (length bytes) longest_piece then Some bytes else None

-- the bytes in an even number of hexadecimal digits, upper or lower case
abbrev pub bytes_spelled : List ℕ → Option (List ℕ)
bytes_spelled digits = result_ok (decode_of digits) ▹ not_too_many

-- ---- slots and types

-- the number of a slot in a field
abbrev pub slot_under : List ℕ → Data → Option ℕ
slot_under key line = number_in 1 4294967295 key line

abbrev pub slot_in : Data → Option ℕ
slot_in line = slot_under (codes "d") line

abbrev pub type_asked : Data → Option TypeNum
type_asked line = number_in 0 65535 (codes "t") line ▸ λ t. record { 0 = t }

-- the number of a type in a field
abbrev pub type_under : List ℕ → Data → Option TypeNum
type_under key line = number_in 0 65535 key line ▸ λ t. record { 0 = t }

-- ---- names

-- the name that a value spells
abbrev pub name_spelled : Data → Option (List ℕ)
name_spelled value = (as_str value ▹ bytes_spelled_by) ▹ not_too_many

-- the items of a list, if each can be read
unfoldable pub each_read : {A : Type 0} → (Data → Option A) → Items → Option (List A)
each_read says no_items = Some []
each_read says (item value values) =
    says value ▹ λ first.
    each_read says values ▸ λ others.
    first ∷ others

abbrev pub names_spelled : Items → Option (List (List ℕ))
names_spelled values = each_read name_spelled values

-- the names, if a request may contain that many
abbrev pub not_too_many_names : List (List ℕ) → Option (List (List ℕ))
not_too_many_names names = if nat_le (length names) longest_piece then Some names else None

-- the name that a field spells
abbrev pub name_under : List ℕ → Data → Option (List ℕ)
name_under key line = get key line ▹ name_spelled

-- an optional name; the default is empty
abbrev pub name_or_empty : List ℕ → Data → Option (List ℕ)
name_or_empty key line = if is_none (get key line) then Some [] else name_under key line

-- ---- windows

-- the first item of the window; 0 by default
abbrev pub from_asked : Data → Option ℕ
from_asked line =
    if is_none (get (codes "from") line) then Some 0 else number_in 0 4294967295 (codes "from") line

-- the number of items in the window; all by default
abbrev pub count_asked : Data → Option (Option ℕ)
count_asked line =
    if is_none (get (codes "count") line) then Some None
    else number_in 0 4294967295 (codes "count") line ▸ λ n. Some n

abbrev pub window_asked : Data → Option Window
window_asked line =
    from_asked line ▹ λ from.
    count_asked line ▸ λ count.
    record { from = from; count = count }
