-- The parts of parsed values that are stored.
use Rattle.std.specs.Prelude.{◌≡◌, ℕ, List, true, cond, Option, Some, option_map}
use Rattle.std.specs.Str.{bytes_eq}
use Rattle.json.specs.Token.{Token}
use Rattle.json.specs.Json as json
use Rattle.serde_json.specs.Data.{Data, null, boolean, number, string, array, object, Items}
use Rattle.serde_json.specs.Find.{get}
use Rattle.serde_json.specs.Read.{read}
use Rattle.ctf_json.specs.Keys.{wanted_at}
use Rattle.ctf_json.specs.TreeData.{tree_data, items_data, in_range, items_in_range, is_one_of}
use Rattle.ctf_json.specs.Values.{are, is_text, is_small, keys}
use Rattle.ctf_json.specs.declared.wanted.Wanted.{Wanted}
use Rattle.ctf_json.specs.declared.wanted.Wanted.TheVariants.{Texts, Numbers, Nothing}

-- the stored part of a list, depending on what is wanted
abbrev pub list_data : Wanted → Items → Data
list_data Texts ds = cond (are is_text ds) (array ds) null
list_data Numbers ds = cond (are is_small ds) (array ds) null
list_data Nothing ds = null

-- the stored part of a value
abbrev pub kept_data : Wanted → Data → Data
kept_data w null = null
kept_data w (boolean b) = boolean b
kept_data w (number n) = number n
kept_data w (string s) = string s
kept_data w (array ds) = list_data w ds
kept_data w (object ms) = null

-- ---- values parsed from tokens, with the tokens after them

-- the items of an array are parsed, and their stored part is `d`
abbrev pub IsListed : Wanted → Option (json.Items × List Token) → Data → List Token → Type 0
IsListed w read d rest =
    (js : json.Items) × (read ≡ Some (js, rest)) × (items_in_range js ≡ true)
    × (list_data w (items_data js) ≡ d)

-- a value is parsed, and its stored part is `d`
abbrev pub IsKept : Wanted → Option (json.Json × List Token) → Data → List Token → Type 0
IsKept w read d rest =
    (j : json.Json) × (read ≡ Some (j, rest)) × (in_range j ≡ true)
    × (kept_data w (tree_data j) ≡ d)

-- the value at a key is parsed and its stored part entered; all else is unchanged
abbrev pub IsKeptAt : List ℕ → Option (json.Json × List Token) → Data → Data → List Token → Type 0
IsKeptAt key read old new rest =
    (d : Data) × IsKept (wanted_at key) read d rest
    × ((q : List ℕ) → get q new ≡ cond (bytes_eq key q) (Some d) (get q old))

-- a whole value is parsed, and if the condition holds, its part is stored
abbrev pub AreKept : Type 0 → Option (json.Json × List Token) → Data → List Token → Type 0
AreKept If read part rest =
    (j : json.Json) × (read ≡ Some (j, rest)) × (in_range j ≡ true)
    × (If → (key : List ℕ) → is_one_of key keys ≡ true
    → get key part ≡ option_map (kept_data (wanted_at key)) (get key (tree_data j)))

-- ---- texts

-- a text is parsed, and at each key `part` has the stored part of the value there
pub record IsReadAt (text : List ℕ) (part : Data) : Type 0 where
  pub whole : Data
  pub is : read text ≡ Some whole
  pub same : (key : List ℕ) → is_one_of key keys ≡ true
      → get key part ≡ option_map (kept_data (wanted_at key)) (get key whole)
