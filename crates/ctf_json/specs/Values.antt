-- The parts of a line as serde_json's data.
use Rattle.std.specs.Prelude.{◌≡◌, ℕ, ◌&&◌, List, [], ◌∷◌, Bool, true, false, codes, is_some, map, nat_le, Option, Some, None, option_map, option_and_then, if◌then◌else◌}
use Rattle.serde_json.specs.Data.{Data, null, boolean, number, string, array, object, unsigned, Items, no_items, item, Members, no_members, put}
use Rattle.serde_json.specs.Find.{as_number, as_str, as_u64, get}
use Rattle.serde_json.specs.Read.{number_of}
use Rattle.ctf_joined.specs.Joined.{texts}
use Rattle.ctf_joined.specs.declared.joined.Joined.{Joined}
use Rattle.ctf_model.specs.declared.numbers.TypeNum.{TypeNum}
use Rattle.ctf_json.specs.TreeData.{number_or_null}
use Rattle.ctf_json.specs.declared.keys.TheConstants.{KEYS}
use Rattle.ctf_json.specs.declared.line.Line.{Line}
use Rattle.std.specs.declared.alloc.Global.{Global}
use Rattle.std.specs.declared.vec.Vec.{Vec}
use Rattle.ctf_json.specs.declared.values.Field.{Field}
use Rattle.ctf_json.specs.declared.values.Field.TheVariants as field
use Rattle.ctf_json.specs.declared.values.Read.{Read}
use Rattle.ctf_json.specs.declared.values.Read.TheVariants as was
use Rattle.ctf_json.specs.declared.values.Value.{Value}
use Rattle.ctf_json.specs.declared.values.Value.TheVariants as is
use Rattle.ctf_json.specs.declared.wanted.Wanted.{Wanted}
use Rattle.ctf_json.specs.declared.wanted.Wanted.TheVariants.{Texts, Numbers, Nothing}

abbrev pub keys : List (List ℕ)
keys = map (λ key. key.now) KEYS.now

-- ---- lists

-- these items before others
abbrev pub front : {A : Type 0} → (A → Data) → List A → Items → Items
front says [] ds = ds
front says (x ∷ xs) ds = item (says x) (front says xs ds)

abbrev pub text_data : List ℕ → Data
text_data text = string text

abbrev pub number_data : TypeNum → Data
number_data t = number (unsigned t.0)

abbrev pub texts_data : List (List ℕ) → Items
texts_data texts = front text_data texts no_items

abbrev pub numbers_data : List TypeNum → Items
numbers_data numbers = front number_data numbers no_items

-- all items pass the test
abbrev pub are : (Data → Bool) → Items → Bool
are test no_items = true
are test (item d ds) = test d && are test ds

-- the 16-bit type number that a value is
abbrev pub small : Data → Option TypeNum
small d =
    option_and_then (λ n. if nat_le n 65535 then Some (record { 0 = n }) else None)
    (option_and_then as_u64 (as_number d))

abbrev pub is_text : Data → Bool
is_text d = is_some (as_str d)

abbrev pub is_small : Data → Bool
is_small d = is_some (small d)

-- ---- values

abbrev pub data_of : Field → Data
data_of field.Null = null
data_of (field.Bool b) = boolean b
data_of (field.Number s) = number_or_null (number_of s.now)
data_of (field.String s) = string s.now

-- the data of a parsed value
abbrev pub read_data : Read → Data
read_data (was.Field f) = data_of f
read_data (was.Texts joined) = array (texts_data (texts joined))
read_data (was.Numbers numbers) = array (numbers_data numbers.items)

-- the data of a looked-up value
abbrev pub value_data : Value → Data
value_data (is.Field f) = data_of f
value_data (is.Texts joined) = array (texts_data (texts joined.now))
value_data (is.Numbers numbers) = array (numbers_data numbers.now)

-- a parsed list is of the wanted type
abbrev pub fits : Wanted → Read → Bool
fits w (was.Field f) = true
fits Texts (was.Texts joined) = true
fits Numbers (was.Texts joined) = false
fits Nothing (was.Texts joined) = false
fits Texts (was.Numbers numbers) = false
fits Numbers (was.Numbers numbers) = true
fits Nothing (was.Numbers numbers) = false

-- the line's list of names, removed if it is the wanted one
abbrev pub names_without : Wanted → Option Joined → Option Joined
names_without Texts names = None
names_without Numbers names = names
names_without Nothing names = names

abbrev pub args_without : Wanted → Option (Vec TypeNum Global) → Option (Vec TypeNum Global)
args_without Texts args = args
args_without Numbers args = None
args_without Nothing args = args

-- ---- lines

abbrev pub put_some : List ℕ → Option Data → Members → Members
put_some key None ms = ms
put_some key (Some d) ms = put key d ms

-- the fields at these keys
abbrev pub members_data : List (List ℕ) → List (Option Field) → Members
members_data [] vs = no_members
members_data (k ∷ ks) [] = no_members
members_data (k ∷ ks) (v ∷ vs) = put_some k (option_map data_of v) (members_data ks vs)

-- the data of a line: an object of its fields and lists
abbrev pub line_data : Line → Data
line_data line =
    object (put_some (codes "args") (option_map (λ v. array (numbers_data v.items)) line.args)
    (put_some (codes "names") (option_map (λ joined. array (texts_data (texts joined))) line.names)
    (members_data keys line.fields.all)))

-- a line without fields
abbrev pub IsNew : Line → Type 0
IsNew line = (key : List ℕ) → get key (line_data line) ≡ None
