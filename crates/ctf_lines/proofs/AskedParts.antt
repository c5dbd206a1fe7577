-- The request of a line, from the stored parts under each key.
use Rattle.std.proofs.Common.{◌≡◌, ℕ, List, [], ◌∷◌, Bool, true, false, ◌&&◌, cond, is_none, is_some, nat_le, Option, Some, None, option_map, option_and_then, codes, refl, sym, ap, ◌∙◌}
use Rattle.std.specs.Prelude.{if◌then◌else◌, unwrap_or}
use Rattle.serde_json.specs.Data as json
use Rattle.serde_json.specs.Data.{Data, Items}
use Rattle.serde_json.specs.Find.{get, as_array, as_bool, as_i64, as_number, as_str, as_u64}
use Rattle.std.proofs.lemmas.Bool.{false≢true}
use Rattle.ctf_json.specs.Keys.{wanted_at}
use Rattle.ctf_json.specs.Kept.{kept_data, list_data}
use Rattle.ctf_json.specs.TreeData.{is_one_of}
use Rattle.ctf_json.specs.Values.{are, is_small, is_text, keys}
use Rattle.ctf_json.specs.declared.wanted.Wanted.{Wanted}
use Rattle.ctf_json.specs.declared.wanted.Wanted.TheVariants.{Texts, Numbers, Nothing}
use Rattle.ctf_lines.specs.Numbered.{number_or, value_asked_or}
use Rattle.ctf_model.specs.declared.numbers.TypeNum.{TypeNum}
use Rattle.ctf_model.specs.spaces.Kept.{default_model}
use Rattle.ctf_protocol.specs.declared.addables.Addable.{Addable}
use Rattle.ctf_protocol.specs.declared.addables.Addable.TheVariants as adds
use Rattle.ctf_protocol.specs.declared.additions.Addition.TheVariants as add
use Rattle.ctf_protocol.specs.declared.additions.NewArray.{NewArray}
use Rattle.ctf_protocol.specs.declared.additions.NewKind.TheVariants as kind
use Rattle.ctf_protocol.specs.declared.additions.NewScalar.{NewScalar}
use Rattle.ctf_protocol.specs.declared.questions.HeldQuestion.{HeldQuestion}
use Rattle.ctf_protocol.specs.declared.questions.HeldQuestion.TheVariants as holding
use Rattle.ctf_protocol.specs.declared.questions.Question.TheVariants.{OfType, OfSlot, OfHeld}
use Rattle.ctf_protocol.specs.declared.questions.SlotQuestion.{SlotQuestion}
use Rattle.ctf_protocol.specs.declared.questions.SlotQuestion.TheVariants as whole
use Rattle.ctf_protocol.specs.declared.questions.TypeQuestion.{TypeQuestion}
use Rattle.ctf_protocol.specs.declared.questions.TypeQuestion.TheVariants as about
use Rattle.ctf_protocol.specs.declared.questions.Window.{Window}
use Rattle.ctf_protocol.specs.declared.requests.Change.TheVariants as change
use Rattle.ctf_protocol.specs.declared.requests.DraftStep.TheVariants as draft
use Rattle.ctf_protocol.specs.declared.requests.Request.TheVariants.{Changes, Asks}
use Rattle.ctf_protocol.specs.declared.words.Word.{Word}
use Rattle.ctf_protocol.specs.declared.words.Word.TheVariants as word
use Rattle.ctf_protocol.specs.lines.Ask as asks
use Rattle.ctf_protocol.specs.lines.AskAdditions as says
use Rattle.ctf_protocol.specs.lines.LineFields as fields
use Rattle.ctf_protocol.specs.lines.Text.{bytes_spelled_by}
use Rattle.ctf_protocol.specs.sessions.Creations.{creation}
use Rattle.ctf_protocol.specs.words.Addables.{addable_named}
use Rattle.ctf_protocol.specs.words.ModelNames.{model_named}
use Rattle.ctf_protocol.specs.words.Words.{words, word_named}

each : {A B : Type 0} (f g : A → Option B) → ((x : A) → f x ≡ g x) → (o : Option A) → option_and_then f o ≡ option_and_then g o
each f g e None = refl
each f g e (Some x) = e x

abbrev as_type : Option ℕ → Option TypeNum
as_type o = option_map (λ t. record { 0 = t }) o

abbrev window_of : Option ℕ → Option (Option ℕ) → Option Window
window_of from count = option_and_then (λ from. option_map (λ count. record { from = from; count = count }) count) from

abbrev scalar_of : Option ℕ → Option ℕ → Option ℕ → Option ℕ → Option NewScalar
scalar_of size encoding offset bits =
    option_and_then (λ size. option_and_then (λ encoding. option_and_then (λ offset. option_map (λ bits. record { size = size; encoding = encoding; offset = offset; bits = bits }) bits) offset) encoding) size

abbrev array_of : Option TypeNum → Option TypeNum → Option ℕ → Option NewArray
array_of contents index count = option_and_then (λ contents. option_and_then (λ index. option_map (λ count. record { contents = contents; index = index; count = count }) count) index) contents

-- ---- stored parts of a value

abbrev none_of : {A : Type 0} → Option (List A)
none_of = None

no_first : {A : Type 0} (first : Option A) (others : Option (List A)) → others ≡ None → option_and_then (λ x. option_map (λ xs. x ∷ xs) others) first ≡ none_of
no_first None others e = refl
no_first (Some x) others e = ap (option_map (λ xs. x ∷ xs)) e

each-by : {A : Type 0} (f : Data → Option A) (d : Data) (more : Bool) (others : Option (List A)) (b : Bool) → (b ≡ false → f d ≡ None) → (more ≡ false → others ≡ None) → b && more ≡ false → option_and_then (λ x. option_map (λ xs. x ∷ xs) others) (f d) ≡ none_of
each-by f d more others true h k e = no_first (f d) others (k e)
each-by f d more others false h k e = ap (option_and_then (λ x. option_map (λ xs. x ∷ xs) others)) (h refl)

each-none : {A : Type 0} (f : Data → Option A) (test : Data → Bool) → ((d : Data) → test d ≡ false → f d ≡ None) → (ds : Items) → are test ds ≡ false → fields.each_read f ds ≡ None
unfolding fields.each_read
each-none f test h json.no_items e = absurd (false≢true (sym e))
each-none f test h (json.item d ds) e = each-by f d (are test ds) (fields.each_read f ds) (test d) (h d) (each-none f test h ds) e

no_text : (d : Data) → is_text d ≡ false → fields.name_spelled d ≡ None
no_text json.null e = refl
no_text (json.boolean b) e = refl
no_text (json.number n) e = refl
no_text (json.string s) e = absurd (false≢true (sym e))
no_text (json.array ds) e = refl
no_text (json.object ms) e = refl

abbrev typed : Bool → ℕ → Option TypeNum
typed high n = if high then Some (record { 0 = n }) else None

no_number : (low high : Bool) (n : ℕ) → is_some (typed high n) ≡ false → as_type (if low && high then Some n else None) ≡ None
no_number low true n e = absurd (false≢true (sym e))
no_number true false n e = refl
no_number false false n e = refl

no_type : (d : Data) → is_small d ≡ false → says.type_listed d ≡ None
no_type json.null e = refl
no_type (json.boolean b) e = refl
no_type (json.number (json.unsigned n)) e = no_number (nat_le 0 n) (nat_le n 65535) n e
no_type (json.number (json.negative z)) e = refl
no_type (json.number (json.float x)) e = refl
no_type (json.string s) e = refl
no_type (json.array ds) e = refl
no_type (json.object ms) e = refl

-- a reader of lists gives the same for the stored part
kept-list : {A : Type 0} (f : Items → Option A) (ds : Items) (b : Bool) → (b ≡ false → f ds ≡ None) → option_and_then f (as_array (cond b (json.array ds) json.null)) ≡ f ds
kept-list f ds true h = refl
kept-list f ds false h = sym (h refl)

names-kept : (d : Data) → option_and_then fields.names_spelled (as_array (kept_data Texts d)) ≡ option_and_then fields.names_spelled (as_array d)
names-kept json.null = refl
names-kept (json.boolean b) = refl
names-kept (json.number n) = refl
names-kept (json.string s) = refl
names-kept (json.array ds) = kept-list fields.names_spelled ds (are is_text ds) (each-none fields.name_spelled is_text no_text ds)
names-kept (json.object ms) = refl

types-kept : (d : Data) → option_and_then says.types_listed (as_array (kept_data Numbers d)) ≡ option_and_then says.types_listed (as_array d)
types-kept json.null = refl
types-kept (json.boolean b) = refl
types-kept (json.number n) = refl
types-kept (json.string s) = refl
types-kept (json.array ds) = kept-list says.types_listed ds (are is_small ds) (each-none says.type_listed is_small no_type ds)
types-kept (json.object ms) = refl

-- a reader that gives the same for the stored part of a value gives the same for a field
under : {A : Type 0} (f : Data → Option A) (w : Wanted) → ((d : Data) → f (kept_data w d) ≡ f d) → (o : Option Data) → option_and_then f (option_map (kept_data w) o) ≡ option_and_then f o
under f w h None = refl
under f w h (Some d) = h d

none-kept : (w : Wanted) (o : Option Data) → is_none (option_map (kept_data w) o) ≡ is_none o
none-kept w None = refl
none-kept w (Some d) = refl

list_cond : {A : Type 0} (f : Data → Option A) → f json.null ≡ None → ((ds : Items) → f (json.array ds) ≡ None) → (b : Bool) (ds : Items) → f (cond b (json.array ds) json.null) ≡ f (json.array ds)
list_cond f n a true ds = refl
list_cond f n a false ds = n ∙ sym (a ds)

listed-kept : {A : Type 0} (f : Data → Option A) → f json.null ≡ None → ((ds : Items) → f (json.array ds) ≡ None) → (w : Wanted) (ds : Items) → f (list_data w ds) ≡ f (json.array ds)
listed-kept f n a Texts ds = list_cond f n a (are is_text ds) ds
listed-kept f n a Numbers ds = list_cond f n a (are is_small ds) ds
listed-kept f n a Nothing ds = n ∙ sym (a ds)

str-kept : (w : Wanted) (d : Data) → as_str (kept_data w d) ≡ as_str d
str-kept w json.null = refl
str-kept w (json.boolean b) = refl
str-kept w (json.number n) = refl
str-kept w (json.string s) = refl
str-kept w (json.array ds) = listed-kept as_str refl (λ ds. refl) w ds
str-kept w (json.object ms) = refl

number-kept : (w : Wanted) (d : Data) → as_number (kept_data w d) ≡ as_number d
number-kept w json.null = refl
number-kept w (json.boolean b) = refl
number-kept w (json.number n) = refl
number-kept w (json.string s) = refl
number-kept w (json.array ds) = listed-kept as_number refl (λ ds. refl) w ds
number-kept w (json.object ms) = refl

bool-kept : (w : Wanted) (d : Data) → as_bool (kept_data w d) ≡ as_bool d
bool-kept w json.null = refl
bool-kept w (json.boolean b) = refl
bool-kept w (json.number n) = refl
bool-kept w (json.string s) = refl
bool-kept w (json.array ds) = listed-kept as_bool refl (λ ds. refl) w ds
bool-kept w (json.object ms) = refl

list-under : {A : Type 0} (f : Items → Option A) (w : Wanted) → ((d : Data) → option_and_then f (as_array (kept_data w d)) ≡ option_and_then f (as_array d)) → (o : Option Data) → option_and_then f (option_and_then as_array (option_map (kept_data w) o)) ≡ option_and_then f (option_and_then as_array o)
list-under f w h None = refl
list-under f w h (Some d) = h d

module _ (a b : Data) (same : (key : List ℕ) → is_one_of key keys ≡ true → get key a ≡ option_map (kept_data (wanted_at key)) (get key b)) where
  -- ---- fields

  numbered : (key : List ℕ) → is_one_of key keys ≡ true → option_and_then as_number (get key a) ≡ option_and_then as_number (get key b)
  numbered key one = ap (option_and_then as_number) (same key one) ∙ under as_number (wanted_at key) (number-kept (wanted_at key)) (get key b)

  text : (key : List ℕ) → is_one_of key keys ≡ true → fields.text_in key a ≡ fields.text_in key b
  text key one = ap (option_and_then as_str) (same key one) ∙ under as_str (wanted_at key) (str-kept (wanted_at key)) (get key b)

  truth : (key : List ℕ) → is_one_of key keys ≡ true → option_and_then as_bool (get key a) ≡ option_and_then as_bool (get key b)
  truth key one = ap (option_and_then as_bool) (same key one) ∙ under as_bool (wanted_at key) (bool-kept (wanted_at key)) (get key b)

  unsaid : (key : List ℕ) → is_one_of key keys ≡ true → is_none (get key a) ≡ is_none (get key b)
  unsaid key one = ap is_none (same key one) ∙ none-kept (wanted_at key) (get key b)

  listed_at : {A : Type 0} (f : Items → Option A) (key : List ℕ) → ((d : Data) → option_and_then f (as_array (kept_data (wanted_at key) d)) ≡ option_and_then f (as_array d)) → is_one_of key keys ≡ true
      → option_and_then f (option_and_then as_array (get key a)) ≡ option_and_then f (option_and_then as_array (get key b))
  listed_at f key h one = ap (λ o. option_and_then f (option_and_then as_array o)) (same key one) ∙ list-under f (wanted_at key) h (get key b)

  number : (low high : ℕ) (key : List ℕ) → is_one_of key keys ≡ true → fields.number_in low high key a ≡ fields.number_in low high key b
  number low high key one = λ i. option_and_then (fields.in_range low high) (option_and_then as_u64 (numbered key one i))

  name : (key : List ℕ) → is_one_of key keys ≡ true → fields.name_under key a ≡ fields.name_under key b
  name key one = ap (option_and_then fields.name_spelled) (same key one) ∙ under fields.name_spelled (wanted_at key) (λ d. ap (λ t. option_and_then fields.not_too_many (option_and_then bytes_spelled_by t)) (str-kept (wanted_at key) d)) (get key b)

  name_or_empty : (key : List ℕ) → is_one_of key keys ≡ true → fields.name_or_empty key a ≡ fields.name_or_empty key b
  name_or_empty key one = λ i. if unsaid key one i then Some [] else name key one i

  slot : fields.slot_in a ≡ fields.slot_in b
  slot = number 1 4294967295 (codes "d") refl

  type_under : (key : List ℕ) → is_one_of key keys ≡ true → fields.type_under key a ≡ fields.type_under key b
  type_under key one = ap as_type (number 0 65535 key one)

  type_in : fields.type_asked a ≡ fields.type_asked b
  type_in = type_under (codes "t") refl

  from : fields.from_asked a ≡ fields.from_asked b
  from = λ i. if unsaid (codes "from") refl i then Some 0 else number 0 4294967295 (codes "from") refl i

  count : fields.count_asked a ≡ fields.count_asked b
  count = λ i. if unsaid (codes "count") refl i then Some None else option_map (λ n. Some n) (number 0 4294967295 (codes "count") refl i)

  window : fields.window_asked a ≡ fields.window_asked b
  window = λ i. window_of (from i) (count i)

  -- ---- questions

  about_type : (x y : Option TypeQuestion) → x ≡ y → asks.about_type x a ≡ asks.about_type y b
  about_type x y e = λ i. option_and_then (λ q. option_and_then (λ d. option_map (λ t. Asks d (OfType t q)) (type_in i)) (slot i)) (e i)

  about_slot : (x y : Option SlotQuestion) → x ≡ y → asks.about_slot x a ≡ asks.about_slot y b
  about_slot x y e = λ i. option_and_then (λ q. option_map (λ d. Asks d (OfSlot q)) (slot i)) (e i)

  about_held : (x y : Option HeldQuestion) → x ≡ y → asks.about_held x a ≡ asks.about_held y b
  about_held x y e = λ i. option_and_then (λ q. option_map (λ d. Asks d (OfHeld q)) (slot i)) (e i)

  names : asks.names_asked a ≡ asks.names_asked b
  names = λ i. option_and_then fields.not_too_many_names (listed_at fields.names_spelled (codes "names") names-kept refl i)

  symbol : asks.symbol_asked a ≡ asks.symbol_asked b
  symbol = number 0 4294967295 (codes "sym") refl

  show : asks.show_asked a ≡ asks.show_asked b
  show = λ i. option_and_then (λ memory. option_map (λ offset. about.Show memory offset) (number 0 18446744073709551615 (codes "offset") refl i)) (option_and_then fields.bytes_spelled (text (codes "bytes") refl i))

  bytes : asks.bytes_asked a ≡ asks.bytes_asked b
  bytes = λ i. option_and_then (λ from. option_map (λ count. holding.Bytes from count) (number 0 1048576 (codes "count") refl i)) (number 0 4294967295 (codes "from") refl i)

  -- ---- changes

  part : asks.part_asked a ≡ asks.part_asked b
  part = λ i. option_and_then (λ list. option_map (λ bytes. Changes (change.Part list bytes)) (option_and_then fields.bytes_spelled (text (codes "bytes") refl i))) (option_and_then asks.list_named (text (codes "section") refl i))

  model : asks.model_asked a ≡ asks.model_asked b
  model = λ i. if unsaid (codes "model") refl i then Some None else option_map (λ model. Some model) (option_and_then model_named (text (codes "model") refl i))

  publication : asks.publication_asked a ≡ asks.publication_asked b
  publication = ap (option_and_then asks.publication_named) (text (codes "name") refl)

  imported : asks.import_asked a ≡ asks.import_asked b
  imported = λ i. option_and_then (λ d. option_map (λ parent. Changes (change.Import d parent)) (number 1 4294967295 (codes "parent") refl i)) (slot i)

  published : asks.publish_asked a ≡ asks.publish_asked b
  published = λ i. option_and_then (λ d. option_map (λ name. Changes (change.Publish d name)) (publication i)) (slot i)

  taken : asks.take_asked a ≡ asks.take_asked b
  taken = λ i. option_and_then (λ owner. option_map (λ name. Changes (change.Take owner name)) (publication i)) (number 0 4294967295 (codes "owner") refl i)

  parent : asks.parent_asked a ≡ asks.parent_asked b
  parent = λ i. if unsaid (codes "parent") refl i then Some None else option_map (λ d. Some d) (number 1 4294967295 (codes "parent") refl i)

  created : asks.create_asked a ≡ asks.create_asked b
  created = λ i. option_and_then (λ parent. option_and_then (λ parname. option_and_then (λ parlabel. option_and_then (λ model. option_map (λ created. Changes (change.Create created)) (creation parent parname parlabel model)) (model i)) (name_or_empty (codes "parlabel") refl i)) (name_or_empty (codes "parname") refl i)) (parent i)

  -- ---- additions

  size_or : (size : ℕ) → says.size_or size a ≡ says.size_or size b
  size_or size = λ i. if unsaid (codes "size") refl i then Some size else number 0 18446744073709551615 (codes "size") refl i

  scalar : says.scalar_asked a ≡ says.scalar_asked b
  scalar = λ i. scalar_of (number 0 18446744073709551615 (codes "size") refl i) (number 0 255 (codes "encoding") refl i) (number 0 255 (codes "offset") refl i) (number 0 65535 (codes "bits") refl i)

  array : says.new_array_asked a ≡ says.new_array_asked b
  array = λ i. array_of (type_under (codes "contents") refl i) (type_under (codes "index") refl i) (number 0 4294967295 (codes "count") refl i)

  function : says.new_function_asked a ≡ says.new_function_asked b
  function = λ i. option_and_then (λ returned. option_map (λ args. kind.Function returned args) (listed_at says.types_listed (codes "args") types-kept refl i)) (type_under (codes "type") refl i)

  kind_with : (what : Addable) → says.kind_with a what ≡ says.kind_with b what
  kind_with adds.Unknown = refl
  kind_with adds.Integer = ap (option_map (λ s. kind.Integer s)) scalar
  kind_with adds.Float = ap (option_map (λ s. kind.Float s)) scalar
  kind_with adds.Pointer = ap (option_map (λ t. kind.Pointer t)) (type_under (codes "type") refl)
  kind_with adds.Array = ap (option_map (λ a. kind.Array a)) array
  kind_with adds.Function = function
  kind_with adds.Struct = ap (option_map (λ size. kind.Struct size)) (size_or 0)
  kind_with adds.Union = ap (option_map (λ size. kind.Union size)) (size_or 0)
  kind_with adds.Enum = ap (option_map (λ size. kind.Enum size)) (size_or 4)
  kind_with adds.Forward = λ i. option_map (λ tag. kind.Forward tag) (option_and_then says.declared_named (text (codes "tag") refl i))
  kind_with adds.Typedef = ap (option_map (λ t. kind.Typedef t)) (type_under (codes "type") refl)
  kind_with adds.Volatile = ap (option_map (λ t. kind.Volatile t)) (type_under (codes "type") refl)
  kind_with adds.Const = ap (option_map (λ t. kind.Const t)) (type_under (codes "type") refl)
  kind_with adds.Restrict = ap (option_map (λ t. kind.Restrict t)) (type_under (codes "type") refl)
  kind_with adds.Member = refl
  kind_with adds.Enumerator = refl
  kind_with adds.Label = refl

  root : says.root_asked a ≡ says.root_asked b
  root = λ i. if unsaid (codes "root") refl i then Some true else truth (codes "root") refl i

  new_type : (what : Addable) → says.new_type_asked (says.kind_with a what) a ≡ says.new_type_asked (says.kind_with b what) b
  new_type what = λ i. option_and_then (λ x. option_and_then (λ name. option_map (λ root. add.Type name root x) (root i)) (name_or_empty (codes "name") refl i)) (kind_with what i)

  offset : says.offset_asked a ≡ says.offset_asked b
  offset = λ i. if unsaid (codes "offset") refl i then Some None else option_map (λ n. Some n) (number 0 18446744073709551615 (codes "offset") refl i)

  member : says.new_member_asked a ≡ says.new_member_asked b
  member = λ i. option_and_then (λ t. option_and_then (λ name. option_and_then (λ tnum. option_map (λ offset. add.Member t name tnum offset) (offset i)) (type_under (codes "type") refl i)) (name_or_empty (codes "name") refl i)) (type_in i)

  value_for : says.value_asked_for a ≡ says.value_asked_for b
  value_for = λ i. option_and_then says.within_signed (option_and_then as_i64 (numbered (codes "value") refl i))

  enumerator : says.new_enumerator_asked a ≡ says.new_enumerator_asked b
  enumerator = λ i. option_and_then (λ t. option_and_then (λ name. option_map (λ value. add.Enumerator t name value) (value_for i)) (name_or_empty (codes "name") refl i)) (type_in i)

  label : says.new_label_asked a ≡ says.new_label_asked b
  label = λ i. option_and_then (λ name. option_map (λ last. add.Label name last) (number 0 4294967295 (codes "last") refl i)) (name_or_empty (codes "name") refl i)

  addition_with : (what : Addable) → says.addition_with a what ≡ says.addition_with b what
  addition_with adds.Member = member
  addition_with adds.Enumerator = enumerator
  addition_with adds.Label = label
  addition_with adds.Unknown = new_type adds.Unknown
  addition_with adds.Integer = new_type adds.Integer
  addition_with adds.Float = new_type adds.Float
  addition_with adds.Pointer = new_type adds.Pointer
  addition_with adds.Array = new_type adds.Array
  addition_with adds.Function = new_type adds.Function
  addition_with adds.Struct = new_type adds.Struct
  addition_with adds.Union = new_type adds.Union
  addition_with adds.Enum = new_type adds.Enum
  addition_with adds.Forward = new_type adds.Forward
  addition_with adds.Typedef = new_type adds.Typedef
  addition_with adds.Volatile = new_type adds.Volatile
  addition_with adds.Const = new_type adds.Const
  addition_with adds.Restrict = new_type adds.Restrict

  addition : says.addition_asked a ≡ says.addition_asked b
  addition =
      ap (λ o. option_and_then (says.addition_with a) (option_and_then addable_named o)) (text (codes "what") refl)
      ∙ each (says.addition_with a) (says.addition_with b) addition_with (option_and_then addable_named (fields.text_in (codes "what") b))

  -- ---- words

  asked_with : (w : Word) → asks.asked_with a w ≡ asks.asked_with b w
  asked_with word.Part = part
  asked_with word.Check = refl
  asked_with word.Open = ap (option_map (λ model. Changes (change.Open (unwrap_or model default_model)))) model
  asked_with word.Clear = refl
  asked_with word.Reset = refl
  asked_with word.Close = ap (option_map (λ d. Changes (change.Close d))) slot
  asked_with word.Import = imported
  asked_with word.Publish = published
  asked_with word.Withdraw = ap (option_map (λ name. Changes (change.Withdraw name))) publication
  asked_with word.Take = taken
  asked_with word.Create = created
  asked_with word.Add = λ i. option_and_then (λ d. option_map (λ addition. Changes (change.Draft d (draft.Add addition))) (addition i)) (slot i)
  asked_with word.Update = ap (option_map (λ d. Changes (change.Draft d draft.Update))) slot
  asked_with word.Discard = ap (option_map (λ d. Changes (change.Draft d draft.Discard))) slot
  asked_with (word.Plain question) = about_type (Some (about.Plain question)) (Some (about.Plain question)) refl
  asked_with word.Members = about_type _ _ (ap (option_map (λ window. about.Members window)) window)
  asked_with word.Enumerators = about_type _ _ (ap (option_map (λ window. about.Enumerators window)) window)
  asked_with word.Find = about_slot _ _ (ap (option_map (λ written. whole.Find written)) (name (codes "text") refl))
  asked_with word.Path = about_type _ _ (ap (option_map (λ names. about.Path names)) names)
  asked_with word.Show = about_type _ _ show
  asked_with word.Symbol = about_slot _ _ (ap (option_map (λ name. whole.Symbol name)) (name (codes "name") refl))
  asked_with word.Object = about_slot _ _ (ap (option_map (λ number. whole.Object number)) symbol)
  asked_with word.Function = about_slot _ _ (ap (option_map (λ number. whole.Function number)) symbol)
  asked_with word.Labels = about_slot _ _ (ap (option_map (λ window. whole.Labels window)) window)
  asked_with word.Label = about_slot _ _ (ap (option_map (λ name. whole.Label name)) (name (codes "name") refl))
  asked_with (word.Held question) = about_held (Some question) (Some question) refl
  asked_with word.Bytes = about_held _ _ bytes

  -- the same word
  pub word-same : asks.word_asked a ≡ asks.word_asked b
  word-same = ap (option_and_then (λ w. word_named w words)) (text (codes "op") refl)

  request : asks.request_asked a ≡ asks.request_asked b
  request =
      ap (option_and_then (asks.asked_with a)) word-same
      ∙ each (asks.asked_with a) (asks.asked_with b) asked_with (asks.word_asked b)

  asked_by : (session : Option ℕ) → asks.asked_by a session ≡ asks.asked_by b session
  asked_by None = refl
  asked_by (Some s) = ap (asks.or_bad_request s) request

  -- its own number, or the given one
  session_or : (given : Option ℕ) → number_or given a ≡ number_or given b
  session_or given = λ i. if unsaid (codes "s") refl i then given else number 1 4294967295 (codes "s") refl i

  -- the same request
  pub asked_or-same : (given : Option ℕ) → value_asked_or given (Some a) ≡ value_asked_or given (Some b)
  asked_or-same given = ap (asks.asked_by a) (session_or given) ∙ asked_by (number_or given b)
