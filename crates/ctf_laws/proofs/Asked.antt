-- The numbers in a line's request fit their fields.
use Rattle.std.proofs.Common.{◌≡◌, ◌<◌, ◌≤◌, ◌^◌, ℕ, ℤ, pos, negsuc, List, [], ◌∷◌, Bool, true, false, Option, Some, None, Result, Ok, Err, option_and_then, codes, refl, ap, sym, subst, is_none, is_some, length, arith, w32}
use Rattle.std.specs.Prelude.{FitsSigned, ◌==◌, nat_le, nat_lt, not, if◌then◌else◌}
use Rattle.std.specs.Option.{ForSome, option_map}
use Rattle.std.proofs.Math.Dec.{eqb-suc-zero}
use Rattle.std.proofs.lemmas.Bool.{leb-true}
use Rattle.serde_json.specs.Data.{Data}
use Rattle.serde_json.specs.Find.{get, as_array, as_i64, as_number}
use Rattle.ctf_model.specs.drafts.Fitting.{FitsNew, FitsScalar}
use Rattle.ctf_model.specs.declared.data_model.DataModel.{DataModel}
use Rattle.ctf_model.specs.rules.Refusals.{placeless}
use Rattle.ctf_model.specs.declared.faults.Fault.{Fault}
use Rattle.ctf_model.specs.declared.faults.TheConstants.Fault.{LONG_LINE}
use Rattle.ctf_protocol.specs.lines.Ask.{about_held, about_slot, about_type, ask, asked_by, asked_with, bytes_asked, json, list_named, model_asked, names_asked, or_bad_request, owner_asked, parent_asked, publication_asked, show_asked, symbol_asked, value_asked, word_asked}
use Rattle.ctf_protocol.specs.lines.AskAdditions.{addition_asked, addition_with, kind_with, new_array_asked, new_type_asked, offset_asked, root_asked, scalar_asked, size_or, types_listed, value_asked_for, within_signed}
use Rattle.ctf_protocol.specs.lines.LineFields.{bytes_spelled, name_or_empty, name_under, number_in, slot_in, slot_under, text_in, type_asked, type_under, window_asked, in_range}
use Rattle.ctf_protocol.specs.lines.Lines.{longest_line}
use Rattle.ctf_protocol.specs.sessions.Additions.{asked_body, scalar_of}
use Rattle.ctf_protocol.specs.sessions.Creations.{Created, creation}
use Rattle.ctf_protocol.specs.declared.addables.Addable.{Addable}
use Rattle.ctf_protocol.specs.declared.addables.Addable.TheVariants as adds
use Rattle.ctf_protocol.specs.declared.additions.Addition.TheVariants as add
use Rattle.ctf_protocol.specs.declared.additions.NewKind.{NewKind}
use Rattle.ctf_protocol.specs.declared.additions.NewKind.TheVariants as kind
use Rattle.ctf_protocol.specs.declared.additions.NewArray.{NewArray}
use Rattle.ctf_protocol.specs.declared.questions.HeldQuestion.{HeldQuestion}
use Rattle.ctf_protocol.specs.declared.questions.SlotQuestion.{SlotQuestion}
use Rattle.ctf_protocol.specs.declared.questions.TypeQuestion.{TypeQuestion}
use Rattle.ctf_protocol.specs.declared.questions.Question.TheVariants.{OfHeld, OfSlot, OfType}
use Rattle.ctf_protocol.specs.declared.questions.SlotQuestion.TheVariants as whole
use Rattle.ctf_protocol.specs.declared.questions.TypeQuestion.TheVariants as about
use Rattle.ctf_protocol.specs.declared.requests.Change.TheVariants as change
use Rattle.ctf_protocol.specs.declared.requests.DraftStep.TheVariants as draft
use Rattle.ctf_protocol.specs.declared.requests.Request.{Request}
use Rattle.ctf_protocol.specs.declared.requests.Request.TheVariants.{Asks, Changes}
use Rattle.ctf_protocol.specs.words.Addables.{addable_named}
use Rattle.ctf_model.specs.declared.numbers.TypeNum.{TypeNum}
use Rattle.ctf_protocol.specs.declared.words.Word.{Word}
use Rattle.ctf_protocol.specs.declared.words.Word.TheVariants as word
use Rattle.ctf_laws.specs.Good.{FitsAddition, FitsRequest}
use Rattle.ctf_laws.specs.GoodLaws.{LinesFit}

-- ---- facts of optional values

and_then : {A B : Type 0} (P : B → Type 0) (f : A → Option B) (o : Option A) → ((a : A) → o ≡ Some a → ForSome (f a) P) → ForSome (option_and_then f o) P
and_then P f None h = λ b e. absurd cc
and_then P f (Some a) h = h a refl

mapped : {A B : Type 0} (P : B → Type 0) (f : A → B) (o : Option A) → ((a : A) → o ≡ Some a → P (f a)) → ForSome (option_map f o) P
mapped P f None h = λ b e. absurd cc
mapped P f (Some a) h = λ b e. let same : f a ≡ b = cc in subst P same (h a refl)

either : {A : Type 0} (P : A → Type 0) (t : Bool) (a b : Option A) → ForSome a P → ForSome b P → ForSome (if t then a else b) P
either P true a b ga gb = ga
either P false a b ga gb = gb

just : {A : Type 0} (P : A → Type 0) (a : A) → P a → ForSome (Some a) P
just P a h = λ b e. let same : a ≡ b = cc in subst P same h

-- ---- numbers

within_case : (low high n : ℕ) (t u : Bool) → nat_le low n ≡ t → nat_le n high ≡ u → ForSome (in_range low high n) (λ m. m ≤ high)
within_case low high n true true t u = rw (t, u) (just (λ m. m ≤ high) n (leb-true n high u))
within_case low high n true false t u = rw (t, u) (λ b e. absurd cc)
within_case low high n false u t v = rw t (λ b e. absurd cc)

number_high : (low high : ℕ) (key : List ℕ) (line : Data) → ForSome (number_in low high key line) (λ n. n ≤ high)
number_high low high key line = and_then (λ n. n ≤ high) (in_range low high) _ (λ n e. within_case low high n (nat_le low n) (nat_le n high) refl refl)

size_fits : (size : ℕ) (line : Data) → size < 2 ^ 64 → ForSome (size_or size line) (λ n. n < 2 ^ 64)
size_fits size line low = either (λ n. n < 2 ^ 64) (is_none (get (codes "size") line)) _ _ (just (λ n. n < 2 ^ 64) size low) (λ n e. let high = number_high 0 18446744073709551615 (codes "size") line n e in omega (arith, high))

scalar_fits : (line : Data) → ForSome (scalar_asked line) (λ s. FitsScalar (scalar_of s))
scalar_fits line =
    and_then _ _ _ (λ size a. and_then _ _ _ (λ encoding b. and_then _ _ _ (λ offset c. mapped _ _ _ (λ bits d.
    let w = number_high 0 18446744073709551615 (codes "size") line size a in
    let x = number_high 0 255 (codes "encoding") line encoding b in
    let y = number_high 0 255 (codes "offset") line offset c in
    let z = number_high 0 65535 (codes "bits") line bits d in
    record { size = omega (arith, w); encoding = omega (arith, x); offset = omega (arith, y); bits = omega (arith, z) }))))

signed_pos : (n : ℕ) (t : Bool) → nat_le n 2147483647 ≡ t → ForSome (within_signed (pos n)) (FitsSigned w32)
signed_pos n true t = let le = leb-true n 2147483647 t in rw t (just (FitsSigned w32) (pos n) (omega (arith, le)))
signed_pos n false t = rw t (λ b e. absurd cc)

signed_neg : (n : ℕ) (t : Bool) → nat_le n 2147483647 ≡ t → ForSome (within_signed (negsuc n)) (FitsSigned w32)
signed_neg n true t = let le = leb-true n 2147483647 t in rw t (just (FitsSigned w32) (negsuc n) (omega (arith, le)))
signed_neg n false t = rw t (λ b e. absurd cc)

signed : (z : ℤ) → ForSome (within_signed z) (FitsSigned w32)
signed (pos n) = signed_pos n (nat_le n 2147483647) refl
signed (negsuc n) = signed_neg n (nat_le n 2147483647) refl

-- ---- additions

array_fits : (line : Data) → ForSome (new_array_asked line) (λ a. a.count < 2 ^ 32)
array_fits line = and_then (λ (a : NewArray). a.count < 2 ^ 32) (λ contents. option_and_then (λ index. option_map (λ count. record { contents = contents; index = index; count = count }) (number_in 0 4294967295 (codes "count") line)) (type_under (codes "index") line)) (type_under (codes "contents") line) (λ contents a. and_then (λ (a : NewArray). a.count < 2 ^ 32) (λ index. option_map (λ count. record { contents = contents; index = index; count = count }) (number_in 0 4294967295 (codes "count") line)) (type_under (codes "index") line) (λ index b. mapped (λ (a : NewArray). a.count < 2 ^ 32) (λ count. record { contents = contents; index = index; count = count }) (number_in 0 4294967295 (codes "count") line) (λ count c. let high = number_high 0 4294967295 (codes "count") line count c in omega (arith, high))))

abbrev args_asked : Data → Option (List TypeNum)
args_asked line = option_and_then types_listed (option_and_then as_array (get (codes "args") line))

abbrev FitsKind : NewKind → Type 0
FitsKind kind = FitsNew (asked_body kind)

kind_fits : (line : Data) (what : Addable) → ForSome (kind_with line what) FitsKind
kind_fits line adds.Unknown = just FitsKind _ tt
kind_fits line adds.Integer = mapped FitsKind _ _ (λ s e. scalar_fits line s e)
kind_fits line adds.Float = mapped FitsKind _ _ (λ s e. scalar_fits line s e)
kind_fits line adds.Pointer = mapped FitsKind _ _ (λ t e. tt)
kind_fits line adds.Array = mapped FitsKind _ _ (λ a e. array_fits line a e)
kind_fits line adds.Function = and_then FitsKind (λ returned. option_map (λ args. kind.Function returned args) (args_asked line)) (type_under (codes "type") line) (λ returned e. mapped FitsKind (λ args. kind.Function returned args) (args_asked line) (λ args i. tt))
kind_fits line adds.Struct = mapped FitsKind _ _ (λ size e. size_fits 0 line (omega arith) size e)
kind_fits line adds.Union = mapped FitsKind _ _ (λ size e. size_fits 0 line (omega arith) size e)
kind_fits line adds.Enum = mapped FitsKind _ _ (λ size e. size_fits 4 line (omega arith) size e)
kind_fits line adds.Forward = mapped FitsKind _ _ (λ tag e. tt)
kind_fits line adds.Typedef = mapped FitsKind _ _ (λ t e. tt)
kind_fits line adds.Volatile = mapped FitsKind _ _ (λ t e. tt)
kind_fits line adds.Const = mapped FitsKind _ _ (λ t e. tt)
kind_fits line adds.Restrict = mapped FitsKind _ _ (λ t e. tt)
kind_fits line adds.Member = λ k e. absurd cc
kind_fits line adds.Enumerator = λ k e. absurd cc
kind_fits line adds.Label = λ k e. absurd cc

type_fits : (kind : Option NewKind) (line : Data) → ForSome kind FitsKind → ForSome (new_type_asked kind line) FitsAddition
type_fits kind line h = and_then FitsAddition (λ x. option_and_then (λ name. option_map (λ root. add.Type name root x) (root_asked line)) (name_or_empty (codes "name") line)) kind (λ x e. and_then FitsAddition (λ name. option_map (λ root. add.Type name root x) (root_asked line)) (name_or_empty (codes "name") line) (λ name i. mapped FitsAddition (λ root. add.Type name root x) (root_asked line) (λ root j. h x e)))

addition_fits : (line : Data) (what : Addable) → ForSome (addition_with line what) FitsAddition
addition_fits line adds.Member = and_then FitsAddition (λ t. option_and_then (λ name. option_and_then (λ tnum. option_map (λ offset. add.Member t name tnum offset) (offset_asked line)) (type_under (codes "type") line)) (name_or_empty (codes "name") line)) (type_asked line) (λ t e. and_then FitsAddition (λ name. option_and_then (λ tnum. option_map (λ offset. add.Member t name tnum offset) (offset_asked line)) (type_under (codes "type") line)) (name_or_empty (codes "name") line) (λ name i. and_then FitsAddition (λ tnum. option_map (λ offset. add.Member t name tnum offset) (offset_asked line)) (type_under (codes "type") line) (λ tnum j. mapped FitsAddition (λ offset. add.Member t name tnum offset) (offset_asked line) (λ offset k. tt))))
addition_fits line adds.Enumerator = and_then FitsAddition (λ t. option_and_then (λ name. option_map (λ value. add.Enumerator t name value) (value_asked_for line)) (name_or_empty (codes "name") line)) (type_asked line) (λ t e. and_then FitsAddition (λ name. option_map (λ value. add.Enumerator t name value) (value_asked_for line)) (name_or_empty (codes "name") line) (λ name i. mapped FitsAddition (λ value. add.Enumerator t name value) (value_asked_for line) (λ value j. and_then (FitsSigned w32) within_signed (option_and_then as_i64 (option_and_then as_number (get (codes "value") line))) (λ z k. signed z) value j)))
addition_fits line adds.Label = and_then FitsAddition (λ name. option_map (λ last. add.Label name last) (number_in 0 4294967295 (codes "last") line)) (name_or_empty (codes "name") line) (λ name e. mapped FitsAddition (λ last. add.Label name last) (number_in 0 4294967295 (codes "last") line) (λ last i. let high = number_high 0 4294967295 (codes "last") line last i in omega (arith, high)))
addition_fits line adds.Unknown = type_fits (kind_with line adds.Unknown) line (kind_fits line adds.Unknown)
addition_fits line adds.Integer = type_fits (kind_with line adds.Integer) line (kind_fits line adds.Integer)
addition_fits line adds.Float = type_fits (kind_with line adds.Float) line (kind_fits line adds.Float)
addition_fits line adds.Pointer = type_fits (kind_with line adds.Pointer) line (kind_fits line adds.Pointer)
addition_fits line adds.Array = type_fits (kind_with line adds.Array) line (kind_fits line adds.Array)
addition_fits line adds.Function = type_fits (kind_with line adds.Function) line (kind_fits line adds.Function)
addition_fits line adds.Struct = type_fits (kind_with line adds.Struct) line (kind_fits line adds.Struct)
addition_fits line adds.Union = type_fits (kind_with line adds.Union) line (kind_fits line adds.Union)
addition_fits line adds.Enum = type_fits (kind_with line adds.Enum) line (kind_fits line adds.Enum)
addition_fits line adds.Forward = type_fits (kind_with line adds.Forward) line (kind_fits line adds.Forward)
addition_fits line adds.Typedef = type_fits (kind_with line adds.Typedef) line (kind_fits line adds.Typedef)
addition_fits line adds.Volatile = type_fits (kind_with line adds.Volatile) line (kind_fits line adds.Volatile)
addition_fits line adds.Const = type_fits (kind_with line adds.Const) line (kind_fits line adds.Const)
addition_fits line adds.Restrict = type_fits (kind_with line adds.Restrict) line (kind_fits line adds.Restrict)

-- ---- requests

abbrev Fits : Option Request → Type 0
Fits request = ForSome request FitsRequest

abbrev made : Option ℕ → List ℕ → List ℕ → Option DataModel → Option Request
made parent parname parlabel model = option_map (λ created. Changes (change.Create created)) (creation parent parname parlabel model)

abbrev CreatedFits : Created → Type 0
CreatedFits c = is_some c.parent ≡ not (length c.parname == 0)

created_fits : (parent : Option ℕ) (parname parlabel : List ℕ) (model : Option DataModel) → ForSome (creation parent parname parlabel model) CreatedFits
created_fits None [] parlabel model = just CreatedFits (record { parent = None; parname = []; parlabel = parlabel; model = model }) refl
created_fits (Some d) (byte ∷ bytes) parlabel model = just CreatedFits (record { parent = Some d; parname = byte ∷ bytes; parlabel = parlabel; model = model }) (sym (ap not (eqb-suc-zero (length bytes))))
created_fits None (byte ∷ bytes) parlabel model = λ c e. absurd cc
created_fits (Some d) [] parlabel model = λ c e. absurd cc

of_type : (line : Data) (question : Option TypeQuestion) → Fits (about_type question line)
of_type line question = and_then FitsRequest (λ q. option_and_then (λ d. option_map (λ t. Asks d (OfType t q)) (type_asked line)) (slot_in line)) question (λ q a. and_then FitsRequest (λ d. option_map (λ t. Asks d (OfType t q)) (type_asked line)) (slot_in line) (λ d b. mapped FitsRequest (λ t. Asks d (OfType t q)) (type_asked line) (λ t c. tt)))

of_slot : (line : Data) (question : Option SlotQuestion) → Fits (about_slot question line)
of_slot line question = and_then FitsRequest (λ q. option_map (λ d. Asks d (OfSlot q)) (slot_in line)) question (λ q a. mapped FitsRequest (λ d. Asks d (OfSlot q)) (slot_in line) (λ d b. tt))

of_held : (line : Data) (question : Option HeldQuestion) → Fits (about_held question line)
of_held line question = and_then FitsRequest (λ q. option_map (λ d. Asks d (OfHeld q)) (slot_in line)) question (λ q a. mapped FitsRequest (λ d. Asks d (OfHeld q)) (slot_in line) (λ d b. tt))

word_fits : (line : Data) (w : Word) → Fits (asked_with line w)
word_fits line word.Part = and_then FitsRequest (λ list. option_map (λ bytes. Changes (change.Part list bytes)) (option_and_then bytes_spelled (text_in (codes "bytes") line))) (option_and_then list_named (text_in (codes "section") line)) (λ list e. mapped FitsRequest (λ bytes. Changes (change.Part list bytes)) (option_and_then bytes_spelled (text_in (codes "bytes") line)) (λ bytes i. tt))
word_fits line word.Check = just FitsRequest _ tt
word_fits line word.Open = mapped FitsRequest _ _ (λ model e. tt)
word_fits line word.Clear = just FitsRequest _ tt
word_fits line word.Reset = just FitsRequest _ tt
word_fits line word.Close = mapped FitsRequest _ _ (λ d e. tt)
word_fits line word.Import = and_then FitsRequest (λ d. option_map (λ parent. Changes (change.Import d parent)) (slot_under (codes "parent") line)) (slot_in line) (λ d e. mapped FitsRequest (λ parent. Changes (change.Import d parent)) (slot_under (codes "parent") line) (λ p i. tt))
word_fits line word.Publish = and_then FitsRequest (λ d. option_map (λ name. Changes (change.Publish d name)) (publication_asked line)) (slot_in line) (λ d e. mapped FitsRequest (λ name. Changes (change.Publish d name)) (publication_asked line) (λ name i. tt))
word_fits line word.Withdraw = mapped FitsRequest _ _ (λ name e. tt)
word_fits line word.Take = and_then FitsRequest (λ owner. option_map (λ name. Changes (change.Take owner name)) (publication_asked line)) (owner_asked line) (λ owner e. mapped FitsRequest (λ name. Changes (change.Take owner name)) (publication_asked line) (λ name i. tt))
word_fits line word.Create = and_then FitsRequest (λ parent. option_and_then (λ parname. option_and_then (λ parlabel. option_and_then (λ model. made parent parname parlabel model) (model_asked line)) (name_or_empty (codes "parlabel") line)) (name_or_empty (codes "parname") line)) (parent_asked line) (λ parent a. and_then FitsRequest (λ parname. option_and_then (λ parlabel. option_and_then (λ model. made parent parname parlabel model) (model_asked line)) (name_or_empty (codes "parlabel") line)) (name_or_empty (codes "parname") line) (λ parname b. and_then FitsRequest (λ parlabel. option_and_then (λ model. made parent parname parlabel model) (model_asked line)) (name_or_empty (codes "parlabel") line) (λ parlabel c. and_then FitsRequest (λ model. made parent parname parlabel model) (model_asked line) (λ model d. mapped FitsRequest (λ created. Changes (change.Create created)) (creation parent parname parlabel model) (λ created e. created_fits parent parname parlabel model created e)))))
word_fits line word.Add = and_then FitsRequest (λ d. option_map (λ addition. Changes (change.Draft d (draft.Add addition))) (addition_asked line)) (slot_in line) (λ d e. mapped FitsRequest (λ addition. Changes (change.Draft d (draft.Add addition))) (addition_asked line) (λ addition i. and_then FitsAddition (addition_with line) (option_and_then addable_named (text_in (codes "what") line)) (λ what j. addition_fits line what) addition i))
word_fits line word.Update = mapped FitsRequest _ _ (λ d e. tt)
word_fits line word.Discard = mapped FitsRequest _ _ (λ d e. tt)
word_fits line (word.Plain question) = of_type line (Some (about.Plain question))
word_fits line word.Members = of_type line (option_map (λ window. about.Members window) (window_asked line))
word_fits line word.Enumerators = of_type line (option_map (λ window. about.Enumerators window) (window_asked line))
word_fits line word.Find = of_slot line (option_map (λ written. whole.Find written) (name_under (codes "text") line))
word_fits line word.Path = of_type line (option_map (λ names. about.Path names) (names_asked line))
word_fits line word.Show = of_type line (show_asked line)
word_fits line word.Symbol = of_slot line (option_map (λ name. whole.Symbol name) (name_under (codes "name") line))
word_fits line word.Object = of_slot line (option_map (λ number. whole.Object number) (symbol_asked line))
word_fits line word.Function = of_slot line (option_map (λ number. whole.Function number) (symbol_asked line))
word_fits line word.Labels = of_slot line (option_map (λ window. whole.Labels window) (window_asked line))
word_fits line word.Label = of_slot line (option_map (λ name. whole.Label name) (name_under (codes "name") line))
word_fits line (word.Held question) = of_held line (Some question)
word_fits line word.Bytes = of_held line (bytes_asked line)

-- ---- lines

abbrev read : ℕ → Request → Result (ℕ × Request) (ℕ × Fault)
read s request = Ok (s, request)

asked_is : (s : ℕ) (request : Request) (asked : ℕ × Request) → read s request ≡ Ok asked → request ≡ asked.1
asked_is s request asked e = let same : (s, request) ≡ asked = cc in ap (λ (x : ℕ × Request). x.1) same

bad_or_fits : (s : ℕ) (o : Option Request) (asked : ℕ × Request) → Fits o → or_bad_request s o ≡ Ok asked → FitsRequest asked.1
bad_or_fits s None asked h e = absurd cc
bad_or_fits s (Some request) asked h e = h asked.1 (ap (λ (x : Request). Some x) (asked_is s request asked e))

by_fits : (line : Data) (s : Option ℕ) (asked : ℕ × Request) → asked_by line s ≡ Ok asked → FitsRequest asked.1
by_fits line None asked e = absurd cc
by_fits line (Some s) asked e = bad_or_fits s _ asked (and_then FitsRequest (asked_with line) (word_asked line) (λ w i. word_fits line w)) e

value_fits : (o : Option Data) (asked : ℕ × Request) → value_asked o ≡ Ok asked → FitsRequest asked.1
value_fits None asked e = absurd cc
value_fits (Some line) asked e = by_fits line _ asked e

line_fits : (long : Bool) (line : List ℕ) (asked : ℕ × Request) → nat_lt longest_line (length line) ≡ long → ask line ≡ Ok asked → FitsRequest asked.1
unfolding ask
line_fits true line asked t e = let too : Err (0, placeless LONG_LINE) ≡ Ok asked = rw t at e in absurd cc
line_fits false line asked t e = let read : value_asked (json line) ≡ Ok asked = rw t at e in value_fits (json line) asked read

pub lines_fit : LinesFit
lines_fit line asked e = line_fits (nat_lt longest_line (length line)) line asked refl e
