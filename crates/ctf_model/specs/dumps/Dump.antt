-- A dictionary as readable text: one line for the dictionary, each label, each symbol with
-- information, each type, and each member or enumerator. Source: ours.
use Rattle.std.specs.Prelude.{ℕ, ◌+◌, ◌++◌, Bool, true, false, List, [], ◌∷◌, length, map, Some, None, Result, Ok, Err, codes, decimal, if◌then◌else◌}
use Rattle.std.specs.List.{flat_map}
use Rattle.ctf_model.specs.format.Dictionary.{Dictionary, Label}
use Rattle.ctf_model.specs.symbols.Entries.{Entry, Signature}
use Rattle.ctf_model.specs.symbols.Entries as info
use Rattle.ctf_model.specs.rules.FaultNames.{name_of_fault}
use Rattle.ctf_model.specs.figures.Figures.{align, size}
use Rattle.ctf_model.specs.names.KindNames.{name_of_kind, name_of_tag}
use Rattle.ctf_model.specs.dumps.Texts.{with_commas, signed_decimal}
use Rattle.ctf_model.specs.format.Shown.{kind_of}
use Rattle.ctf_model.specs.spaces.Space.{Space}
use Rattle.ctf_model.specs.format.Term.{Body, Elements, Enumerator, Member, Scalar, Tag, Term}
use Rattle.ctf_model.specs.format.Term as term
use Rattle.ctf_model.specs.dumps.Texts.{hex_of_byte, is_plain}
use Rattle.ctf_model.specs.names.TypeNames.{spelled_name}
use Rattle.ctf_model.specs.spaces.TypePlaces.{own_number}
use Rattle.ctf_model.specs.declared.faults.Fault.{Fault}

-- ---- parts of a line

-- a plain byte unchanged, any other as a backslash, `x` and two hex digits
abbrev pub escape : ℕ → List ℕ
escape b = if is_plain b then b ∷ [] else 0x5c ∷ 0x78 ∷ hex_of_byte b

abbrev pub in_quotes : List ℕ → List ℕ
in_quotes name = codes "\"" ++ (flat_map escape name ++ codes "\"")

-- `word=text`
abbrev pub with_value : List ℕ → List ℕ → List ℕ
with_value word text = word ++ (codes "=" ++ text)

abbrev pub with_number : List ℕ → ℕ → List ℕ
with_number word n = with_value word (decimal n)

abbrev pub after_blanks : List (List ℕ) → List ℕ
after_blanks words = flat_map (λ word. 32 ∷ word) words

-- a line of words, separated by blanks
abbrev pub line_of : List ℕ → List (List ℕ) → List ℕ
line_of first words = first ++ (after_blanks words ++ codes "\n")

-- numbers, separated by commas
abbrev pub numbers : List ℕ → List ℕ
numbers ns = with_commas (map decimal ns)

-- ---- the lines before the types

abbrev pub yes_or_no : Bool → List ℕ
yes_or_no true = codes "yes"
yes_or_no false = codes "no"

abbrev pub head_line : Dictionary → List ℕ
head_line d =
    line_of (codes "ctf")
    (with_number (codes "types") (length d.terms)
    ∷ with_value (codes "child") (yes_or_no d.child)
    ∷ with_value (codes "parname") (in_quotes d.parname)
    ∷ with_value (codes "parlabel") (in_quotes d.parlabel) ∷ [])

abbrev pub label_line : Label → List ℕ
label_line x = line_of (codes "label") (in_quotes x.name ∷ decimal x.last ∷ [])

-- return type and arguments of a function, with a stored last argument 0
abbrev pub signature_words : ℕ → List ℕ → List (List ℕ)
signature_words ret args =
    with_number (codes "return") ret ∷ with_value (codes "args") (numbers args) ∷ []

-- the line of a symbol; none if the dictionary has no information about it
abbrev pub info_line : Entry → info.SymbolInfo → List ℕ
info_line e (info.object None) = []
info_line e (info.object (Some t)) =
    line_of (codes "object") (decimal e.number ∷ in_quotes e.name ∷ decimal t ∷ [])
info_line e (info.function None) = []
info_line e (info.function (Some f)) =
    line_of (codes "function") (decimal e.number ∷ in_quotes e.name ∷ signature_words f.ret f.args)

abbrev pub symbol_line : Entry → List ℕ
symbol_line e = info_line e e.info

-- ---- types

abbrev pub scalar_words : Scalar → List (List ℕ)
scalar_words x =
    with_number (codes "size") x.size ∷ with_number (codes "encoding") x.encoding
    ∷ with_number (codes "offset") x.offset ∷ with_number (codes "bits") x.bits ∷ []

abbrev pub array_words : Elements → List (List ℕ)
array_words a =
    with_number (codes "contents") a.contents ∷ with_number (codes "index") a.index
    ∷ with_number (codes "count") a.count ∷ with_number (codes "size") a.size ∷ []

abbrev pub to_words : ℕ → List (List ℕ)
to_words t = with_number (codes "to") t ∷ []

abbrev pub size_words : ℕ → List (List ℕ)
size_words said = with_number (codes "size") said ∷ []

-- the words for a type's own fields, without its name and its list
abbrev pub detail : Body → List (List ℕ)
detail (term.integer x) = scalar_words x
detail (term.float x) = scalar_words x
detail (term.pointer t) = to_words t
detail (term.typedef t) = to_words t
detail (term.volatile t) = to_words t
detail (term.const t) = to_words t
detail (term.restrict t) = to_words t
detail (term.array a) = array_words a
detail (term.function ret args) = signature_words ret args
detail (term.struct said ms) = size_words said
detail (term.union said ms) = size_words said
detail (term.enum said es) = size_words said
detail (term.forward tag) = with_value (codes "tag") (name_of_tag tag) ∷ []
detail term.unknown = []

abbrev pub visible : Bool → List ℕ
visible true = codes "root"
visible false = codes "hidden"

-- the text of a result, or the name of its fault
abbrev pub or_fault : {A : Type 0} → (A → List ℕ) → Result A Fault → List ℕ
or_fault text (Ok a) = text a
or_fault text (Err fault) = name_of_fault fault.code

abbrev pub type_line : Space → ℕ → Term → List ℕ
type_line s n x =
    line_of (codes "type")
    (decimal n ∷ name_of_kind (kind_of x.body) ∷ in_quotes x.name ∷ visible x.root
    ∷ (detail x.body
    ++ codes ":" ∷ or_fault in_quotes (spelled_name s n)
    ∷ with_value (codes "bytes") (or_fault decimal (size s n))
    ∷ with_value (codes "align") (or_fault decimal (align s n)) ∷ []))

abbrev pub member_line : Member → List ℕ
member_line m =
    line_of (codes "  member")
    (in_quotes m.name ∷ with_number (codes "offset") m.offset
    ∷ with_number (codes "type") m.tnum ∷ [])

abbrev pub value_line : Enumerator → List ℕ
value_line e = line_of (codes "  value") (in_quotes e.name ∷ signed_decimal e.value ∷ [])

-- the lines of the members or enumerators
abbrev pub list_lines : Body → List ℕ
list_lines (term.struct said ms) = flat_map member_line ms
list_lines (term.union said ms) = flat_map member_line ms
list_lines (term.enum said es) = flat_map value_line es
list_lines _ = []

-- the lines of these types; the first has index `i`
unfoldable pub types_from : Space → ℕ → List Term → List ℕ
types_from s i [] = []
types_from s i (x ∷ xs) =
    type_line s (own_number s.own.child i) x ++ (list_lines x.body ++ types_from s (i + 1) xs)

-- ---- the whole dump

abbrev pub dump : Space → List ℕ
dump s =
    head_line s.own ++ (flat_map label_line s.own.labels ++ (flat_map symbol_line s.own.entries
    ++ types_from s 0 s.own.terms))
