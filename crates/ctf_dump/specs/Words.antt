-- The line of a type as one text. Dump.antt of ctf_model defines the whole line; here its words are
-- joined.
use Rattle.std.specs.Prelude.{ℕ, ◌++◌, Bool, true, false, List, [], ◌∷◌, Option, Some, None, codes, decimal}
use Rattle.std.specs.List.{flat_map}
use Rattle.ctf_model.specs.format.Dictionary.{Dictionary}
use Rattle.ctf_model.specs.dumps.Dump.{in_quotes, line_of, list_lines, member_line, numbers, or_fault, signature_words, type_line, value_line}
use Rattle.ctf_model.specs.symbols.Entries.{Signature}
use Rattle.ctf_model.specs.figures.Figures.{align, size}
use Rattle.ctf_model.specs.names.KindNames.{name_of_kind, name_of_tag}
use Rattle.ctf_model.specs.format.Shown.{ArrayParts, EncodingParts, Facts, Shape, Shown, members, enumerators, arguments, array, encoding, tag, nothing}
use Rattle.ctf_model.specs.spaces.Space.{Space}
use Rattle.ctf_model.specs.format.Term.{Term}
use Rattle.ctf_model.specs.names.TypeNames.{spelled_name}

-- ---- optional words

abbrev pub size_text : Option ℕ → List ℕ
size_text None = []
size_text (Some size) = codes " size=" ++ decimal size

abbrev pub to_text : Option ℕ → List ℕ
to_text None = []
to_text (Some t) = codes " to=" ++ decimal t

abbrev pub signature_text : ℕ → List ℕ → List ℕ
signature_text ret args = codes " return=" ++ (decimal ret ++ (codes " args=" ++ numbers args))

abbrev pub object_text : ℕ → List ℕ → ℕ → List ℕ
object_text number name t =
    line_of (codes "object") (decimal number ∷ in_quotes name ∷ decimal t ∷ [])

abbrev pub function_text : ℕ → List ℕ → Signature → List ℕ
function_text number name f =
    line_of (codes "function") (decimal number ∷ in_quotes name ∷ signature_words f.ret f.args)

abbrev pub parent_text : Dictionary → List ℕ
parent_text d =
    codes " parname=" ++ (in_quotes d.parname ++ (codes " parlabel=" ++ in_quotes d.parlabel))

abbrev pub returned_text : Option ℕ → List ℕ → List ℕ
returned_text None args = []
returned_text (Some ret) args = signature_text ret args

abbrev pub array_text : ArrayParts → List ℕ
array_text a =
    codes " contents=" ++ (decimal a.contents ++ (codes " index=" ++ (decimal a.index
    ++ (codes " count=" ++ decimal a.count))))

abbrev pub encoding_text : EncodingParts → List ℕ
encoding_text e =
    codes " encoding=" ++ (decimal e.encoding ++ (codes " offset=" ++ (decimal e.offset
    ++ (codes " bits=" ++ decimal e.bits))))

abbrev pub root_text : Bool → List ℕ
root_text true = codes " root"
root_text false = codes " hidden"

-- ---- a type

-- the words that depend on what follows the record's head
abbrev pub behind_text : Shown → Shape → List ℕ
behind_text (members items) x = size_text x.size
behind_text (enumerators items) x = size_text x.size
behind_text (arguments items) x = returned_text x.reference items
behind_text (array a) x = array_text a ++ size_text x.size
behind_text (encoding e) x = size_text x.size ++ encoding_text e
behind_text (tag t) x = codes " tag=" ++ name_of_tag t
behind_text nothing x = to_text x.reference

abbrev pub shape_text : Shape → List ℕ
shape_text x = behind_text x.behind x

-- the words for type `n` itself
abbrev pub facts_text : ℕ → Facts → List ℕ
facts_text n x =
    codes "type " ++ (decimal n ++ (codes " " ++ (name_of_kind x.shape.kind ++ (codes " "
    ++ (in_quotes x.name ++ (root_text x.root ++ shape_text x.shape))))))

-- its name in C, its size and its alignment
abbrev pub figures_text : Space → ℕ → List ℕ
figures_text s n =
    codes " : " ++ (or_fault in_quotes (spelled_name s n) ++ (codes " bytes="
    ++ (or_fault decimal (size s n) ++ (codes " align=" ++ or_fault decimal (align s n)))))

-- the line of a type with these facts
abbrev pub typed_text : Space → ℕ → Facts → List ℕ
typed_text s n x = facts_text n x ++ (figures_text s n ++ codes "\n")

-- the lines of its members or enumerators
abbrev pub lines_behind : Shown → List ℕ
lines_behind (members items) = flat_map member_line items
lines_behind (enumerators items) = flat_map value_line items
lines_behind _ = []

-- all lines of a type
abbrev pub lines_of_type : Space → ℕ → Term → List ℕ
lines_of_type s n x = type_line s n x ++ list_lines x.body
