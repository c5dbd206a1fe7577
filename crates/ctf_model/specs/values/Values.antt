-- The text of a value in a program's memory, by its type. Source: ours; the encoding of a type's
-- numbers is ctf(5), "The Type Section".
use Rattle.std.specs.Prelude.{ℕ, ℤ, pos, zero, suc, ◌+◌, ◌*◌, ◌%◌, ◌==◌, ◌++◌, nat_lt, Bool, List, [], ◌∷◌, map, Result, Ok, Err, codes, if◌then◌else◌}
use Rattle.std.specs.List.{range_with_len}
use Rattle.std.specs.Ordering.{int_eq}
use Rattle.ctf_model.specs.rules.Chains.{longest_chain}
use Rattle.ctf_model.specs.figures.Figures.{enum_size, incomplete, size}
use Rattle.ctf_model.specs.values.MemoryBits.{bit_field, hexadecimal, signed_value, started_bytes}
use Rattle.ctf_model.specs.values.Pieces.{Pieces, piece, no_pieces, ends, then_pieces, separate, between, text_or_fault}
use Rattle.ctf_model.specs.dumps.Texts.{signed_decimal}
use Rattle.ctf_model.specs.format.Shown.{EncodingParts, encoding_parts}
use Rattle.ctf_model.specs.spaces.Space.{Space, pointer_size, space_type}
use Rattle.ctf_model.specs.format.Term.{Body, Elements, Enumerator, Member, Scalar, Term}
use Rattle.ctf_model.specs.format.Term as term
use Rattle.ctf_model.specs.declared.faults.Fault.{Fault}

-- ---- numbers

-- the text of a number, or its fault
abbrev pub by_number : (ℕ → List ℕ) → Result ℕ Fault → Pieces
by_number text (Ok n) = piece (text n)
by_number text (Err fault) = ends fault

abbrev pub raw_text : ℕ → ℕ → List ℕ
raw_text width n = codes "0x" ++ hexadecimal (started_bytes width) n

-- `width` bits from bit `p` on, in hexadecimal
abbrev pub raw_shown : List ℕ → ℕ → ℕ → Pieces
raw_shown memory p width = by_number (raw_text width) (bit_field memory p width)

-- the flag CTF_INT_SIGNED of sys/ctf.h
abbrev pub is_signed : ℕ → Bool
is_signed encoding = encoding % 2 == 1

abbrev pub integer_value : ℕ → ℕ → ℕ → ℤ
integer_value encoding width n = if is_signed encoding then signed_value width n else pos n

-- an integer begins at its offset; more than 64 bits are shown in hexadecimal, none as void
abbrev pub integer_shown : List ℕ → ℕ → EncodingParts → Pieces
integer_shown memory p x =
    if x.bits == 0 then piece (codes "void")
    else if nat_lt 64 x.bits then raw_shown memory (p + x.offset) x.bits
    else by_number (λ n. signed_decimal (integer_value x.encoding x.bits n))
    (bit_field memory (p + x.offset) x.bits)

abbrev pub float_shown : List ℕ → ℕ → EncodingParts → Pieces
float_shown memory p x =
    if x.bits == 0 then piece (codes "void") else raw_shown memory (p + x.offset) x.bits

-- ---- enums

-- the name of the first enumerator with this value, else the number
unfoldable pub name_of_value : List Enumerator → ℤ → List ℕ
name_of_value [] value = signed_decimal value
name_of_value (e ∷ es) value = if int_eq e.value value then e.name else name_of_value es value

-- an enum of `size` bytes; its number is signed, and shown in hexadecimal beyond 64 bits
abbrev pub enum_shown : List ℕ → ℕ → ℕ → List Enumerator → Pieces
enum_shown memory p size es =
    if nat_lt 8 size then raw_shown memory p (8 * size)
    else by_number (λ n. name_of_value es (signed_value (8 * size) n)) (bit_field memory p (8 * size))

-- ---- compound values

-- formats the value of type `n` at bit offset `p`
abbrev pub Shows : Type 0
Shows = ℕ → ℕ → Pieces

-- a name and ` = `; nothing for the empty name
abbrev pub label : List ℕ → Pieces
label [] = no_pieces
label (x ∷ name) = then_pieces (piece (x ∷ name)) (piece (codes " = "))

-- a member of the value at bit `p`
abbrev pub member_shown : Shows → ℕ → Member → Pieces
member_shown show p m = then_pieces (label m.name) (show m.tnum (p + m.offset))

abbrev pub members_shown : Shows → ℕ → List Member → Pieces
members_shown show p ms = between (codes "{") (codes "}") (separate (map (member_shown show p) ms))

-- `count` elements of `size` bytes, one after another
abbrev pub each_element : Shows → ℕ → ℕ → ℕ → Result ℕ Fault → List Pieces
each_element show p contents count (Ok size) =
    map (λ i. show contents (p + 8 * size * i)) (range_with_len 0 count)
each_element show p contents count (Err fault) = ends fault ∷ []

-- the size of the contents matters only if there are elements
abbrev pub elements_shown : Shows → ℕ → ℕ → ℕ → Result ℕ Fault → Pieces
elements_shown show p contents count size =
    if count == 0 then no_pieces else separate (each_element show p contents count size)

abbrev pub array_shown : Shows → ℕ → ℕ → ℕ → Result ℕ Fault → Pieces
array_shown show p contents count size =
    between (codes "[") (codes "]") (elements_shown show p contents count size)

-- ---- any value

-- the text of a value at bit `p`, given a function for nested values; a typedef or qualifier
-- formats as its type
abbrev pub body_shown : Space → List ℕ → Shows → ℕ → Body → Pieces
body_shown s memory show p (term.integer x) = integer_shown memory p (encoding_parts x)
body_shown s memory show p (term.float x) = float_shown memory p (encoding_parts x)
body_shown s memory show p (term.pointer t) = raw_shown memory p (8 * pointer_size s.model)
body_shown s memory show p (term.enum said es) = enum_shown memory p (enum_size said) es
body_shown s memory show p (term.struct said ms) = members_shown show p ms
body_shown s memory show p (term.union said ms) = members_shown show p ms
body_shown s memory show p (term.array a) =
    array_shown show p a.contents a.count (size s a.contents)
body_shown s memory show p (term.typedef t) = show t p
body_shown s memory show p (term.volatile t) = show t p
body_shown s memory show p (term.const t) = show t p
body_shown s memory show p (term.restrict t) = show t p
body_shown s memory show p (term.function returned arguments) = ends incomplete
body_shown s memory show p (term.forward tag) = ends incomplete
body_shown s memory show p term.unknown = ends incomplete

abbrev pub found_shown : Space → List ℕ → Shows → ℕ → Result Term Fault → Pieces
found_shown s memory show p (Ok x) = body_shown s memory show p x.body
found_shown s memory show p (Err fault) = ends fault

-- the rule of values: the text of type `n`'s value, given a function for nested values
abbrev pub by_rule : Space → List ℕ → Shows → Shows
by_rule s memory show n p =
    if n == 0 then ends incomplete else found_shown s memory show p (space_type s n)

-- The text of type `n`'s value, following at most `k` numbers. Beyond that bound it ends with the
-- fault `Incomplete`.
unfoldable pub shown_within : Space → List ℕ → ℕ → Shows
shown_within s memory zero n p = ends incomplete
shown_within s memory (suc k) n p = by_rule s memory (shown_within s memory k) n p

-- The bound that dictionaries without a fault never reach: a chain has one own type more than it
-- has steps, as many of the parent's, and a 0 may follow the last type.
unfoldable pub most_values : ℕ
most_values = 2 * (longest_chain + 1) + 1

-- the text of the value of type `n` at bit `p` of the memory
abbrev pub shown_value : Space → List ℕ → Shows
shown_value s memory n p = shown_within s memory most_values n p

-- that text as an answer
abbrev pub value_text : Space → List ℕ → ℕ → ℕ → Result (List ℕ) Fault
value_text s memory n p = text_or_fault (shown_value s memory n p)
