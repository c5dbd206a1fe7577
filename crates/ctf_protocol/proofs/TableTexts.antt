-- The faults of spelled names, look-ups and formatted values are in the table.
use Rattle.std.proofs.Common.{◌≡◌, ℕ, suc, zero, ◌+◌, ◌*◌, List, [], ◌∷◌, length, map, Bool, true, false, Option, Some, None, Result, Ok, Err, refl}
use Rattle.std.specs.Prelude.{◌==◌, nat_lt, nat_le, codes, if◌then◌else◌}
use Rattle.std.specs.List.{range_with_len}
use Rattle.ctf_model.specs.dumps.Texts.{signed_decimal}
use Rattle.ctf_model.specs.figures.Figures.{enum_size, incomplete, resolved_type, size}
use Rattle.ctf_model.specs.format.Shown.{EncodingParts, encoding_parts}
use Rattle.ctf_model.specs.format.Term.{Body, Enumerator, Member, Term}
use Rattle.ctf_model.specs.format.Term as term
use Rattle.ctf_model.specs.names.Lookups.{base, lookup, is_called, is_no_name, is_pointer_to, least, or_not_found, pointers_on, pointer_behind, pointer_or_behind, pointer_to, stars, written_name}
use Rattle.ctf_model.specs.names.TypeNames.{Declaration, around, bare_name, declaration, declaration_by, declaration_of, declaration_within, declared, longest_text, spelled_name, text_of_declaration, too_long}
use Rattle.ctf_model.specs.rules.Refusals.{placeless}
use Rattle.ctf_model.specs.spaces.Space.{Space, pointer_size, space_type}
use Rattle.ctf_model.specs.values.MemoryBits.{bits_at, bit_field, short_memory, signed_value}
use Rattle.ctf_model.specs.values.Pieces.{Pieces, between, each_behind_comma, ended_by, ends, then_pieces, goes_on, no_pieces, piece, separate}
use Rattle.ctf_model.specs.values.Values.{Shows, array_shown, body_shown, by_number, each_element, elements_shown, enum_shown, float_shown, found_shown, integer_shown, integer_value, label, member_shown, members_shown, most_values, name_of_value, raw_shown, raw_text, shown_value, shown_within, value_text}
use Rattle.ctf_model.specs.declared.faults.Fault.{Fault}
use Rattle.ctf_model.specs.declared.faults.TheConstants.Fault.{BAD_SYNTAX}
use Rattle.ctf_model.specs.declared.layers.Layer.{Layer}
use Rattle.ctf_protocol.proofs.TableCodes.{either, good, good_fault}
use Rattle.ctf_protocol.proofs.TableFigures.{resolved_good, size_good, type_good}

-- ---- spelled names

around_good : (layer : Layer) (r : Result Declaration Fault) → good r ≡ true → good (around layer r) ≡ true
around_good layer (Ok inside) g = refl
around_good layer (Err f) g = g

declared_good : (others : ℕ → Result Declaration Fault) → ((n : ℕ) → good (others n) ≡ true) → (name : List ℕ) (b : Body) → good (declaration_by others name b) ≡ true
declared_good others h name term.unknown = refl
declared_good others h name (term.integer x) = refl
declared_good others h name (term.float x) = refl
declared_good others h name (term.pointer t) = around_good _ (others t) (h t)
declared_good others h name (term.array a) = around_good _ (others a.contents) (h a.contents)
declared_good others h name (term.function r args) = around_good _ (others r) (h r)
declared_good others h name (term.struct size ms) = refl
declared_good others h name (term.union size ms) = refl
declared_good others h name (term.enum size es) = refl
declared_good others h name (term.forward tag) = refl
declared_good others h name (term.typedef t) = refl
declared_good others h name (term.volatile t) = around_good _ (others t) (h t)
declared_good others h name (term.const t) = around_good _ (others t) (h t)
declared_good others h name (term.restrict t) = around_good _ (others t) (h t)

of_good : (others : ℕ → Result Declaration Fault) → ((n : ℕ) → good (others n) ≡ true) → (r : Result Term Fault) → good r ≡ true → good (declaration_of others r) ≡ true
of_good others h (Ok x) g = declared_good others h x.name x.body
of_good others h (Err f) g = g

within_good : (s : Space) (k n : ℕ) → good (declaration_within s k n) ≡ true
unfolding declaration_within
within_good s zero n = refl
within_good s (suc k) n = either (n == 0) (bare_name (codes "void")) (declaration_of (declaration_within s k) (space_type s n)) refl (of_good (declaration_within s k) (within_good s k) (space_type s n) (type_good s n))

text_good : (r : Result Declaration Fault) → good r ≡ true → good (text_of_declaration r) ≡ true
text_good (Ok d) g = either (nat_le (length (declared d.layers d.name [])) longest_text) (Ok (declared d.layers d.name [])) (Err too_long) refl refl
text_good (Err f) g = g

pub name_good : (s : Space) (n : ℕ) → good (spelled_name s n) ≡ true
name_good s n = text_good (declaration s n) (within_good s longest_text n)

-- ---- look-ups

found_or_not : (n : Option ℕ) → good (or_not_found n) ≡ true
found_or_not None = refl
found_or_not (Some n) = refl

behind_good : (s : Space) (r : Result ℕ Fault) → good r ≡ true → good (pointer_behind s r) ≡ true
behind_good s (Err f) g = g
behind_good s (Ok u) g = found_or_not (if u == 0 then None else least (is_pointer_to u) s)

pointer_or : (s : Space) (t : ℕ) (n : Option ℕ) → good (pointer_or_behind s t n) ≡ true
pointer_or s t (Some n) = refl
pointer_or s t None = behind_good s (resolved_type s t) (resolved_good s t)

pub pointer_good : (s : Space) (t : ℕ) → good (pointer_to s t) ≡ true
pointer_good s t = pointer_or s t (least (is_pointer_to t) s)

pointed_good : (s : Space) (k : ℕ) (r : Result ℕ Fault) → good r ≡ true → good (pointers_on s k r) ≡ true
pointed_good s zero r g = g
pointed_good s (suc k) (Err f) g = g
pointed_good s (suc k) (Ok t) g = pointed_good s k (pointer_to s t) (pointer_good s t)

pub lookup_good : (s : Space) (text : List ℕ) → good (lookup s text) ≡ true
lookup_good s text =
    let first = or_not_found (least (is_called (written_name (base text))) s) in
    either (is_no_name (base text)) (Err (placeless BAD_SYNTAX)) (pointers_on s (stars text) first) refl (pointed_good s (stars text) first (found_or_not (least (is_called (written_name (base text))) s)))

-- ---- pieces of a shown value

abbrev shown_good : Pieces → Bool
shown_good p = good_fault p.fault

goes_good : (text : List ℕ) (fault : Option Fault) (next : Pieces) → good_fault fault ≡ true → shown_good next ≡ true → shown_good (goes_on text fault next) ≡ true
goes_good text None next g h = h
goes_good text (Some f) next g h = g

followed_good : (first next : Pieces) → shown_good first ≡ true → shown_good next ≡ true → shown_good (then_pieces first next) ≡ true
unfolding then_pieces
followed_good first next g h = goes_good first.text first.fault next g h

either_shown : (t : Bool) (a b : Pieces) → shown_good a ≡ true → shown_good b ≡ true → shown_good (if t then a else b) ≡ true
either_shown true a b ga gb = ga
either_shown false a b ga gb = gb

commas_good : {X : Type 0} → (show : X → Pieces) → ((x : X) → shown_good (show x) ≡ true) → (xs : List X) → shown_good (each_behind_comma (map show xs)) ≡ true
commas_good show h [] = refl
commas_good show h (x ∷ xs) = followed_good (piece (codes ", ")) (then_pieces (show x) (each_behind_comma (map show xs))) refl (followed_good (show x) (each_behind_comma (map show xs)) (h x) (commas_good show h xs))

separated_good : {X : Type 0} → (show : X → Pieces) → ((x : X) → shown_good (show x) ≡ true) → (xs : List X) → shown_good (separate (map show xs)) ≡ true
separated_good show h [] = refl
separated_good show h (x ∷ xs) = followed_good (show x) (each_behind_comma (map show xs)) (h x) (commas_good show h xs)

between_good : (first last : List ℕ) (inside : Pieces) → shown_good inside ≡ true → shown_good (between first last inside) ≡ true
between_good first last inside g = followed_good (piece first) (then_pieces inside (piece last)) refl (followed_good inside (piece last) g refl)

number_good : (text : ℕ → List ℕ) (r : Result ℕ Fault) → good r ≡ true → shown_good (by_number text r) ≡ true
number_good text (Ok n) g = refl
number_good text (Err f) g = g

field_good : (memory : List ℕ) (p width : ℕ) → good (bit_field memory p width) ≡ true
field_good memory p width = either (nat_lt (8 * length memory) (p + width)) (Err short_memory) (Ok (bits_at memory p width)) refl refl

raw_good : (memory : List ℕ) (p width : ℕ) → shown_good (raw_shown memory p width) ≡ true
raw_good memory p width = number_good (raw_text width) (bit_field memory p width) (field_good memory p width)

integer_good : (memory : List ℕ) (p : ℕ) (x : EncodingParts) → shown_good (integer_shown memory p x) ≡ true
integer_good memory p x =
    let value = by_number (λ n. signed_decimal (integer_value x.encoding x.bits n)) (bit_field memory (p + x.offset) x.bits) in
    let wide = raw_shown memory (p + x.offset) x.bits in
    either_shown (x.bits == 0) (piece (codes "void")) (if nat_lt 64 x.bits then wide else value) refl
    (either_shown (nat_lt 64 x.bits) wide value (raw_good memory (p + x.offset) x.bits) (number_good _ (bit_field memory (p + x.offset) x.bits) (field_good memory (p + x.offset) x.bits)))

float_good : (memory : List ℕ) (p : ℕ) (x : EncodingParts) → shown_good (float_shown memory p x) ≡ true
float_good memory p x = either_shown (x.bits == 0) (piece (codes "void")) (raw_shown memory (p + x.offset) x.bits) refl (raw_good memory (p + x.offset) x.bits)

enum_good : (memory : List ℕ) (p said : ℕ) (es : List Enumerator) → shown_good (enum_shown memory p said es) ≡ true
enum_good memory p said es =
    either_shown (nat_lt 8 said) (raw_shown memory p (8 * said)) (by_number (λ n. name_of_value es (signed_value (8 * said) n)) (bit_field memory p (8 * said)))
    (raw_good memory p (8 * said)) (number_good _ (bit_field memory p (8 * said)) (field_good memory p (8 * said)))

-- ---- compound values

abbrev AreShown : Shows → Type 0
AreShown show = (n p : ℕ) → shown_good (show n p) ≡ true

label_good : (name : List ℕ) → shown_good (label name) ≡ true
label_good [] = refl
label_good (x ∷ name) = followed_good (piece (x ∷ name)) (piece (codes " = ")) refl refl

member_good : (show : Shows) → AreShown show → (p : ℕ) (m : Member) → shown_good (member_shown show p m) ≡ true
member_good show h p m = followed_good (label m.name) (show m.tnum (p + m.offset)) (label_good m.name) (h m.tnum (p + m.offset))

members_good : (show : Shows) → AreShown show → (p : ℕ) (ms : List Member) → shown_good (members_shown show p ms) ≡ true
members_good show h p ms = between_good (codes "{") (codes "}") (separate (map (member_shown show p) ms)) (separated_good (member_shown show p) (member_good show h p) ms)

each_good : (show : Shows) → AreShown show → (p contents count : ℕ) (r : Result ℕ Fault) → good r ≡ true → shown_good (separate (each_element show p contents count r)) ≡ true
each_good show h p contents count (Ok size) g = separated_good (λ i. show contents (p + 8 * size * i)) (λ i. h contents (p + 8 * size * i)) (range_with_len 0 count)
each_good show h p contents count (Err f) g = followed_good (ends f) no_pieces g refl

elements_good : (show : Shows) → AreShown show → (p contents count : ℕ) (r : Result ℕ Fault) → good r ≡ true → shown_good (elements_shown show p contents count r) ≡ true
elements_good show h p contents count r g = either_shown (count == 0) no_pieces (separate (each_element show p contents count r)) refl (each_good show h p contents count r g)

array_good : (show : Shows) → AreShown show → (p contents count : ℕ) (r : Result ℕ Fault) → good r ≡ true → shown_good (array_shown show p contents count r) ≡ true
array_good show h p contents count r g = between_good (codes "[") (codes "]") (elements_shown show p contents count r) (elements_good show h p contents count r g)

-- ---- any value

body_good : (s : Space) (memory : List ℕ) (show : Shows) → AreShown show → (p : ℕ) (b : Body) → shown_good (body_shown s memory show p b) ≡ true
body_good s memory show h p term.unknown = refl
body_good s memory show h p (term.integer x) = integer_good memory p (encoding_parts x)
body_good s memory show h p (term.float x) = float_good memory p (encoding_parts x)
body_good s memory show h p (term.pointer t) = raw_good memory p (8 * pointer_size s.model)
body_good s memory show h p (term.array a) = array_good show h p a.contents a.count (size s a.contents) (size_good s a.contents)
body_good s memory show h p (term.function r args) = refl
body_good s memory show h p (term.struct said ms) = members_good show h p ms
body_good s memory show h p (term.union said ms) = members_good show h p ms
body_good s memory show h p (term.enum said es) = enum_good memory p (enum_size said) es
body_good s memory show h p (term.forward tag) = refl
body_good s memory show h p (term.typedef t) = h t p
body_good s memory show h p (term.volatile t) = h t p
body_good s memory show h p (term.const t) = h t p
body_good s memory show h p (term.restrict t) = h t p

value_found : (s : Space) (memory : List ℕ) (show : Shows) → AreShown show → (p : ℕ) (r : Result Term Fault) → good r ≡ true → shown_good (found_shown s memory show p r) ≡ true
value_found s memory show h p (Ok x) g = body_good s memory show h p x.body
value_found s memory show h p (Err f) g = g

within_shown : (s : Space) (memory : List ℕ) (k : ℕ) → AreShown (shown_within s memory k)
unfolding shown_within
within_shown s memory zero n p = refl
within_shown s memory (suc k) n p = either_shown (n == 0) (ends incomplete) (found_shown s memory (shown_within s memory k) p (space_type s n)) refl (value_found s memory (shown_within s memory k) (within_shown s memory k) p (space_type s n) (type_good s n))

ended_good : (fault : Option Fault) (text : List ℕ) → good_fault fault ≡ true → good (ended_by fault text) ≡ true
ended_good None text g = refl
ended_good (Some f) text g = g

pub value_good : (s : Space) (memory : List ℕ) (n p : ℕ) → good (value_text s memory n p) ≡ true
value_good s memory n p =
    let value = shown_value s memory n p in
    either (nat_lt longest_text (length value.text)) (Err too_long) (ended_by value.fault value.text) refl (ended_good value.fault value.text (within_shown s memory most_values n p))
