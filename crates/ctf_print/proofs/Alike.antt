-- Beyond the memory all offsets behave alike.
use Rattle.std.proofs.Common.{◌≡◌, ℕ, zero, suc, ◌+◌, ◌*◌, ◌<◌, ◌≤◌, min, eqb, ltb, true, false, Bool, cond, List, [], ◌∷◌, length, map, Result, Ok, Err, refl, ap, arith}
use Rattle.std.specs.List.{range_with_len}
use Rattle.std.proofs.lemmas.Bool.{lt-ltb, eqb-false, ltb-true, ltb-false}
use Rattle.ctf_model.specs.figures.Figures.{enum_size, incomplete, size}
use Rattle.ctf_model.specs.values.MemoryBits.{bit_field, short_memory, signed_value}
use Rattle.ctf_model.specs.values.Pieces.{Pieces, ends, then_pieces}
use Rattle.ctf_model.specs.dumps.Texts.{signed_decimal}
use Rattle.ctf_model.specs.format.Shown.{EncodingParts, encoding_parts}
use Rattle.ctf_model.specs.spaces.Space.{Space, pointer_size, space_type}
use Rattle.ctf_model.specs.format.Term.{Body, Enumerator, Member, Term}
use Rattle.ctf_model.specs.format.Term as term
use Rattle.ctf_model.specs.values.Values.{Shows, body_shown, by_number, by_rule, each_element, enum_shown, float_shown, found_shown, integer_shown, integer_value, label, member_shown, name_of_value, raw_shown, raw_text, shown_within}
use Rattle.ctf_model.specs.declared.data_model.DataModel.{DataModel}
use Rattle.ctf_model.specs.declared.data_model.DataModel.TheVariants.{Lp64, Ilp32}
use Rattle.ctf_model.specs.declared.faults.Fault.{Fault}

map_same : {A : Type 0} (f g : A → Pieces) (xs : List A) → ((x : A) → f x ≡ g x) → map f xs ≡ map g xs
map_same f g [] same = refl
map_same f g (x ∷ xs) same = rw (same x, map_same f g xs same) refl

-- ---- numbers

-- beyond the memory no bit exists
none_there : (memory : List ℕ) (p width : ℕ) → 8 * length memory ≤ p → 0 < width → bit_field memory p width ≡ Err short_memory
none_there memory p width h some =
    let test : ltb (8 * length memory) (p + width) ≡ true = lt-ltb (8 * length memory) (p + width) (omega arith) in
    rw test refl

number_alike : (text : ℕ → List ℕ) (memory : List ℕ) (p q width : ℕ) → 0 < width → 8 * length memory ≤ p → 8 * length memory ≤ q → by_number text (bit_field memory p width) ≡ by_number text (bit_field memory q width)
number_alike text memory p q width some hp hq =
    let one = none_there memory p width hp some in
    let other = none_there memory q width hq some in
    rw (one, other) refl

raw_alike : (memory : List ℕ) (p q width : ℕ) → 0 < width → 8 * length memory ≤ p → 8 * length memory ≤ q → raw_shown memory p width ≡ raw_shown memory q width
raw_alike memory p q width some hp hq = number_alike (raw_text width) memory p q width some hp hq

pub integer_alike : (memory : List ℕ) (p q : ℕ) (x : EncodingParts) → 8 * length memory ≤ p + x.offset → 8 * length memory ≤ q + x.offset → integer_shown memory p x ≡ integer_shown memory q x
integer_alike memory p q x hp hq = at (eqb x.bits 0) refl
  where
    text : ℕ → List ℕ
    text n = signed_decimal (integer_value x.encoding x.bits n)

    wide : (0 < x.bits) → (t : Bool) → cond t (raw_shown memory (p + x.offset) x.bits) (by_number (λ n. signed_decimal (integer_value x.encoding x.bits n)) (bit_field memory (p + x.offset) x.bits)) ≡ cond t (raw_shown memory (q + x.offset) x.bits) (by_number (λ n. signed_decimal (integer_value x.encoding x.bits n)) (bit_field memory (q + x.offset) x.bits))
    wide some true = raw_alike memory (p + x.offset) (q + x.offset) x.bits some hp hq
    wide some false = number_alike (λ n. signed_decimal (integer_value x.encoding x.bits n)) memory (p + x.offset) (q + x.offset) x.bits some hp hq

    at : (t : Bool) → eqb x.bits 0 ≡ t → integer_shown memory p x ≡ integer_shown memory q x
    at true e = rw e refl
    at false e = let none = eqb-false x.bits 0 e in rw e (wide (omega (arith, none)) (ltb 64 x.bits))

pub float_alike : (memory : List ℕ) (p q : ℕ) (x : EncodingParts) → 8 * length memory ≤ p + x.offset → 8 * length memory ≤ q + x.offset → float_shown memory p x ≡ float_shown memory q x
float_alike memory p q x hp hq = at (eqb x.bits 0) refl
  where
    at : (t : Bool) → eqb x.bits 0 ≡ t → float_shown memory p x ≡ float_shown memory q x
    at true e = rw e refl
    at false e = let none = eqb-false x.bits 0 e in rw e (raw_alike memory (p + x.offset) (q + x.offset) x.bits (omega (arith, none)) hp hq)

some_size : (said : ℕ) → 0 < enum_size said
some_size said = at (ltb 0 said) refl
  where
    at : (t : Bool) → ltb 0 said ≡ t → 0 < cond t said 4
    at true e = ltb-true 0 said e
    at false e = omega arith

enum_alike : (memory : List ℕ) (p q size : ℕ) (es : List Enumerator) → 0 < size → 8 * length memory ≤ p → 8 * length memory ≤ q → enum_shown memory p size es ≡ enum_shown memory q size es
enum_alike memory p q size es some hp hq = at (ltb 8 size)
  where
    at : (t : Bool) → cond t (raw_shown memory p (8 * size)) (by_number (λ n. name_of_value es (signed_value (8 * size) n)) (bit_field memory p (8 * size))) ≡ cond t (raw_shown memory q (8 * size)) (by_number (λ n. name_of_value es (signed_value (8 * size) n)) (bit_field memory q (8 * size)))
    at true = raw_alike memory p q (8 * size) (omega arith) hp hq
    at false = number_alike (λ n. name_of_value es (signed_value (8 * size) n)) memory p q (8 * size) (omega arith) hp hq

pointer_alike : (model : DataModel) (memory : List ℕ) (p q : ℕ) → 8 * length memory ≤ p → 8 * length memory ≤ q → raw_shown memory p (8 * pointer_size model) ≡ raw_shown memory q (8 * pointer_size model)
pointer_alike Lp64 memory p q hp hq = raw_alike memory p q 64 (omega arith) hp hq
pointer_alike Ilp32 memory p q hp hq = raw_alike memory p q 32 (omega arith) hp hq

-- ---- values

-- formatting is the same at all offsets beyond the memory
abbrev Alike : List ℕ → Shows → Type 0
Alike memory show = (n p q : ℕ) → 8 * length memory ≤ p → 8 * length memory ≤ q → show n p ≡ show n q

elements_alike : (memory : List ℕ) (show : Shows) → Alike memory show → (p q contents count : ℕ) (size : Result ℕ Fault) → 8 * length memory ≤ p → 8 * length memory ≤ q → each_element show p contents count size ≡ each_element show q contents count size
elements_alike memory show same p q contents count (Err f) hp hq = refl
elements_alike memory show same p q contents count (Ok size) hp hq =
    map_same (λ i. show contents (p + 8 * size * i)) (λ i. show contents (q + 8 * size * i)) (range_with_len 0 count) (λ i. same contents (p + 8 * size * i) (q + 8 * size * i) (omega arith) (omega arith))

members_alike : (memory : List ℕ) (show : Shows) → Alike memory show → (p q : ℕ) (ms : List Member) → 8 * length memory ≤ p → 8 * length memory ≤ q → map (member_shown show p) ms ≡ map (member_shown show q) ms
members_alike memory show same p q ms hp hq = map_same (member_shown show p) (member_shown show q) ms (λ m. ap (then_pieces (label m.name)) (same m.tnum (p + m.offset) (q + m.offset) (omega arith) (omega arith)))

body_alike : (s : Space) (memory : List ℕ) (show : Shows) → Alike memory show → (p q : ℕ) (body : Body) → 8 * length memory ≤ p → 8 * length memory ≤ q → body_shown s memory show p body ≡ body_shown s memory show q body
body_alike s memory show same p q (term.integer x) hp hq = integer_alike memory p q (encoding_parts x) (omega arith) (omega arith)
body_alike s memory show same p q (term.float x) hp hq = float_alike memory p q (encoding_parts x) (omega arith) (omega arith)
body_alike s memory show same p q (term.pointer t) hp hq = pointer_alike s.model memory p q hp hq
body_alike s memory show same p q (term.enum said es) hp hq = enum_alike memory p q (enum_size said) es (some_size said) hp hq
body_alike s memory show same p q (term.struct said ms) hp hq = rw (members_alike memory show same p q ms hp hq) refl
body_alike s memory show same p q (term.union said ms) hp hq = rw (members_alike memory show same p q ms hp hq) refl
body_alike s memory show same p q (term.array a) hp hq = rw (elements_alike memory show same p q a.contents a.count (size s a.contents) hp hq) refl
body_alike s memory show same p q (term.typedef t) hp hq = same t p q hp hq
body_alike s memory show same p q (term.volatile t) hp hq = same t p q hp hq
body_alike s memory show same p q (term.const t) hp hq = same t p q hp hq
body_alike s memory show same p q (term.restrict t) hp hq = same t p q hp hq
body_alike s memory show same p q (term.function returned ts) hp hq = refl
body_alike s memory show same p q (term.forward t) hp hq = refl
body_alike s memory show same p q term.unknown hp hq = refl

rule_alike : (s : Space) (memory : List ℕ) (show : Shows) → Alike memory show → (n p q : ℕ) → 8 * length memory ≤ p → 8 * length memory ≤ q → by_rule s memory show n p ≡ by_rule s memory show n q
rule_alike s memory show same n p q hp hq = ap (λ (x : Pieces). cond (eqb n 0) (ends incomplete) x) (at (space_type s n))
  where
    at : (r : Result Term Fault) → found_shown s memory show p r ≡ found_shown s memory show q r
    at (Ok x) = body_alike s memory show same p q x.body hp hq
    at (Err f) = refl

alike : (s : Space) (memory : List ℕ) (k : ℕ) → Alike memory (shown_within s memory k)
unfolding shown_within
alike s memory zero n p q hp hq = refl
alike s memory (suc k) n p q hp hq = rule_alike s memory (shown_within s memory k) (alike s memory k) n p q hp hq

-- an offset that is capped at a number beyond the memory
pub counted : (s : Space) (memory : List ℕ) (k n p most place : ℕ) → 8 * length memory ≤ most → place ≡ min p most → shown_within s memory k n place ≡ shown_within s memory k n p
counted s memory k n p most place h e = by_order (ltb most p) refl
  where
    by_order : (t : Bool) → ltb most p ≡ t → shown_within s memory k n place ≡ shown_within s memory k n p
    by_order true test = let above = ltb-true most p test in alike s memory k n place p (omega arith) (omega arith)
    by_order false test = let below = ltb-false most p test in let same : place ≡ p = omega arith in rw same refl
