-- A written record spells its type.
use Rattle.std.proofs.Common.{◌≡◌, ℕ, ◌+◌, ◌*◌, ◌/◌, ◌%◌, ◌^◌, ◌<◌, ◌≤◌, Bool, true, false, eqb, ltb, List, [], ◌∷◌, ◌++◌, length, map, Some, refl, sym, ap, ◌∙◌, arith}
use Rattle.std.specs.Prelude.{slice_get}
use Rattle.std.specs.List.{flat_map, AllByRecursion}
use Rattle.std.proofs.lemmas.Bool.{ltb-true, ltb-false}
use Rattle.std.proofs.lemmas.List.{length-append, append-nil}
use Rattle.ctf_model.specs.declared.kinds.Kind.{Kind}
use Rattle.ctf_model.specs.format.Bytes.{number, u32_at}
use Rattle.ctf_model.specs.format.Name.{name}
use Rattle.ctf_model.specs.format.Record.{IsWhole, kinds, kind, size, vlen, field, is_root, head_len, behind_head, variant_len, member_len}
use Rattle.ctf_model.specs.rules.References.{has_long_tag, references}
use Rattle.ctf_model.specs.format.Shown.{kind_of}
use Rattle.ctf_model.specs.format.SpelledTypes.{HasStrayMark, Spells, is_short_kind}
use Rattle.ctf_model.proofs.SpelledRead.{spells_of}
use Rattle.ctf_model.specs.format.Spelling.{term_of, body_of, scalar, elements, items, member_of, enumerator_of, argument_of, tag}
use Rattle.ctf_model.specs.format.Term.{Scalar, Elements, Member, Enumerator, Tag, Body, Term}
use Rattle.ctf_model.specs.format.Term as term
use Rattle.ctf_model.specs.drafts.Fitting.{Fits, FitsBody, FitsScalar, FitsElements, FitsMember, FitsEnumerator}
use Rattle.ctf_model.specs.writing.WritingLaws.{IsFound, NamesShort, table_of}
use Rattle.ctf_model.specs.writing.WrittenNames.{name_reference, listed_names, names_of}
use Rattle.ctf_model.specs.writing.WrittenRecords.{u16, u32, number_of_kind, list_len, root_bit, info_of, tag_number, field_of, scalar_bytes, element_bytes, argument_bytes, member_bytes, enumerator_bytes, variant_bytes, record_bytes}
use Rattle.ctf_model.proofs.WrittenHeads.{HasHead, head_read, number_u16, number_u32}
use Rattle.ctf_model.proofs.WrittenItems.{IsItem, items_read, items_len, argument_read, enumerator_read, member_read}

-- ---- kinds

-- properties of a body that fits, whatever its kind
record HasParts (x : Body) : Type 0 where
  kind : slice_get kinds (number_of_kind (kind_of x)) ≡ Some (kind_of x)
  code : number_of_kind (kind_of x) ≤ 13
  len : list_len x ≤ 1023
  field : field_of x < 2 ^ 64

tag_low : (tag : Tag) → tag_number tag < 65535
tag_low term.struct_tag = omega arith
tag_low term.union_tag = omega arith
tag_low term.enum_tag = omega arith

parts : (x : Body) → FitsBody x → AllByRecursion (λ n. n < 0xffff) (references x) → HasParts x
parts term.unknown h low = record { kind = refl; code = omega arith; len = omega arith; field = omega arith }
parts (term.integer s) h low = record { kind = refl; code = omega arith; len = omega arith; field = h.size }
parts (term.float s) h low = record { kind = refl; code = omega arith; len = omega arith; field = h.size }
parts (term.pointer t) h low = let under = low.0 in record { kind = refl; code = omega arith; len = omega arith; field = omega arith }
parts (term.array e) h low = record { kind = refl; code = omega arith; len = omega arith; field = omega arith }
parts (term.function ret args) h low = let under = low.0 in record { kind = refl; code = omega arith; len = h; field = omega arith }
parts (term.struct size members) h low = record { kind = refl; code = omega arith; len = h.count; field = h.fits }
parts (term.union size members) h low = record { kind = refl; code = omega arith; len = h.count; field = h.fits }
parts (term.enum size enumerators) h low = record { kind = refl; code = omega arith; len = h.count; field = h.fits }
parts (term.forward tag) h low = let under = tag_low tag in record { kind = refl; code = omega arith; len = omega arith; field = omega arith }
parts (term.typedef t) h low = let under = low.0 in record { kind = refl; code = omega arith; len = omega arith; field = omega arith }
parts (term.volatile t) h low = let under = low.0 in record { kind = refl; code = omega arith; len = omega arith; field = omega arith }
parts (term.const t) h low = let under = low.0 in record { kind = refl; code = omega arith; len = omega arith; field = omega arith }
parts (term.restrict t) h low = let under = low.0 in record { kind = refl; code = omega arith; len = omega arith; field = omega arith }

-- ---- what follows the head

scalar_read : (b : List ℕ) (s : Scalar) → size b ≡ s.size → behind_head b ≡ scalar_bytes s → FitsScalar s → scalar b ≡ s
scalar_read b s same behind fits =
    let encoding = fits.encoding in
    let offset = fits.offset in
    let bits = fits.bits in
    let all = s.encoding * 2 ^ 24 + s.offset * 2 ^ 16 + s.bits in
    let word : number (u32 (s.encoding * 2 ^ 24 + s.offset * 2 ^ 16 + s.bits)) ≡ s.encoding * 2 ^ 24 + s.offset * 2 ^ 16 + s.bits = number_u32 all (omega arith) in
    let first : (s.encoding * 2 ^ 24 + s.offset * 2 ^ 16 + s.bits) / 2 ^ 24 ≡ s.encoding = omega arith in
    let second : (s.encoding * 2 ^ 24 + s.offset * 2 ^ 16 + s.bits) / 2 ^ 16 % 256 ≡ s.offset = omega arith in
    let third : (s.encoding * 2 ^ 24 + s.offset * 2 ^ 16 + s.bits) % 2 ^ 16 ≡ s.bits = omega arith in
    rw (same, behind, word, first, second, third) refl

elements_read : (b : List ℕ) (e : Elements) → size b ≡ 0 → behind_head b ≡ element_bytes e → FitsElements e → e.contents < 0xffff → e.index < 0xffff → elements b ≡ e
elements_read b e same behind fits low_c low_i =
    let contents : number (u16 e.contents) ≡ e.contents = number_u16 e.contents (omega arith) in
    let index : number (u16 e.index) ≡ e.index = number_u16 e.index (omega arith) in
    let count : number (u32 e.count) ≡ e.count = number_u32 e.count fits.count in
    let none : 0 ≡ e.size = sym fits.size in
    rw (same ∙ none, behind, contents, index, count) refl

each_argument : (args : List ℕ) → AllByRecursion (λ t. t < 0xffff) args → AllByRecursion (λ t. IsItem argument_of 2 (u16 t) t) args
each_argument [] h = tt
each_argument (t ∷ args) h = let low = h.0 in (argument_read t (omega arith), each_argument args h.1)

each_member : (names : List (List ℕ)) (size : ℕ) (ms : List Member) → AllByRecursion (FitsMember size) ms → AllByRecursion (λ n. n < 0xffff) (map (λ m. m.tnum) ms) → AllByRecursion (IsFound names) (map (λ m. m.name) ms)
    → AllByRecursion (λ m. IsItem (member_of size (table_of names)) (member_len size) (member_bytes names size m) m) ms
each_member names size [] h low f = tt
each_member names size (m ∷ ms) h low f = (member_read names size m h.0 low.0 f.0, each_member names size ms h.1 low.1 f.1)

each_enumerator : (names : List (List ℕ)) (es : List Enumerator) → AllByRecursion FitsEnumerator es → AllByRecursion (IsFound names) (map (λ e. e.name) es)
    → AllByRecursion (λ e. IsItem (enumerator_of (table_of names)) 8 (enumerator_bytes names e) e) es
each_enumerator names [] h f = tt
each_enumerator names (e ∷ es) h f = (enumerator_read names e h.0 f.0, each_enumerator names es h.1 f.1)

-- the bytes after the head are those of the body, as many as its kind requires
record IsBody (names : List (List ℕ)) (b : List ℕ) (x : Body) : Type 0 where
  says : body_of (table_of names) b (kind_of x) ≡ Some x
  len : length (variant_bytes names x) ≡ variant_len (kind_of x) (field_of x) (list_len x)
  short : has_long_tag b ≡ false

tag_read : (x : Tag) → tag (tag_number x) ≡ x
tag_read term.struct_tag = refl
tag_read term.union_tag = refl
tag_read term.enum_tag = refl

-- a type stated in the field alone
named : (names : List (List ℕ)) (b v : List ℕ) (r i t : ℕ) → HasHead b v r i t → t < 65535 → field b ≡ t
named names b v r i t head low = head.short low

-- arguments with their padding take the required number of bytes
arguments_len : (args : List ℕ) → AllByRecursion (λ t. t < 0xffff) args → length (argument_bytes args) ≡ 2 * (length args + length args % 2)
arguments_len args h = at (ltb 0 (length args % 2)) refl
  where
    flat : length (flat_map u16 args) ≡ 2 * length args
    flat = items_len argument_of u16 2 args (each_argument args h)

    at : (t : Bool) → ltb 0 (length args % 2) ≡ t → length (argument_bytes args) ≡ 2 * (length args + length args % 2)
    at true e = let all = flat in let some = ltb-true 0 (length args % 2) e in rw e (omega (arith, length-append (flat_map u16 args) (u16 0)))
    at false e = let all = flat in let none = ltb-false 0 (length args % 2) e in rw e (ap length (append-nil (flat_map u16 args)) ∙ omega arith)

members_of : (names : List (List ℕ)) (b : List ℕ) (n : ℕ) (ms : List Member) → behind_head b ≡ flat_map (member_bytes names n) ms → vlen b ≡ length ms
    → AllByRecursion (λ m. IsItem (member_of n (table_of names)) (member_len n) (member_bytes names n m) m) ms → items (member_of n (table_of names)) (member_len n) (vlen b) (behind_head b) ≡ Some ms
members_of names b n ms behind len each =
    let padded : behind_head b ≡ flat_map (member_bytes names n) ms ++ [] = behind ∙ sym (append-nil _) in
    rw (padded, len) (items_read (member_of n (table_of names)) (member_bytes names n) (member_len n) ms [] each)

body_read : (names : List (List ℕ)) (b : List ℕ) (r i : ℕ) (x : Body) → HasHead b (variant_bytes names x) r i (field_of x) → kind b ≡ Some (kind_of x) → vlen b ≡ list_len x → FitsBody x → AllByRecursion (λ n. n < 0xffff) (references x) → AllByRecursion (IsFound names) (listed_names x) → IsBody names b x
body_read names b r i term.unknown head k len fits low found = record { says = refl; len = refl; short = rw k refl }
body_read names b r i (term.integer s) head k len fits low found = record { says = ap (λ (s : Scalar). Some (term.integer s)) (scalar_read b s head.size head.behind fits); len = refl; short = rw k refl }
body_read names b r i (term.float s) head k len fits low found = record { says = ap (λ (s : Scalar). Some (term.float s)) (scalar_read b s head.size head.behind fits); len = refl; short = rw k refl }
body_read names b r i (term.pointer t) head k len fits low found = record { says = ap (λ (t : ℕ). Some (term.pointer t)) (head.short low.0); len = refl; short = rw k refl }
body_read names b r i (term.array e) head k len fits low found = record { says = ap (λ (e : Elements). Some (term.array e)) (elements_read b e head.size head.behind fits low.0 low.1.0); len = refl; short = rw k refl }
body_read names b r i (term.function ret args) head k len fits low found =
    let all : items argument_of 2 (vlen b) (behind_head b) ≡ Some args = rw (head.behind, len) (items_read argument_of u16 2 args _ (each_argument args low.1)) in
    record { says = rw (all, head.short low.0) refl; len = arguments_len args low.1; short = rw k refl }
body_read names b r i (term.struct n ms) head k len fits low found =
    let each = each_member names n ms fits.each low found in
    record { says = rw (head.size, members_of names b n ms head.behind len each) refl; len = items_len (member_of n (table_of names)) (member_bytes names n) (member_len n) ms each; short = rw k refl }
body_read names b r i (term.union n ms) head k len fits low found =
    let each = each_member names n ms fits.each low found in
    record { says = rw (head.size, members_of names b n ms head.behind len each) refl; len = items_len (member_of n (table_of names)) (member_bytes names n) (member_len n) ms each; short = rw k refl }
body_read names b r i (term.enum n es) head k len fits low found =
    let each = each_enumerator names es fits.each found in
    let behind : behind_head b ≡ flat_map (enumerator_bytes names) es ++ [] = head.behind ∙ sym (append-nil _) in
    let all : items (enumerator_of (table_of names)) 8 (vlen b) (behind_head b) ≡ Some es = rw (behind, len) (items_read (enumerator_of (table_of names)) (enumerator_bytes names) 8 es [] each) in
    record { says = rw (all, head.size) refl; len = items_len (enumerator_of (table_of names)) (enumerator_bytes names) 8 es each; short = rw k refl }
body_read names b r i (term.forward x) head k len fits low found =
    let below = tag_low x in
    record { says = ap (λ (f : ℕ). Some (term.forward (tag f))) (head.short below) ∙ ap (λ (x : Tag). Some (term.forward x)) (tag_read x); len = refl; short = rw (k, head.long below) refl }
body_read names b r i (term.typedef t) head k len fits low found = record { says = ap (λ (t : ℕ). Some (term.typedef t)) (head.short low.0); len = refl; short = rw k refl }
body_read names b r i (term.volatile t) head k len fits low found = record { says = ap (λ (t : ℕ). Some (term.volatile t)) (head.short low.0); len = refl; short = rw k refl }
body_read names b r i (term.const t) head k len fits low found = record { says = ap (λ (t : ℕ). Some (term.const t)) (head.short low.0); len = refl; short = rw k refl }
body_read names b r i (term.restrict t) head k len fits low found = record { says = ap (λ (t : ℕ). Some (term.restrict t)) (head.short low.0); len = refl; short = rw k refl }

-- for kinds that have only the short form, the field is not the mark of the long form
short_low : (x : Body) → AllByRecursion (λ n. n < 0xffff) (references x) → is_short_kind (kind_of x) ≡ true → field_of x < 65535
short_low term.unknown low short = absurd cc
short_low (term.integer s) low short = absurd cc
short_low (term.float s) low short = absurd cc
short_low (term.pointer t) low short = low.0
short_low (term.array e) low short = absurd cc
short_low (term.function ret args) low short = low.0
short_low (term.struct n ms) low short = absurd cc
short_low (term.union n ms) low short = absurd cc
short_low (term.enum n es) low short = absurd cc
short_low (term.forward x) low short = tag_low x
short_low (term.typedef t) low short = low.0
short_low (term.volatile t) low short = low.0
short_low (term.const t) low short = low.0
short_low (term.restrict t) low short = low.0

no_stray_mark : (b : List ℕ) (k : Kind) → kind b ≡ Some k → (is_short_kind k ≡ true → ¬ field b ≡ 0xffff) → ¬ HasStrayMark b
no_stray_mark b k known short stray =
    let same : stray.of ≡ k = some_same (sym stray.known ∙ known) in
    short (ap is_short_kind (sym same) ∙ stray.short) stray.mark
  where
    some_same : {x y : Kind} → Some x ≡ Some y → x ≡ y
    some_same e = cc

pub record IsRecorded (names : List (List ℕ)) (b : List ℕ) (x : Term) : Type 0 where
  pub spells : Spells (table_of names) b x
  pub short : has_long_tag b ≡ false

root_read : (root : Bool) → eqb (root_bit root) 1 ≡ root
root_read true = refl
root_read false = refl

root_low : (root : Bool) → root_bit root ≤ 1
root_low true = omega arith
root_low false = omega arith

-- bytes with the head and variant of a type are a whole record that spells it
recorded_at : (names : List (List ℕ)) (b : List ℕ) (x : Term) → Fits x → NamesShort x → AllByRecursion (IsFound names) (names_of x) → HasHead b (variant_bytes names x.body) (name_reference names x.name) (info_of x) (field_of x.body) → IsRecorded names b x
unfolding IsWhole term_of
recorded_at names b x fits short found head =
    let p = parts x.body fits.body short in
    let root = root_low x.root in
    let code_is : info_of x / 2 ^ 11 ≡ number_of_kind (kind_of x.body) = omega arith in
    let len_is : info_of x % 1024 ≡ list_len x.body = omega arith in
    let root_is : info_of x / 1024 % 2 ≡ root_bit x.root = omega arith in
    let k : kind b ≡ Some (kind_of x.body) = ap (λ (i : ℕ). slice_get kinds (i / 2 ^ 11)) head.info ∙ ap (slice_get kinds) code_is ∙ p.kind in
    let len : vlen b ≡ list_len x.body = ap (λ (i : ℕ). i % 1024) head.info ∙ len_is in
    let is_root : is_root b ≡ x.root = ap (λ (i : ℕ). eqb (i / 1024 % 2) 1) head.info ∙ ap (λ (i : ℕ). eqb i 1) root_is ∙ root_read x.root in
    let text : name (table_of names) (u32_at b 0) ≡ Some x.name = ap (name (table_of names)) head.name ∙ found.0.found in
    let body = body_read names b (name_reference names x.name) (info_of x) x.body head k len fits.body short found.1 in
    let unmarked : is_short_kind (kind_of x.body) ≡ true → ¬ field b ≡ 0xffff = λ s marked. let under = short_low x.body short s in let same = head.short under in omega arith in
    let ends : length b ≡ head_len b + variant_len (kind_of x.body) (size b) (vlen b) = rw (head.size, len) (head.len ∙ ap (λ (n : ℕ). head_len b + n) body.len) in
    record {
      spells = spells_of (table_of names) b x (rw k (record { has_head = head.has_head; ends = ends })) (no_stray_mark b (kind_of x.body) k unmarked) (rw (k, text, body.says, is_root) refl);
      short = body.short;
    }

pub recorded : (names : List (List ℕ)) (x : Term) → Fits x → NamesShort x → AllByRecursion (IsFound names) (names_of x) → IsRecorded names (record_bytes names x) x
unfolding record_bytes
recorded names x fits short found =
    let p = parts x.body fits.body short in
    let root = root_low x.root in
    let low = found.0.low in
    recorded_at names (record_bytes names x) x fits short found (head_read (name_reference names x.name) (info_of x) (field_of x.body) (variant_bytes names x.body) (omega arith) (omega arith) p.field)
