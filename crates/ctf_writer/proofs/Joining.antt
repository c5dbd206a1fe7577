-- Bytes appended one after another.
use Rattle.std.proofs.Common.{◌≡◌, ℕ, ◌+◌, ◌%◌, ◌<◌, ◌≤◌, true, false, ltb, List, [], ◌∷◌, ◌++◌, length, map, take, get_or, refl, ap, sym, ◌∙◌, arith}
use Rattle.std.specs.Prelude.{nat_lt, if◌then◌else◌}
use Rattle.std.specs.List.{flat_map, AllByRecursion}
use Rattle.std.proofs.lemmas.Grind.{flat_map-append}
use Rattle.std.proofs.lemmas.List.Folds.{length-flat_map-take, flat_map-map}
use Rattle.std.proofs.lemmas.Bool.{le-ltb, lt-ltb}
use Rattle.std.proofs.lemmas.List.{append_assoc, append-nil, get_or_default, length-append, length-map, take_more}
use Rattle.ctf_model.specs.format.Term as term
use Rattle.ctf_model.specs.writing.WrittenNames.{name_reference}
use Rattle.ctf_draft.specs.TypeView.{enumerator_of, member_of, number_of}
use Rattle.ctf_draft.specs.declared.types.Enumerator.{Enumerator}
use Rattle.ctf_draft.specs.declared.types.Member.{Member}
use Rattle.ctf_model.specs.declared.numbers.TypeNum.{TypeNum}
use Rattle.ctf_model.specs.format.Dictionary.{Label}
use Rattle.ctf_model.specs.writing.Written.{label_bytes}
use Rattle.ctf_writer.specs.DraftContentView.{no_label, written_argument, written_enumerator, written_member}
use Rattle.ctf_model.specs.writing.WrittenRecords.{u16, u32, halves, member_bytes, record_bytes, field_bytes, field_of, variant_bytes, info_of, argument_bytes, enumerator_bytes}

pub joined_four : (o a b c d o1 o2 o3 o4 : List ℕ) → o1 ≡ o ++ a → o2 ≡ o1 ++ b → o3 ≡ o2 ++ c → o4 ≡ o3 ++ d → o4 ≡ o ++ (a ++ b ++ c ++ d)
joined_four o a b c d o1 o2 o3 o4 p q r s = s ∙ ap (λ (x : List ℕ). x ++ d) (r ∙ ap (λ (x : List ℕ). x ++ c) (q ∙ ap (λ (x : List ℕ). x ++ b) p)) ∙ simp append_assoc

-- a member of a large struct or union
pub wide_member : (names : List (List ℕ)) (size : ℕ) (m : term.Member) → 8192 ≤ size → member_bytes names size m ≡ u32 (name_reference names m.name) ++ u16 m.tnum ++ u16 0 ++ halves m.offset
wide_member names size m le = let wide : ltb size 8192 ≡ false = le-ltb size 8192 le in rw wide refl

module _ {X : Type 0} (f : X → List ℕ) (xs : List X) (i : ℕ) (x : X) (lt : i < length xs) (is : x ≡ get_or xs i x) where
  -- one more item
  pub flat_more : flat_map f (take (i + 1) xs) ≡ flat_map f (take i xs) ++ f x
  flat_more = ap (flat_map f) (take_more xs i x lt) ∙ flat_map-append f (take i xs) (get_or xs i x ∷ []) ∙ ap (λ (y : X). flat_map f (take i xs) ++ (f y ++ [])) (sym is) ∙ ap (λ (b : List ℕ). flat_map f (take i xs) ++ b) (append-nil (f x))

  pub items_more : (o out new : List ℕ) → out ≡ o ++ flat_map f (take i xs) → new ≡ out ++ f x → new ≡ o ++ flat_map f (take (i + 1) xs)
  items_more o out new p q = q ∙ ap (λ (b : List ℕ). b ++ f x) p ∙ append_assoc o (flat_map f (take i xs)) (f x) ∙ ap (λ (b : List ℕ). o ++ b) (sym flat_more)

  pub len_more : length (flat_map f (take (i + 1) xs)) ≡ length (flat_map f (take i xs)) + length (f x)
  len_more = ap length flat_more ∙ length-append (flat_map f (take i xs)) (f x)

  -- there is room for it if there is room for all
  pub room_for : length (flat_map f (take i xs)) + length (f x) ≤ length (flat_map f xs)
  room_for = let all = length-flat_map-take f xs i x lt in let same = ap (λ (y : X). length (f y)) is in omega arith

-- ---- members

module _ (names : List (List ℕ)) (size : ℕ) where
  pub members_joined : (ms : List Member) → flat_map (member_bytes names size) (map member_of ms) ≡ flat_map (written_member names size) ms
  members_joined ms = flat_map-map (member_bytes names size) member_of ms

pub enumerators_joined : (names : List (List ℕ)) (es : List Enumerator) → flat_map (enumerator_bytes names) (map enumerator_of es) ≡ flat_map (written_enumerator names) es
enumerators_joined names es = flat_map-map (enumerator_bytes names) enumerator_of es

pub arguments_joined : (ts : List TypeNum) → flat_map u16 (map number_of ts) ≡ flat_map written_argument ts
arguments_joined ts = flat_map-map u16 number_of ts

-- an odd number of arguments is followed by padding, an even one is not
pub odd_bytes : (ts : List TypeNum) → 0 < length ts % 2 → argument_bytes (map number_of ts) ≡ flat_map written_argument ts ++ u16 0
odd_bytes ts some =
    let odd : ltb 0 (length (map number_of ts) % 2) ≡ true = ap (λ (n : ℕ). ltb 0 (n % 2)) (length-map ts number_of) ∙ lt-ltb 0 (length ts % 2) some in
    rw (odd, arguments_joined ts) refl

pub even_bytes : (ts : List TypeNum) → length ts % 2 ≤ 0 → argument_bytes (map number_of ts) ≡ flat_map written_argument ts
even_bytes ts none =
    let even : ltb 0 (length (map number_of ts) % 2) ≡ false = ap (λ (n : ℕ). ltb 0 (n % 2)) (length-map ts number_of) ∙ le-ltb 0 (length ts % 2) none in
    rw (even, arguments_joined ts) (append-nil (flat_map written_argument ts))

-- the numbers alone are not longer
pub types_short : (ts : List TypeNum) → length (flat_map written_argument ts) ≤ length (argument_bytes (map number_of ts))
types_short ts =
    let all = length-append (flat_map u16 (map number_of ts)) (if nat_lt 0 (length (map number_of ts) % 2) then u16 0 else []) in
    let same = ap length (arguments_joined ts) in
    omega (arith, all, same)

pub all_mapped : {A B : Type 0} (P : B → Type 0) (f : A → B) (xs : List A) → AllByRecursion P (map f xs) → AllByRecursion (λ x. P (f x)) xs
all_mapped P f [] h = tt
all_mapped P f (x ∷ xs) h = (h.0, all_mapped P f xs h.1)

-- ---- a record

-- the parts of a record and their lengths
pub record_len : (names : List (List ℕ)) (x : term.Term) → length (record_bytes names x) ≡ 4 + (2 + (length (field_bytes (field_of x.body)) + length (variant_bytes names x.body)))
unfolding record_bytes
record_len names x = let l = length-append (field_bytes (field_of x.body)) (variant_bytes names x.body) in omega arith

pub record_joined : (names : List (List ℕ)) (x : term.Term) (o o1 o2 o3 o4 : List ℕ) → o1 ≡ o ++ u32 (name_reference names x.name) → o2 ≡ o1 ++ u16 (info_of x) → o3 ≡ o2 ++ field_bytes (field_of x.body) → o4 ≡ o3 ++ variant_bytes names x.body → o4 ≡ o ++ record_bytes names x
unfolding record_bytes
record_joined names x o o1 o2 o3 o4 p q r s =
    joined_four o (u32 (name_reference names x.name)) (u16 (info_of x)) (field_bytes (field_of x.body)) (variant_bytes names x.body) o1 o2 o3 o4 p q r s
    ∙ ap (λ (b : List ℕ). o ++ b) (append_assoc (u32 (name_reference names x.name) ++ u16 (info_of x)) (field_bytes (field_of x.body)) (variant_bytes names x.body))

-- ---- labels

-- there is room for one more
pub labels_room : (names : List (List ℕ)) (labels : List Label) (i : ℕ) → i < length labels → length (flat_map (label_bytes names) (take i labels)) + 8 ≤ length (flat_map (label_bytes names) labels)
labels_room names labels i lt = room_for (label_bytes names) labels i (get_or labels i no_label) lt (get_or_default labels i no_label (get_or labels i no_label) lt)
