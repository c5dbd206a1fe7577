-- Lengths of written parts.
use Rattle.std.proofs.Common.{◌≡◌, ℕ, suc, mul-suc, ◌+◌, ◌*◌, ◌%◌, ◌<◌, ◌≤◌, Bool, true, false, ltb, cond, List, [], ◌∷◌, ◌++◌, length, map, take, get_or, refl, ap, ◌∙◌, arith}
use Rattle.std.specs.List.{flat_map}
use Rattle.std.proofs.lemmas.Bool.{ltb-true, ltb-false}
use Rattle.std.proofs.lemmas.List.{append-nil, length-append}
use Rattle.std.proofs.lemmas.List.Folds.{length-flat_map-take}
use Rattle.ctf_model.specs.format.Record.{member_len}
use Rattle.ctf_model.specs.format.Term as term
use Rattle.ctf_draft.specs.TypeView.{aggregate_body, member_of, reference_body, scalar_body}
use Rattle.ctf_draft.specs.declared.types.Member.{Member}
use Rattle.ctf_writer.specs.DraftContentView.{written_member}
use Rattle.ctf_writer.proofs.Joining.{members_joined}
use Rattle.ctf_draft.specs.declared.types.AggregateKind.{AggregateKind}
use Rattle.ctf_draft.specs.declared.types.AggregateKind.TheVariants.{Struct, Union}
use Rattle.ctf_draft.specs.declared.types.ReferenceKind.{ReferenceKind}
use Rattle.ctf_draft.specs.declared.types.ReferenceKind.TheVariants.{Pointer, Typedef, Volatile, Const, Restrict}
use Rattle.ctf_draft.specs.declared.types.ScalarKind.{ScalarKind}
use Rattle.ctf_draft.specs.declared.types.ScalarKind.TheVariants.{Integer, Float}
use Rattle.ctf_model.specs.format.Dictionary.{Dictionary, Label}
use Rattle.ctf_model.specs.drafts.Fitting.{FitsBody, FitsMembers}
use Rattle.ctf_model.specs.writing.WrittenNames.{listed_names, name_reference, strings_of, string_bytes}
use Rattle.ctf_model.specs.writing.Written.{bytes_of, label_bytes, labels_written, records_written}
use Rattle.ctf_model.specs.writing.WrittenRecords.{argument_bytes, enumerator_bytes, field_of, halves, list_len, member_bytes, scalar_bytes, u16, u32, variant_bytes}

one_member : (names : List (List ℕ)) (size : ℕ) (m : term.Member) → length (member_bytes names size m) ≡ member_len size
one_member names size m = at (ltb size 8192)
  where
    at : (b : Bool) → length (cond b (u32 (name_reference names m.name) ++ u16 m.tnum ++ u16 m.offset) (u32 (name_reference names m.name) ++ u16 m.tnum ++ u16 0 ++ halves m.offset)) ≡ cond b 8 16
    at true = refl
    at false = refl

more_by : (a n : ℕ) → a * suc n ≡ a + a * n
more_by a n = let e = mul-suc a n in omega (arith, e)

-- all members have one length
pub members_len : (names : List (List ℕ)) (size : ℕ) (ms : List term.Member) → length (flat_map (member_bytes names size) ms) ≡ member_len size * length ms
members_len names size [] = omega arith
members_len names size (m ∷ ms) =
    let front = length-append (member_bytes names size m) (flat_map (member_bytes names size) ms) in
    let one = one_member names size m in
    let more = members_len names size ms in
    let step : member_len size * length (m ∷ ms) ≡ member_len size + member_len size * length ms = more_by (member_len size) (length ms) in
    omega (arith, front, one, more, step)

-- so have enumerators, labels and arguments
pub enumerators_len : (names : List (List ℕ)) (es : List term.Enumerator) → length (flat_map (enumerator_bytes names) es) ≡ 8 * length es
enumerators_len names [] = refl
enumerators_len names (e ∷ es) = let more = enumerators_len names es in omega arith

pub labels_len : (names : List (List ℕ)) (labels : List Label) → length (flat_map (label_bytes names) labels) ≡ 8 * length labels
labels_len names [] = refl
labels_len names (label ∷ labels) = let more = labels_len names labels in omega arith

types_len : (ts : List ℕ) → length (flat_map u16 ts) ≡ 2 * length ts
types_len [] = refl
types_len (t ∷ ts) = let more = types_len ts in omega arith

pub arguments_len : (ts : List ℕ) → length (argument_bytes ts) ≡ 2 * (length ts + length ts % 2)
arguments_len ts = at (ltb 0 (length ts % 2)) refl
  where
    at : (t : Bool) → ltb 0 (length ts % 2) ≡ t → length (argument_bytes ts) ≡ 2 * (length ts + length ts % 2)
    at true e = let all = types_len ts in let some = ltb-true 0 (length ts % 2) e in rw e (omega (arith, length-append (flat_map u16 ts) (u16 0)))
    at false e = let all = types_len ts in let none = ltb-false 0 (length ts % 2) e in rw e (ap length (append-nil (flat_map u16 ts)) ∙ omega arith)

-- ---- by kinds

pub variant_scalar : (names : List (List ℕ)) (kind : ScalarKind) (s : term.Scalar) → variant_bytes names (scalar_body kind s) ≡ scalar_bytes s
variant_scalar names Integer s = refl
variant_scalar names Float s = refl

pub variant_reference : (names : List (List ℕ)) (kind : ReferenceKind) (t : ℕ) → variant_bytes names (reference_body kind t) ≡ []
variant_reference names Pointer t = refl
variant_reference names Typedef t = refl
variant_reference names Volatile t = refl
variant_reference names Const t = refl
variant_reference names Restrict t = refl

pub variant_aggregate : (names : List (List ℕ)) (kind : AggregateKind) (size : ℕ) (ms : List term.Member) → variant_bytes names (aggregate_body kind size ms) ≡ flat_map (member_bytes names size) ms
variant_aggregate names Struct size ms = refl
variant_aggregate names Union size ms = refl

pub aggregate_bytes : (names : List (List ℕ)) (kind : AggregateKind) (size : ℕ) (ms : List Member) → variant_bytes names (aggregate_body kind size (map member_of ms)) ≡ flat_map (written_member names size) ms
aggregate_bytes names kind size ms = variant_aggregate names kind size (map member_of ms) ∙ members_joined names size ms

pub fits_aggregate : (kind : AggregateKind) (size : ℕ) (ms : List term.Member) → FitsBody (aggregate_body kind size ms) → FitsMembers size ms
fits_aggregate Struct size ms h = h
fits_aggregate Union size ms h = h

pub names_aggregate : (kind : AggregateKind) (size : ℕ) (ms : List term.Member) → listed_names (aggregate_body kind size ms) ≡ map (λ m. m.name) ms
names_aggregate Struct size ms = refl
names_aggregate Union size ms = refl

pub field_scalar : (kind : ScalarKind) (s : term.Scalar) → field_of (scalar_body kind s) ≡ s.size
field_scalar Integer s = refl
field_scalar Float s = refl

pub field_reference : (kind : ReferenceKind) (t : ℕ) → field_of (reference_body kind t) ≡ t
field_reference Pointer t = refl
field_reference Typedef t = refl
field_reference Volatile t = refl
field_reference Const t = refl
field_reference Restrict t = refl

pub field_aggregate : (kind : AggregateKind) (size : ℕ) (ms : List term.Member) → field_of (aggregate_body kind size ms) ≡ size
field_aggregate Struct size ms = refl
field_aggregate Union size ms = refl

pub len_scalar : (kind : ScalarKind) (s : term.Scalar) → list_len (scalar_body kind s) ≡ 0
len_scalar Integer s = refl
len_scalar Float s = refl

pub len_reference : (kind : ReferenceKind) (t : ℕ) → list_len (reference_body kind t) ≡ 0
len_reference Pointer t = refl
len_reference Typedef t = refl
len_reference Volatile t = refl
len_reference Const t = refl
len_reference Restrict t = refl

pub len_aggregate : (kind : AggregateKind) (size : ℕ) (ms : List term.Member) → list_len (aggregate_body kind size ms) ≡ length ms
len_aggregate Struct size ms = refl
len_aggregate Union size ms = refl

-- a type that fits has at most 1,023 members, enumerators or arguments
pub len_fits : (x : term.Body) → FitsBody x → list_len x ≤ 1023
len_fits term.unknown h = omega arith
len_fits (term.integer s) h = omega arith
len_fits (term.float s) h = omega arith
len_fits (term.pointer t) h = omega arith
len_fits (term.array e) h = omega arith
len_fits (term.function ret args) h = h
len_fits (term.struct size members) h = h.count
len_fits (term.union size members) h = h.count
len_fits (term.enum size enumerators) h = h.count
len_fits (term.forward tag) h = omega arith
len_fits (term.typedef t) h = omega arith
len_fits (term.volatile t) h = omega arith
len_fits (term.const t) h = omega arith
len_fits (term.restrict t) h = omega arith

-- ---- a dictionary

-- the parts of a dictionary after its header
pub bytes_len : (d : Dictionary) → length (bytes_of d) ≡ 36 + (length (labels_written d) + (length (records_written d) + length (string_bytes (strings_of d))))
unfolding bytes_of
bytes_len d =
    let a = length-append (records_written d) (string_bytes (strings_of d)) in
    let b = length-append (labels_written d) (records_written d ++ string_bytes (strings_of d)) in
    omega (arith, a, b)

-- if the parts so far are too long, so is the whole
pub too_long_at : {X : Type 0} (f : X → List ℕ) (xs : List X) (i : ℕ) (x : X) (len one : ℕ) → i < length xs → x ≡ get_or xs i x → len ≡ length (flat_map f (take i xs)) → one ≡ length (f x) → 67108864 < len + one → 67108864 < length (flat_map f xs)
too_long_at {X} f xs i x len one lt is e g more =
    let up = length-flat_map-take f xs i x lt in
    let same = ap (λ (y : X). length (f y)) is in
    omega (arith, up, same, e, g, more)
