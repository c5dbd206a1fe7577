-- The names of items in their rows.
use Rattle.std.proofs.Common.{◌≡◌, ℕ, zero, suc, ◌+◌, ◌*◌, ◌<◌, ◌≤◌, List, [], length, map, drop, Option, Some, None, refl, sym, ap, ◌∙◌, arith, Bool, true, false, cond, ◌⊎◌}
use Rattle.std.specs.Prelude.{IsSome, slice_get, nat_lt}
use Rattle.std.specs.Option.{option_map}
use Rattle.ctf_model.proofs.Items.{items_first, items_more, items_at}
use Rattle.ctf_model.specs.format.Bytes.{u32_at}
use Rattle.ctf_model.specs.format.Name.{Tables, name}
use Rattle.ctf_model.specs.format.Record.{kind, field, size, member_len, behind_head}
use Rattle.ctf_model.specs.format.Shown.{Shown, shown}
use Rattle.ctf_model.specs.format.Shown as show
use Rattle.ctf_model.specs.format.Spelling.{items, narrow_member, wide_member, member_of, enumerator_of, arguments, term_of}
use Rattle.ctf_model.specs.format.Term.{Term, Member, Enumerator}
use Rattle.ctf_model.specs.format.Term as term
use Rattle.ctf_model.specs.declared.kinds.Kind.{Kind}
use Rattle.ctf_model.specs.declared.kinds.Kind.TheVariants.{KUnknown, KInteger, KFloat, KPointer, KArray, KFunction, KStruct, KUnion, KEnum, KForward, KTypedef, KVolatile, KConst, KRestrict}
use Rattle.ctf_check.proofs.Described.{own_spelled}
use Rattle.ctf_check.specs.CheckedView.{IsOwn, tables_of}
use Rattle.ctf_check.specs.declared.checked.Checked.{Checked}
use Rattle.ctf_records.specs.RecordView.{bytes_of}
use Rattle.ctf_records.specs.declared.record.Record.{Record}
use Rattle.ctf_records.specs.ByKind.{list_length, len_behind}
use Rattle.ctf_views.proofs.Items.{row, items_in_is, items_in_by, items_in_length}
use Rattle.ctf_views.proofs.Shows.{MemberParts, members_good, members_view, enumerators_good, enumerators_view, shown_at, shown_by}
use Rattle.ctf_views.specs.Lists.{AreGood, items_in}
use Rattle.ctf_c.specs.names.Names.{name_at, shown_names}

-- ---- a row

module _ (t : Tables) (len n i : ℕ) (b : List ℕ) (good : AreGood (name_at t) len n b) (here : i < length (items_in (name_at t) len n b)) where
  inside : i < n
  inside = let many = items_in_length (name_at t) len n b good in omega arith

  pub row_starts : len * i ≤ length b
  row_starts = (row (name_at t) len n i b good inside).start

  pub row_holds : (r : List ℕ) → 4 ≤ len → r ≡ drop (len * i) b → 0 + 4 ≤ length r
  row_holds r wide e = let long = (row (name_at t) len n i b good inside).long in let same = ap length e in omega arith

  pub row_names : (r : List ℕ) (reference : ℕ) → r ≡ drop (len * i) b → reference ≡ u32_at r 0 → name t reference ≡ slice_get (items_in (name_at t) len n b) i
  row_names r reference e f = ap (name t) (f ∙ ap (λ (bytes : List ℕ). u32_at bytes 0) e) ∙ items_at (name_at t) len n i b (items_in (name_at t) len n b) (items_in_is (name_at t) len n b good) inside

-- ---- names of items are at the start of their rows

pub items_named : {A : Type 0} (t : Tables) (item : List ℕ → Option A) (called : A → List ℕ) → ((b : List ℕ) → option_map called (item b) ≡ name_at t b)
    → (len n : ℕ) (b : List ℕ) (xs : List A) → items item len n b ≡ Some xs → items (name_at t) len n b ≡ Some (map called xs)
items_named t item called agree len zero b xs h = let none : xs ≡ [] = cc in rw none refl
items_named t item called agree len (suc n) b xs h =
    let f = items_first item len n b xs h in
    let first : name_at t b ≡ Some (called f.first) = sym (agree b) ∙ ap (option_map called) f.reads in
    let rest = items_named t item called agree len n (drop len b) f.others f.rest in
    rw f.all (items_more (name_at t) len n b (called f.first) (map called f.others) first rest)

kept : {A : Type 0} (make : List ℕ → A) (called : A → List ℕ) → ((text : List ℕ) → called (make text) ≡ text) → (o : Option (List ℕ)) → option_map called (option_map make o) ≡ o
kept make called same None = refl
kept make called same (Some text) = ap Some (same text)

enumerator_names : (t : Tables) (b : List ℕ) → option_map (λ (e : Enumerator). e.name) (enumerator_of t b) ≡ name_at t b
enumerator_names t b = kept _ (λ (e : Enumerator). e.name) (λ text. refl) (name t (u32_at b 0))

member_names : (size : ℕ) (t : Tables) (b : List ℕ) → option_map (λ (m : Member). m.name) (member_of size t b) ≡ name_at t b
member_names size t b = by_form (nat_lt size 8192)
  where
    by_form : (narrow : Bool) → option_map (λ (m : Member). m.name) (cond narrow (narrow_member t b) (wide_member t b)) ≡ name_at t b
    by_form true = kept _ (λ (m : Member). m.name) (λ text. refl) (name t (u32_at b 0))
    by_form false = kept _ (λ (m : Member). m.name) (λ text. refl) (name t (u32_at b 0))

-- ---- shown names

names_by : (t : Tables) (b : List ℕ) (s : Shown) → shown_by t b ≡ Some s → option_map (λ (x : Term). shown_names (shown x.body)) (term_of t b) ≡ Some (shown_names s)
names_by t b s h = lifted (term_of t b) h
  where
    lifted : (o : Option Term) → option_map (λ (x : Term). shown x.body) o ≡ Some s → option_map (λ (x : Term). shown_names (shown x.body)) o ≡ Some (shown_names s)
    lifted None e = absurd cc
    lifted (Some x) e = ap (option_map shown_names) e

pub enum_good : (t : Tables) (b rest : List ℕ) (count : ℕ) → kind b ≡ Some KEnum → IsSome (term_of t b) → rest ≡ behind_head b → length rest ≡ len_behind b → count ≡ list_length b → AreGood (name_at t) 8 count rest
enum_good t b rest count k h r l n =
    let good = enumerators_good t b rest count k h r l n in
    record {
      inside = good.inside;
      good = rw (items_named t (enumerator_of t) (λ (e : Enumerator). e.name) (enumerator_names t) 8 count rest _ (items_in_is (enumerator_of t) 8 count rest good)) refl;
    }

pub enum_named : (t : Tables) (b rest : List ℕ) (count : ℕ) → kind b ≡ Some KEnum → IsSome (term_of t b) → rest ≡ behind_head b → length rest ≡ len_behind b → count ≡ list_length b
    → option_map (λ (x : Term). shown_names (shown x.body)) (term_of t b) ≡ Some (Some (items_in (name_at t) 8 count rest))
enum_named t b rest count k h r l n =
    let good = enumerators_good t b rest count k h r l n in
    let es = items_in (enumerator_of t) 8 count rest in
    let is = items_in_is (enumerator_of t) 8 count rest good in
    let named = items_in_by (name_at t) 8 count rest _ (items_named t (enumerator_of t) (λ (e : Enumerator). e.name) (enumerator_names t) 8 count rest es is) in
    names_by t b (show.enumerators es) (enumerators_view t b rest count es k h r n is) ∙ ap (λ (names : List (List ℕ)). Some (Some names)) (sym named)

pub struct_good : (t : Tables) (b rest : List ℕ) (bytes count : ℕ) → (kind b ≡ Some KStruct) ⊎ (kind b ≡ Some KUnion) → IsSome (term_of t b) → rest ≡ behind_head b → MemberParts b rest bytes count → AreGood (name_at t) (member_len bytes) count rest
struct_good t b rest bytes count k h r p =
    let good = members_good t b rest bytes count k h r p in
    record {
      inside = good.inside;
      good = rw (items_named t (member_of bytes t) (λ (m : Member). m.name) (member_names bytes t) (member_len bytes) count rest _ (items_in_is (member_of bytes t) (member_len bytes) count rest good)) refl;
    }

pub struct_named : (t : Tables) (b rest : List ℕ) (bytes count : ℕ) → (kind b ≡ Some KStruct) ⊎ (kind b ≡ Some KUnion) → IsSome (term_of t b) → rest ≡ behind_head b → MemberParts b rest bytes count
    → option_map (λ (x : Term). shown_names (shown x.body)) (term_of t b) ≡ Some (Some (items_in (name_at t) (member_len bytes) count rest))
struct_named t b rest bytes count k h r p =
    let good = members_good t b rest bytes count k h r p in
    let ms = items_in (member_of bytes t) (member_len bytes) count rest in
    let is = items_in_is (member_of bytes t) (member_len bytes) count rest good in
    let named = items_in_by (name_at t) (member_len bytes) count rest _ (items_named t (member_of bytes t) (λ (m : Member). m.name) (member_names bytes t) (member_len bytes) count rest ms is) in
    names_by t b (show.members ms) (members_view t b rest bytes count ms k h r p is) ∙ ap (λ (names : List (List ℕ)). Some (Some names)) (sym named)

-- types of other kinds have no names
pub none_named : (t : Tables) (b : List ℕ) (k : Kind) → kind b ≡ Some k → IsSome (term_of t b) → (k ≡ KStruct → ⊥) → (k ≡ KUnion → ⊥) → (k ≡ KEnum → ⊥)
    → option_map (λ (x : Term). shown_names (shown x.body)) (term_of t b) ≡ Some None
none_named t b KUnknown e h a1 a2 a3 = names_by t b _ (shown_at t b KUnknown e h).1
none_named t b KInteger e h a1 a2 a3 = names_by t b _ (shown_at t b KInteger e h).1
none_named t b KFloat e h a1 a2 a3 = names_by t b _ (shown_at t b KFloat e h).1
none_named t b KPointer e h a1 a2 a3 = names_by t b _ (shown_at t b KPointer e h).1
none_named t b KArray e h a1 a2 a3 = names_by t b _ (shown_at t b KArray e h).1
none_named t b KFunction e h a1 a2 a3 = let s = shown_at t b KFunction e h in taken (arguments b) s.0 s.1
  where
    taken : (o : Option (List ℕ)) → IsSome (option_map (term.function (field b)) o) → shown_by t b ≡ option_map shown (option_map (term.function (field b)) o) → option_map (λ (x : Term). shown_names (shown x.body)) (term_of t b) ≡ Some None
    taken None some is = absurd cc
    taken (Some args) some is = names_by t b (show.arguments args) is
none_named t b KStruct e h a1 a2 a3 = absurd (a1 refl)
none_named t b KUnion e h a1 a2 a3 = absurd (a2 refl)
none_named t b KEnum e h a1 a2 a3 = absurd (a3 refl)
none_named t b KForward e h a1 a2 a3 = names_by t b _ (shown_at t b KForward e h).1
none_named t b KTypedef e h a1 a2 a3 = names_by t b _ (shown_at t b KTypedef e h).1
none_named t b KVolatile e h a1 a2 a3 = names_by t b _ (shown_at t b KVolatile e h).1
none_named t b KConst e h a1 a2 a3 = names_by t b _ (shown_at t b KConst e h).1
none_named t b KRestrict e h a1 a2 a3 = names_by t b _ (shown_at t b KRestrict e h).1

-- ---- the record of a looked-up type

pub same_term : (d dd : Checked) (r rr : Record) (t : Tables) → t ≡ tables_of dd → dd ≡ d → rr ≡ r → term_of (tables_of d) (bytes_of r) ≡ term_of t (bytes_of rr)
same_term d dd r rr t e f g = rw (e, f, g) refl

pub some_term : (d dd : Checked) (r rr : Record) (t : Tables) → IsOwn d r → t ≡ tables_of dd → dd ≡ d → rr ≡ r → IsSome (term_of t (bytes_of rr))
some_term d dd r rr t own e f g = rw (← same_term d dd r rr t e f g, (own_spelled d r own).says) refl
