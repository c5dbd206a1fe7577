-- The shown part of the type of a record with valid names.
use Rattle.std.proofs.Common.{◌≡◌, ℕ, ◌*◌, Bool, List, length, Option, Some, None, refl, sym, ap, ◌∙◌, arith, ◌⊎◌, ⊎_elim}
use Rattle.std.specs.Prelude.{IsSome}
use Rattle.std.specs.Option.{option_map}
use Rattle.std.proofs.lemmas.Option.{same_Some}
use Rattle.ctf_model.specs.format.Bytes.{u32_at}
use Rattle.ctf_model.specs.format.Name.{Tables, name}
use Rattle.ctf_model.specs.format.Record.{kind, is_root, field, size, vlen, member_len, behind_head}
use Rattle.ctf_model.specs.format.Spelling.{◌>>=◌, items, member_of, enumerator_of, argument_of, members, enumerators, tag, body_of, term_of}
use Rattle.ctf_model.specs.format.Term.{Body, Term, Member, Enumerator}
use Rattle.ctf_model.specs.declared.kinds.Kind.{Kind}
use Rattle.ctf_model.specs.declared.kinds.Kind.TheVariants.{KUnknown, KInteger, KFloat, KPointer, KArray, KFunction, KStruct, KUnion, KEnum, KForward, KTypedef, KVolatile, KConst, KRestrict}
use Rattle.ctf_records.specs.ByKind.{size_in, declared_in, list_length, len_behind}
use Rattle.ctf_records.specs.RecordView.{tag_of}
use Rattle.ctf_records.specs.declared.tag.Tag.{Tag}
use Rattle.ctf_views.specs.Lists.{AreGood}
use Rattle.ctf_views.specs.PartsView.{array_in, encoding_in}
use Rattle.ctf_model.specs.format.Shown.{Shown, ArrayParts, EncodingParts, shown}
use Rattle.ctf_model.specs.format.Shown as show

-- the shown part of the type that bytes spell
abbrev pub shown_by : Tables → List ℕ → Option Shown
shown_by t b = option_map (λ (x : Term). shown x.body) (term_of t b)

abbrev term_with : Bool → Option (List ℕ) → Option Body → Option Term
term_with root n o = n >>= (λ text. o >>= (λ said. Some (record { name = text; root = root; body = said })))

named_case : (root : Bool) (n : Option (List ℕ)) (o : Option Body) → IsSome (term_with root n o) → IsSome o × (option_map (λ (x : Term). shown x.body) (term_with root n o) ≡ option_map shown o)
named_case root None o h = absurd cc
named_case root (Some text) None h = absurd cc
named_case root (Some text) (Some said) h = (refl, refl)

-- it is the shown part of its body
pub shown_at : (t : Tables) (b : List ℕ) (k : Kind) → kind b ≡ Some k → IsSome (term_of t b) → IsSome (body_of t b k) × (shown_by t b ≡ option_map shown (body_of t b k))
unfolding term_of
shown_at t b k e = rw e (named_case (is_root b) (name t (u32_at b 0)) (body_of t b k))

-- ---- lists

list_case : {A : Type 0} (o : Option (List A)) (make : List A → Body) (by : List A → Shown) → ((xs : List A) → shown (make xs) ≡ by xs) → IsSome (option_map make o) → IsSome o × (option_map shown (option_map make o) ≡ option_map by o)
list_case None make by same h = absurd cc
list_case (Some xs) make by same h = (refl, ap Some (same xs))

-- the members of a struct or union are valid, and shown
pub members_shown : (t : Tables) (b : List ℕ) → (kind b ≡ Some KStruct) ⊎ (kind b ≡ Some KUnion) → IsSome (term_of t b) → IsSome (members t b) × (shown_by t b ≡ option_map show.members (members t b))
members_shown t b k h = ⊎_elim (at_struct h) (at_union h) k
  where
    at_struct : IsSome (term_of t b) → kind b ≡ Some KStruct → IsSome (members t b) × (shown_by t b ≡ option_map show.members (members t b))
    at_struct h e =
        let s = shown_at t b KStruct e h in
        let l = list_case (members t b) _ show.members (λ xs. refl) s.0 in
        (l.0, s.1 ∙ l.1)

    at_union : IsSome (term_of t b) → kind b ≡ Some KUnion → IsSome (members t b) × (shown_by t b ≡ option_map show.members (members t b))
    at_union h e =
        let s = shown_at t b KUnion e h in
        let l = list_case (members t b) _ show.members (λ xs. refl) s.0 in
        (l.0, s.1 ∙ l.1)

pub enumerators_shown : (t : Tables) (b : List ℕ) → kind b ≡ Some KEnum → IsSome (term_of t b) → IsSome (enumerators t b) × (shown_by t b ≡ option_map show.enumerators (enumerators t b))
enumerators_shown t b e h =
    let s = shown_at t b KEnum e h in
    let l = list_case (enumerators t b) _ show.enumerators (λ xs. refl) s.0 in
    (l.0, s.1 ∙ l.1)

-- ---- the parts of views

-- the parts of a record with members, as read
pub record MemberParts (b rest : List ℕ) (bytes count : ℕ) : Type 0 where
  pub size_is : bytes ≡ size b
  pub count_is : count ≡ vlen b
  pub long : length rest ≡ member_len (size b) * vlen b

pub member_parts : (b rest : List ℕ) (bytes count : ℕ) → (kind b ≡ Some KStruct) ⊎ (kind b ≡ Some KUnion) → size_in b ≡ Some bytes → count ≡ list_length b → length rest ≡ len_behind b → MemberParts b rest bytes count
member_parts b rest bytes count k s n l = ⊎_elim (at_struct s n l) (at_union s n l) k
  where
    at_struct : size_in b ≡ Some bytes → count ≡ list_length b → length rest ≡ len_behind b → kind b ≡ Some KStruct → MemberParts b rest bytes count
    at_struct s n l e = record { size_is = sym (same_Some _ _ (rw e at s)); count_is = (rw e at n); long = (rw e at l) }

    at_union : size_in b ≡ Some bytes → count ≡ list_length b → length rest ≡ len_behind b → kind b ≡ Some KUnion → MemberParts b rest bytes count
    at_union s n l e = record { size_is = sym (same_Some _ _ (rw e at s)); count_is = (rw e at n); long = (rw e at l) }

pub members_good : (t : Tables) (b rest : List ℕ) (bytes count : ℕ) → (kind b ≡ Some KStruct) ⊎ (kind b ≡ Some KUnion) → IsSome (term_of t b) → rest ≡ behind_head b → MemberParts b rest bytes count → AreGood (member_of bytes t) (member_len bytes) count rest
members_good t b rest bytes count k h r p = record {
  inside = rw (p.size_is, p.count_is) (omega (arith, p.long));
  good = rw (p.size_is, p.count_is, r) (members_shown t b k h).0;
}

pub members_view : (t : Tables) (b rest : List ℕ) (bytes count : ℕ) (xs : List Member) → (kind b ≡ Some KStruct) ⊎ (kind b ≡ Some KUnion) → IsSome (term_of t b) → rest ≡ behind_head b → MemberParts b rest bytes count
    → items (member_of bytes t) (member_len bytes) count rest ≡ Some xs → shown_by t b ≡ Some (show.members xs)
members_view t b rest bytes count xs k h r p e = (members_shown t b k h).1 ∙ ap (option_map show.members) (rw (p.size_is, p.count_is, r) at e)

pub enumerators_good : (t : Tables) (b rest : List ℕ) (count : ℕ) → kind b ≡ Some KEnum → IsSome (term_of t b) → rest ≡ behind_head b → length rest ≡ len_behind b → count ≡ list_length b → AreGood (enumerator_of t) 8 count rest
enumerators_good t b rest count k h r l n =
    let many : count ≡ vlen b = (rw k at n) in
    let long : length rest ≡ 8 * vlen b = (rw k at l) in
    record {
      inside = omega arith;
      good = rw (many, r) (enumerators_shown t b k h).0;
    }

pub enumerators_view : (t : Tables) (b rest : List ℕ) (count : ℕ) (xs : List Enumerator) → kind b ≡ Some KEnum → IsSome (term_of t b) → rest ≡ behind_head b → count ≡ list_length b
    → items (enumerator_of t) 8 count rest ≡ Some xs → shown_by t b ≡ Some (show.enumerators xs)
enumerators_view t b rest count xs k h r n e =
    let many : count ≡ vlen b = (rw k at n) in
    (enumerators_shown t b k h).1 ∙ ap (option_map show.enumerators) (rw (many, r) at e)

pub arguments_view : (t : Tables) (b rest : List ℕ) (count : ℕ) (xs : List ℕ) → kind b ≡ Some KFunction → IsSome (term_of t b) → rest ≡ behind_head b → count ≡ list_length b
    → items argument_of 2 count rest ≡ Some xs → shown_by t b ≡ Some (show.arguments xs)
arguments_view t b rest count xs k h r n e =
    let many : count ≡ vlen b = (rw k at n) in
    let here : items argument_of 2 (vlen b) (behind_head b) ≡ Some xs = (rw (many, r) at e) in
    (shown_at t b KFunction k h).1 ∙ rw here refl

-- ---- kinds without a list

pub array_view : (t : Tables) (b rest : List ℕ) (p : ArrayParts) → kind b ≡ Some KArray → IsSome (term_of t b) → rest ≡ behind_head b → p ≡ array_in rest → shown_by t b ≡ Some (show.array p)
array_view t b rest p k h r e = (shown_at t b KArray k h).1 ∙ rw (e, r) refl

pub encoding_view : (t : Tables) (b rest : List ℕ) (p : EncodingParts) → (kind b ≡ Some KInteger) ⊎ (kind b ≡ Some KFloat) → IsSome (term_of t b) → rest ≡ behind_head b → p ≡ encoding_in rest → shown_by t b ≡ Some (show.encoding p)
encoding_view t b rest p k h r e = ⊎_elim (λ i. (shown_at t b KInteger i h).1 ∙ rw (e, r) refl) (λ f. (shown_at t b KFloat f h).1 ∙ rw (e, r) refl) k

pub tag_view : (t : Tables) (b : List ℕ) (o : Option Tag) (x : Tag) → kind b ≡ Some KForward → IsSome (term_of t b) → option_map tag_of o ≡ declared_in b → o ≡ Some x → shown_by t b ≡ Some (show.tag (tag_of x))
tag_view t b o x k h d e =
    let here : declared_in b ≡ Some (tag (field b)) = rw k refl in
    let same : tag_of x ≡ tag (field b) = same_Some _ _ (ap (option_map tag_of) (sym e) ∙ d ∙ here) in
    (shown_at t b KForward k h).1 ∙ rw (← same) refl

-- all other kinds show nothing after the head
pub nothing_seen : (t : Tables) (b : List ℕ) (k : Kind) → kind b ≡ Some k → IsSome (term_of t b) → (k ≡ KInteger → ⊥) → (k ≡ KFloat → ⊥) → (k ≡ KArray → ⊥) → (k ≡ KFunction → ⊥) → (k ≡ KStruct → ⊥) → (k ≡ KUnion → ⊥) → (k ≡ KEnum → ⊥) → (k ≡ KForward → ⊥)
    → shown_by t b ≡ Some show.nothing
nothing_seen t b KUnknown e h a1 a2 a3 a4 a5 a6 a7 a8 = (shown_at t b KUnknown e h).1
nothing_seen t b KInteger e h a1 a2 a3 a4 a5 a6 a7 a8 = absurd (a1 refl)
nothing_seen t b KFloat e h a1 a2 a3 a4 a5 a6 a7 a8 = absurd (a2 refl)
nothing_seen t b KPointer e h a1 a2 a3 a4 a5 a6 a7 a8 = (shown_at t b KPointer e h).1
nothing_seen t b KArray e h a1 a2 a3 a4 a5 a6 a7 a8 = absurd (a3 refl)
nothing_seen t b KFunction e h a1 a2 a3 a4 a5 a6 a7 a8 = absurd (a4 refl)
nothing_seen t b KStruct e h a1 a2 a3 a4 a5 a6 a7 a8 = absurd (a5 refl)
nothing_seen t b KUnion e h a1 a2 a3 a4 a5 a6 a7 a8 = absurd (a6 refl)
nothing_seen t b KEnum e h a1 a2 a3 a4 a5 a6 a7 a8 = absurd (a7 refl)
nothing_seen t b KForward e h a1 a2 a3 a4 a5 a6 a7 a8 = absurd (a8 refl)
nothing_seen t b KTypedef e h a1 a2 a3 a4 a5 a6 a7 a8 = (shown_at t b KTypedef e h).1
nothing_seen t b KVolatile e h a1 a2 a3 a4 a5 a6 a7 a8 = (shown_at t b KVolatile e h).1
nothing_seen t b KConst e h a1 a2 a3 a4 a5 a6 a7 a8 = (shown_at t b KConst e h).1
nothing_seen t b KRestrict e h a1 a2 a3 a4 a5 a6 a7 a8 = (shown_at t b KRestrict e h).1
