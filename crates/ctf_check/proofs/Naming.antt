-- The types that are read from a record's bytes are those that its type refers to.
use Rattle.std.proofs.Common.{◌≡◌, ℕ, zero, suc, Bool, List, [], ◌∷◌, ◌++◌, drop, map, Option, Some, None, Result, Ok, Err, refl, sym, ap, ◌∙◌}
use Rattle.std.specs.List.{AllByRecursion}
use Rattle.std.specs.Option.{option_map, option_and_then}
use Rattle.std.proofs.lemmas.Option.{same_Some}
use Rattle.ctf_model.proofs.MemberTypes.{members_types as types_of_members}
use Rattle.ctf_model.specs.format.Bytes.{u16_at, u32_at}
use Rattle.ctf_model.specs.declared.faults.Fault.{Fault}
use Rattle.ctf_model.specs.declared.kinds.Kind.{Kind}
use Rattle.ctf_model.specs.declared.kinds.Kind.TheVariants.{KUnknown, KInteger, KFloat, KPointer, KArray, KFunction, KStruct, KUnion, KEnum, KForward, KTypedef, KVolatile, KConst, KRestrict}
use Rattle.ctf_model.specs.rules.Faults.{first_misnaming}
use Rattle.ctf_model.specs.format.Name.{Tables, name}
use Rattle.ctf_model.specs.format.Record.{kind, field, size, vlen, member_len, behind_head}
use Rattle.ctf_model.specs.rules.References.{references, is_misnaming}
use Rattle.ctf_model.specs.format.Section.{Piece}
use Rattle.ctf_model.specs.format.Spelling.{◌>>=◌, items, member_of, argument_of, members, arguments, enumerators, scalar, elements, tag, body_of, term_of}
use Rattle.ctf_model.specs.format.Term.{Member, Enumerator, Body, Term}
use Rattle.ctf_model.specs.format.Term as term
use Rattle.ctf_records.specs.ByKind.{reference_of_kind}
use Rattle.ctf_records.specs.ListedTypes.{numbers_in, listed_types_of_kind, listed_types_at}
use Rattle.ctf_check.specs.Named.{in_head, named_types, misnames, first_that_misnames}
use Rattle.ctf_check.proofs.Terms.{IsSpelled}

-- ---- lists

-- a successful bind had a value
bind_some : {A B : Type 0} (o : Option A) (f : A → Option B) (y : B) → o >>= f ≡ Some y → (x : A) × (o ≡ Some x) × (f x ≡ Some y)
bind_some None f y e = absurd cc
bind_some (Some x) f y e = (x, refl, e)

-- a mapped value was present before
map_some : {A B : Type 0} (f : A → B) (o : Option A) (y : B) → option_map f o ≡ Some y → (x : A) × (o ≡ Some x) × (f x ≡ y)
map_some f None y e = absurd cc
map_some f (Some x) y e = (x, refl, let same : f x ≡ y = cc in same)

members_types : (size : ℕ) (t : Tables) (n : ℕ) (b : List ℕ) (ms : List Member) → items (member_of size t) (member_len size) n b ≡ Some ms → map (λ m. m.tnum) ms ≡ numbers_in (member_len size) 4 n b
unfolding numbers_in
members_types size t n b ms e = types_of_members (numbers_in (member_len size) 4) size (member_len size) t (λ b. refl) (λ n b. refl) n b ms e

arguments_types : (n : ℕ) (b : List ℕ) (xs : List ℕ) → items argument_of 2 n b ≡ Some xs → xs ≡ numbers_in 2 0 n b
unfolding numbers_in
arguments_types zero b xs e = let same : [] ≡ xs = cc in sym same
arguments_types (suc n) b xs e =
    let others = bind_some (items argument_of 2 n (drop 2 b)) _ xs e in
    let whole : u16_at b 0 ∷ others.0 ≡ xs = cc in
    rw (← whole, arguments_types n (drop 2 b) others.0 others.1) refl

-- ---- one record

-- equal bodies refer to equal types
names_of_same : (x y : Body) → Some x ≡ Some y → references y ≡ references x
names_of_same x y e = ap references (sym (same_Some x y e))

abbrev named_by_kind : Kind → List ℕ → List ℕ
named_by_kind k b = in_head (reference_of_kind k b) ++ listed_types_of_kind k b

-- the types that a body refers to are those in its record
body_names : (t : Tables) (b : List ℕ) (k : Kind) (x : Body) → body_of t b k ≡ Some x → references x ≡ named_by_kind k b
body_names t b KUnknown x e = names_of_same (term.unknown) x e
body_names t b KInteger x e = names_of_same (term.integer (scalar b)) x e
body_names t b KFloat x e = names_of_same (term.float (scalar b)) x e
body_names t b KPointer x e = names_of_same (term.pointer (field b)) x e
body_names t b KArray x e = names_of_same (term.array (elements b)) x e
body_names t b KFunction x e = let xs = map_some (term.function (field b)) (arguments b) x e in rw (← xs.2) (ap (λ (ys : List ℕ). field b ∷ ys) (arguments_types (vlen b) (behind_head b) xs.0 xs.1))
body_names t b KStruct x e = let ms = map_some (term.struct (size b)) (members t b) x e in rw (← ms.2) (members_types (size b) t (vlen b) (behind_head b) ms.0 ms.1)
body_names t b KUnion x e = let ms = map_some (term.union (size b)) (members t b) x e in rw (← ms.2) (members_types (size b) t (vlen b) (behind_head b) ms.0 ms.1)
body_names t b KEnum x e = let es = map_some (term.enum (size b)) (enumerators t b) x e in rw (← es.2) refl
body_names t b KForward x e = names_of_same (term.forward (tag (field b))) x e
body_names t b KTypedef x e = names_of_same (term.typedef (field b)) x e
body_names t b KVolatile x e = names_of_same (term.volatile (field b)) x e
body_names t b KConst x e = names_of_same (term.const (field b)) x e
body_names t b KRestrict x e = names_of_same (term.restrict (field b)) x e

-- the kind and body of a record that spells a type
pub said_body : (t : Tables) (b : List ℕ) (x : Term) → term_of t b ≡ Some x → (k : Kind) × (kind b ≡ Some k) × (body_of t b k ≡ Some x.body)
unfolding term_of
said_body t b x e =
    let k = bind_some (kind b) _ x e in
    let text = bind_some (name t (u32_at b 0)) _ x k.2 in
    let body = bind_some (body_of t b k.0) _ x text.2 in
    (k.0, k.1, body.1 ∙ ap (λ (o : Option Term). option_map (λ y. y.body) o) body.2)

-- the types that it refers to are those in the record
pub record_names : (t : Tables) (b : List ℕ) (x : Term) → term_of t b ≡ Some x → references x.body ≡ named_types b
record_names t b x e =
    let k = said_body t b x e in
    body_names t b k.0 x.body k.2 ∙ ap (λ (o : Option Kind). in_head (option_and_then (λ k. reference_of_kind k b) o) ++ listed_types_at o b) (sym k.1)

-- if a record spells a type, the test of its bytes is that of the type
misnames_said : (t : Tables) (child : Bool) (count : ℕ) (b : List ℕ) (x : Term) → term_of t b ≡ Some x → misnames child count b ≡ is_misnaming t child count b
unfolding misnames is_misnaming
misnames_said t child count b x e = rw (e, record_names t b x e) refl

-- ---- all records

-- the first record with a missing type is the same by bytes and by types
pub first_said : (t : Tables) (child : Bool) (count : ℕ) (xs : List (Result Piece Fault)) → AllByRecursion (IsSpelled t) xs → first_that_misnames child count xs ≡ first_misnaming t child count xs
unfolding first_that_misnames first_misnaming
first_said t child count [] all = refl
first_said t child count (Ok p ∷ xs) all =
    let here = misnames_said t child count p.bytes all.0.type all.0.says in
    let later = first_said t child count xs all.1 in
    rw (here, later) refl
first_said t child count (Err f ∷ xs) all = refl
