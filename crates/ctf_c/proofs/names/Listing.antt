-- The members of a record of a struct or union; other kinds have none.
use Rattle.std.proofs.Common.{◌≡◌, ℕ, List, Option, Some, None, refl, ap, ◌⊎◌}
use Rattle.std.specs.Prelude.{IsSome}
use Rattle.std.specs.Option.{option_map}
use Rattle.ctf_model.specs.format.Name.{Tables}
use Rattle.ctf_model.specs.format.Record.{kind, field, member_len, behind_head}
use Rattle.ctf_model.specs.format.Shown.{Shown, members_in, shown}
use Rattle.ctf_model.specs.format.Shown as show
use Rattle.ctf_model.specs.format.Spelling.{member_of, enumerators, arguments, term_of}
use Rattle.ctf_model.specs.format.Term.{Term, Member, Enumerator}
use Rattle.ctf_model.specs.format.Term as term
use Rattle.ctf_model.specs.declared.kinds.Kind.{Kind}
use Rattle.ctf_model.specs.declared.kinds.Kind.TheVariants.{KUnknown, KInteger, KFloat, KPointer, KArray, KFunction, KStruct, KUnion, KEnum, KForward, KTypedef, KVolatile, KConst, KRestrict}
use Rattle.ctf_views.proofs.Items.{items_in_is}
use Rattle.ctf_views.proofs.Shows.{MemberParts, enumerators_shown, members_good, members_view, shown_at, shown_by}
use Rattle.ctf_views.specs.Lists.{items_in}

abbrev pub listed_in : Tables → List ℕ → Option (Option (List Member))
listed_in t b = option_map (λ (x : Term). members_in (shown x.body)) (term_of t b)

listed_by : (t : Tables) (b : List ℕ) (s : Shown) → shown_by t b ≡ Some s → listed_in t b ≡ Some (members_in s)
listed_by t b s h = lifted (term_of t b) h
  where
    lifted : (o : Option Term) → option_map (λ (x : Term). shown x.body) o ≡ Some s → option_map (λ (x : Term). members_in (shown x.body)) o ≡ Some (members_in s)
    lifted None e = absurd cc
    lifted (Some x) e = ap (option_map members_in) e

pub struct_listed : (t : Tables) (b rest : List ℕ) (bytes count : ℕ) → (kind b ≡ Some KStruct) ⊎ (kind b ≡ Some KUnion) → IsSome (term_of t b) → rest ≡ behind_head b → MemberParts b rest bytes count
    → listed_in t b ≡ Some (Some (items_in (member_of bytes t) (member_len bytes) count rest))
struct_listed t b rest bytes count k h r p =
    let good = members_good t b rest bytes count k h r p in
    let ms = items_in (member_of bytes t) (member_len bytes) count rest in
    listed_by t b (show.members ms) (members_view t b rest bytes count ms k h r p (items_in_is (member_of bytes t) (member_len bytes) count rest good))

enum_listed : (t : Tables) (b : List ℕ) (o : Option (List Enumerator)) → IsSome o → shown_by t b ≡ option_map show.enumerators o → listed_in t b ≡ Some None
enum_listed t b None some is = absurd cc
enum_listed t b (Some es) some is = listed_by t b (show.enumerators es) is

pub none_listed : (t : Tables) (b : List ℕ) (k : Kind) → kind b ≡ Some k → IsSome (term_of t b) → (k ≡ KStruct → ⊥) → (k ≡ KUnion → ⊥) → listed_in t b ≡ Some None
none_listed t b KUnknown e h a1 a2 = listed_by t b _ (shown_at t b KUnknown e h).1
none_listed t b KInteger e h a1 a2 = listed_by t b _ (shown_at t b KInteger e h).1
none_listed t b KFloat e h a1 a2 = listed_by t b _ (shown_at t b KFloat e h).1
none_listed t b KPointer e h a1 a2 = listed_by t b _ (shown_at t b KPointer e h).1
none_listed t b KArray e h a1 a2 = listed_by t b _ (shown_at t b KArray e h).1
none_listed t b KFunction e h a1 a2 = let s = shown_at t b KFunction e h in taken (arguments b) s.0 s.1
  where
    taken : (o : Option (List ℕ)) → IsSome (option_map (term.function (field b)) o) → shown_by t b ≡ option_map shown (option_map (term.function (field b)) o) → listed_in t b ≡ Some None
    taken None some is = absurd cc
    taken (Some args) some is = listed_by t b (show.arguments args) is
none_listed t b KStruct e h a1 a2 = absurd (a1 refl)
none_listed t b KUnion e h a1 a2 = absurd (a2 refl)
none_listed t b KEnum e h a1 a2 = let s = enumerators_shown t b e h in enum_listed t b (enumerators t b) s.0 s.1
none_listed t b KForward e h a1 a2 = listed_by t b _ (shown_at t b KForward e h).1
none_listed t b KTypedef e h a1 a2 = listed_by t b _ (shown_at t b KTypedef e h).1
none_listed t b KVolatile e h a1 a2 = listed_by t b _ (shown_at t b KVolatile e h).1
none_listed t b KConst e h a1 a2 = listed_by t b _ (shown_at t b KConst e h).1
none_listed t b KRestrict e h a1 a2 = listed_by t b _ (shown_at t b KRestrict e h).1
