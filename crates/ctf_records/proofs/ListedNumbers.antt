-- Numbers in items of one length, by the item's index.
use Rattle.std.proofs.Common.{◌≡◌, ℕ, zero, suc, ◌+◌, ◌*◌, ◌<◌, ◌≤◌, List, [], ◌∷◌, length, drop, Option, Some, Bool, true, false, cond, ltb, refl, sym, ap, ◌∙◌, arith}
use Rattle.std.specs.Prelude.{slice_index}
use Rattle.std.proofs.lemmas.List.{drop-drop}
use Rattle.ctf_model.specs.format.Bytes.{u16_at}
use Rattle.ctf_model.specs.format.Record.{kind, size, vlen, member_len, behind_head}
use Rattle.ctf_model.specs.declared.kinds.Kind.{Kind}
use Rattle.ctf_model.specs.declared.kinds.Kind.TheVariants.{KUnknown, KInteger, KFloat, KPointer, KArray, KFunction, KStruct, KUnion, KEnum, KForward, KTypedef, KVolatile, KConst, KRestrict}
use Rattle.ctf_records.specs.ByKind.{list_length, len_behind}
use Rattle.ctf_records.specs.ListedTypes.{numbers_in, listed_types_of_kind, listed_types_at, listed_types}

pub numbers_in-length : (len at n : ℕ) (b : List ℕ) → length (numbers_in len at n b) ≡ n
unfolding numbers_in
numbers_in-length len at zero b = refl
numbers_in-length len at (suc n) b = ap suc (numbers_in-length len at n (drop len b))

-- the number after a prefix
pub u16_behind : (b : List ℕ) (len at : ℕ) → u16_at (drop len b) at ≡ u16_at b (len + at)
u16_behind b len at = rw (drop-drop at len b) refl

-- the number in item `k`
pub number_at : (len at n k : ℕ) (b : List ℕ) → k < n → u16_at b (len * k + at) ≡ slice_index (numbers_in len at n b) k
unfolding numbers_in
number_at len at zero k b lt = absurd (omega arith)
number_at len at (suc n) zero b lt = let e : len * 0 + at ≡ at = omega arith in rw e refl
number_at len at (suc n) (suc k) b lt =
    let e : len * suc k + at ≡ len + (len * k + at) = omega arith in
    rw e (sym (u16_behind b len (len * k + at)) ∙ number_at len at n k (drop len b) (omega arith))

-- it is inside if all items are
pub number_inside : (len at n k : ℕ) → at + 2 ≤ len → k < n → len * k + at + 2 ≤ len * n
number_inside len at zero k fits lt = absurd (omega arith)
number_inside len at (suc n) zero fits lt =
    let e : len * suc n ≡ len * n + len = omega arith in
    let none : len * 0 ≡ 0 = omega arith in omega arith
number_inside len at (suc n) (suc k) fits lt =
    let e : len * suc n ≡ len * n + len = omega arith in
    let f : len * suc k ≡ len * k + len = omega arith in
    let h = number_inside len at n k fits (omega arith) in omega arith

-- ---- numbers of a record

-- the list of types is as long as the record's list
pub arguments_count : (b : List ℕ) → kind b ≡ Some KFunction → list_length b ≡ length (listed_types b)
arguments_count b e = rw e (sym (numbers_in-length 2 0 (vlen b) (behind_head b)))

pub struct_count : (b : List ℕ) → kind b ≡ Some KStruct → list_length b ≡ length (listed_types b)
struct_count b e = rw e (sym (numbers_in-length (member_len (size b)) 4 (vlen b) (behind_head b)))

pub union_count : (b : List ℕ) → kind b ≡ Some KUnion → list_length b ≡ length (listed_types b)
union_count b e = rw e (sym (numbers_in-length (member_len (size b)) 4 (vlen b) (behind_head b)))

-- after the head there is a list of items, each with one of the listed types
pub record ListedIn (b : List ℕ) (len : ℕ) : Type 0 where
  pub count : list_length b ≡ length (listed_types b)
  pub room : len * list_length b ≤ len_behind b

-- for a kind with a list other than array and function, they are types of members
members_of_kind : (b : List ℕ) (item : ℕ) (k : Kind) → kind b ≡ Some k → ¬ (k ≡ KArray) → ¬ (k ≡ KFunction) → item < length (listed_types_of_kind k b) → ListedIn b (member_len (size b))
members_of_kind b item KStruct e array function lt = record { count = struct_count b e; room = rw e (omega arith) }
members_of_kind b item KUnion e array function lt = record { count = union_count b e; room = rw e (omega arith) }
members_of_kind b item KArray e array function lt = absurd (array refl)
members_of_kind b item KFunction e array function lt = absurd (function refl)
members_of_kind b item KUnknown e array function lt = absurd (omega arith)
members_of_kind b item KInteger e array function lt = absurd (omega arith)
members_of_kind b item KFloat e array function lt = absurd (omega arith)
members_of_kind b item KPointer e array function lt = absurd (omega arith)
members_of_kind b item KEnum e array function lt = absurd (omega arith)
members_of_kind b item KForward e array function lt = absurd (omega arith)
members_of_kind b item KTypedef e array function lt = absurd (omega arith)
members_of_kind b item KVolatile e array function lt = absurd (omega arith)
members_of_kind b item KConst e array function lt = absurd (omega arith)
members_of_kind b item KRestrict e array function lt = absurd (omega arith)

pub members_listed : (b : List ℕ) (item : ℕ) (k : Kind) → kind b ≡ Some k → ¬ (k ≡ KArray) → ¬ (k ≡ KFunction) → item < length (listed_types b) → ListedIn b (member_len (size b))
members_listed b item k e array function lt =
    let n : length (listed_types b) ≡ length (listed_types_of_kind k b) = ap (λ (o : Option Kind). length (listed_types_at o b)) e in
    members_of_kind b item k e array function (omega arith)

-- a member is long enough for its type
pub member_fits : (n : ℕ) → 6 ≤ member_len n
member_fits n = at (ltb n 8192)
  where
    at : (narrow : Bool) → 6 ≤ cond narrow 8 16
    at true = omega arith
    at false = omega arith

-- contents and index of an array are two numbers
pub array_listed : (b : List ℕ) → kind b ≡ Some KArray → numbers_in 2 0 2 (behind_head b) ≡ listed_types b
unfolding numbers_in
array_listed b e = rw (e, u16_behind (behind_head b) 2 0) refl

-- ---- in order

pub arguments_are : (b : List ℕ) → kind b ≡ Some KFunction → numbers_in 2 0 (list_length b) (behind_head b) ≡ listed_types b
arguments_are b e = rw e refl

pub struct_are : (b : List ℕ) → kind b ≡ Some KStruct → numbers_in (member_len (size b)) 4 (list_length b) (behind_head b) ≡ listed_types b
struct_are b e = rw e refl

pub union_are : (b : List ℕ) → kind b ≡ Some KUnion → numbers_in (member_len (size b)) 4 (list_length b) (behind_head b) ≡ listed_types b
union_are b e = rw e refl

pub none_listed : (len at : ℕ) (b : List ℕ) → numbers_in len at 0 b ≡ []
unfolding numbers_in
none_listed len at b = refl

pub one_listed : (len at : ℕ) (b : List ℕ) → numbers_in len at 1 b ≡ u16_at b at ∷ []
unfolding numbers_in
one_listed len at b = refl

nothing_of_kind : (b : List ℕ) (k : Kind) → ¬ (k ≡ KArray) → ¬ (k ≡ KFunction) → ¬ (k ≡ KStruct) → ¬ (k ≡ KUnion) → [] ≡ listed_types_of_kind k b
nothing_of_kind b KUnknown array function struct union = refl
nothing_of_kind b KInteger array function struct union = refl
nothing_of_kind b KFloat array function struct union = refl
nothing_of_kind b KPointer array function struct union = refl
nothing_of_kind b KArray array function struct union = absurd (array refl)
nothing_of_kind b KFunction array function struct union = absurd (function refl)
nothing_of_kind b KStruct array function struct union = absurd (struct refl)
nothing_of_kind b KUnion array function struct union = absurd (union refl)
nothing_of_kind b KEnum array function struct union = refl
nothing_of_kind b KForward array function struct union = refl
nothing_of_kind b KTypedef array function struct union = refl
nothing_of_kind b KVolatile array function struct union = refl
nothing_of_kind b KConst array function struct union = refl
nothing_of_kind b KRestrict array function struct union = refl

-- a record of another kind lists no types
pub nothing_listed : (b : List ℕ) (k : Kind) → kind b ≡ Some k → ¬ (k ≡ KArray) → ¬ (k ≡ KFunction) → ¬ (k ≡ KStruct) → ¬ (k ≡ KUnion) → [] ≡ listed_types b
nothing_listed b k e array function struct union = nothing_of_kind b k array function struct union ∙ sym (ap (λ (o : Option Kind). listed_types_at o b) e)
