-- The types that a record lists after its head, as numbers, without any names. Source: ctf(5), "The
-- Type Section"; ctf_array_t, ctf_member_t, ctf_lmember_t of sys/ctf.h.
use Rattle.std.specs.Prelude.{ℕ, zero, suc, List, [], ◌∷◌, drop, Option, Some, None}
use Rattle.ctf_model.specs.format.Bytes.{u16_at}
use Rattle.ctf_model.specs.format.Record.{kind, size, vlen, member_len, behind_head}
use Rattle.ctf_model.specs.declared.kinds.Kind.{Kind}
use Rattle.ctf_model.specs.declared.kinds.Kind.TheVariants.{KArray, KFunction, KStruct, KUnion}

-- the number at offset `at` in each of `n` items of `len` bytes
unfoldable pub numbers_in : ℕ → ℕ → ℕ → List ℕ → List ℕ
numbers_in len at zero b = []
numbers_in len at (suc n) b = u16_at b at ∷ numbers_in len at n (drop len b)

-- the types of members: each follows the four bytes of the name
abbrev pub member_types : List ℕ → List ℕ
member_types b = numbers_in (member_len (size b)) 4 (vlen b) (behind_head b)

abbrev pub argument_types : List ℕ → List ℕ
argument_types b = numbers_in 2 0 (vlen b) (behind_head b)

-- the types after the head of a record of this kind: an array has contents and index
abbrev pub listed_types_of_kind : Kind → List ℕ → List ℕ
listed_types_of_kind KArray b = u16_at (behind_head b) 0 ∷ u16_at (behind_head b) 2 ∷ []
listed_types_of_kind KFunction b = argument_types b
listed_types_of_kind KStruct b = member_types b
listed_types_of_kind KUnion b = member_types b
listed_types_of_kind _ b = []

abbrev pub listed_types_at : Option Kind → List ℕ → List ℕ
listed_types_at None b = []
listed_types_at (Some k) b = listed_types_of_kind k b

-- the types that a record lists
abbrev pub listed_types : List ℕ → List ℕ
listed_types b = listed_types_at (kind b) b
