-- The type numbers that steps lead to, as stored in records. Source: ctf(5), "The Type Section";
-- ctf_stype_t, ctf_member_t, ctf_lmember_t, ctf_array_t of sys/ctf.h.
use Rattle.std.specs.Prelude.{ℕ, Bool, List, [], ◌∷◌, length, map, Option, Some, None, Result, Ok, Err}
use Rattle.ctf_model.specs.format.Bytes.{u16_at}
use Rattle.ctf_model.specs.rules.Chains.{own_index}
use Rattle.ctf_model.specs.format.Record.{kind, field, behind_head}
use Rattle.ctf_model.specs.format.Section.{Piece}
use Rattle.ctf_model.specs.declared.faults.Fault.{Fault}
use Rattle.ctf_model.specs.declared.kinds.Kind.{Kind}
use Rattle.ctf_model.specs.declared.kinds.Kind.TheVariants.{KPointer, KArray, KFunction, KStruct, KUnion, KTypedef, KVolatile, KConst, KRestrict}
use Rattle.ctf_chains.specs.declared.chain.Chain.{Chain}
use Rattle.ctf_chains.specs.declared.chain.Chain.TheVariants.{ByValue, Declarator}
use Rattle.ctf_chains.specs.declared.place.Spot.{Spot}
use Rattle.ctf_chains.specs.declared.place.Spot.TheVariants.{Nowhere, Head, Contents, Members}
use Rattle.ctf_records.specs.ListedTypes.{member_types}
use Rattle.ctf_chains.specs.Places.{Places}

-- where records of a kind store these numbers
abbrev pub spot : Chain → Kind → Spot
spot chain KTypedef = Head
spot chain KVolatile = Head
spot chain KConst = Head
spot chain KRestrict = Head
spot chain KArray = Contents
spot ByValue KStruct = Members
spot ByValue KUnion = Members
spot Declarator KPointer = Head
spot Declarator KFunction = Head
spot _ _ = Nowhere

-- the numbers at that spot of a record
abbrev pub numbers_at : Spot → List ℕ → List ℕ
numbers_at Nowhere b = []
numbers_at Head b = field b ∷ []
numbers_at Contents b = u16_at (behind_head b) 0 ∷ []
numbers_at Members b = member_types b

-- the numbers in a record, if its kind is known
abbrev pub numbers_of_kind : Chain → List ℕ → Option Kind → List ℕ
numbers_of_kind chain b None = []
numbers_of_kind chain b (Some k) = numbers_at (spot chain k) b

-- the numbers of a record
abbrev pub numbers : Chain → List ℕ → List ℕ
numbers chain b = numbers_of_kind chain b (kind b)

-- for each number of a record, the own type that it leads to, or none
abbrev pub record_places : Chain → Bool → ℕ → Result Piece Fault → List (Option ℕ)
record_places chain child count (Ok piece) = map (own_index child count) (numbers chain piece.bytes)
record_places chain child count (Err f) = []

-- the same for each record of a section
abbrev pub section_places : Chain → Bool → List (Result Piece Fault) → Places
section_places chain child pieces = map (record_places chain child (length pieces)) pieces
