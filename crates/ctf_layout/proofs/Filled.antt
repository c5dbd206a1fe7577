-- Tables, empty and filled.
use Rattle.std.proofs.Common.{◌≡◌, ℕ, suc, ◌+◌, ◌≤◌, ◌<◌, List, [], ◌∷◌, length, Some, None, refl, sym, arith}
use Rattle.std.specs.Prelude.{IsSome}
use Rattle.std.proofs.lemmas.List.Sums.{sum_by-cons}
use Rattle.ctf_model.specs.spaces.Space.{Space}
use Rattle.ctf_model.specs.format.Term.{Body, Term}
use Rattle.ctf_model.specs.format.Term as term
use Rattle.ctf_layout.specs.Bases.{members_read}
use Rattle.ctf_layout.specs.Work.{member_count, types_and_members, types_work}
use Rattle.ctf_layout.specs.Table.{Table, Knows, entry, debt, work_left}

-- an empty table has no wrong entry
pub knows_nothing : (s : Space) (table : Table) → ((j : ℕ) → entry table j ≡ None) → Knows s table
knows_nothing s table h = record { right = λ j e is. let none : entry table j ≡ None = h j in absurd cc }

all_known : (o : _) (x : Term) → IsSome o → debt x.body o ≡ 0
all_known None x h = absurd cc
all_known (Some e) x h = refl

-- a full table leaves no work
pub none_left : (types : List Term) (table : Table) → ((j : ℕ) → j < length types → IsSome (entry table j)) → work_left types table ≡ 0
unfolding work_left
none_left [] table h = refl
none_left (x ∷ types) [] h = refl
none_left (x ∷ types) (o ∷ table) h = rw (all_known o x (h 0 (omega arith)), none_left types table (λ j lt. h (suc j) (omega arith))) refl

-- an empty table leaves all work
pub all_left : (types : List Term) (table : Table) → length table ≡ length types → ((j : ℕ) → entry table j ≡ None) → work_left types table ≡ types_work types
unfolding work_left
all_left [] table e h = refl
all_left (x ∷ types) [] e h = absurd (omega arith)
all_left (x ∷ types) (o ∷ table) e h =
    let o_is : o ≡ None = h 0 in
    rw (o_is, all_left types table (omega arith) (λ j. h (suc j))) (sym (sum_by-cons (λ (y : Term). 1 + members_read y.body) x types))

-- ---- bounds on the work

reads_few : (body : Body) → members_read body ≤ member_count body
reads_few (term.struct said ms) = omega arith
reads_few (term.union said ms) = omega arith
reads_few (term.integer x) = omega arith
reads_few (term.float x) = omega arith
reads_few (term.pointer t) = omega arith
reads_few (term.array e) = omega arith
reads_few (term.function r ts) = omega arith
reads_few (term.enum said xs) = omega arith
reads_few (term.forward t) = omega arith
reads_few (term.typedef t) = omega arith
reads_few (term.volatile t) = omega arith
reads_few (term.const t) = omega arith
reads_few (term.restrict t) = omega arith
reads_few term.unknown = omega arith

-- the work is at most the number of types and members
pub few_steps : (types : List Term) → types_work types ≤ types_and_members types
few_steps [] = omega arith
few_steps (x ∷ types) =
    let few = reads_few x.body in
    let rest = few_steps types in
    let work : types_work (x ∷ types) ≡ 1 + members_read x.body + types_work types = sum_by-cons (λ (y : Term). 1 + members_read y.body) x types in
    let all : types_and_members (x ∷ types) ≡ 1 + member_count x.body + types_and_members types = sum_by-cons (λ (y : Term). 1 + member_count y.body) x types in
    omega arith
