-- The work for the sizes and alignments of all types: one step for each type, and one for each
-- member that is read. Source: ours.
use Rattle.std.specs.Prelude.{ℕ, ◌+◌, List, [], length, sum_by, Option, Some, None}
use Rattle.ctf_model.specs.format.Dictionary.{Dictionary}
use Rattle.ctf_model.specs.spaces.Space.{Space}
use Rattle.ctf_model.specs.format.Term.{Term, Body}
use Rattle.ctf_model.specs.format.Term as term
use Rattle.ctf_layout.specs.Bases.{members_read}

-- for the types of a dictionary
abbrev pub types_work : List Term → ℕ
types_work types = sum_by (λ x. 1 + members_read x.body) types

-- the number of a type's members
abbrev pub member_count : Body → ℕ
member_count (term.struct said members) = length members
member_count (term.union said members) = length members
member_count _ = 0

-- the number of types and of their members
abbrev pub types_and_members : List Term → ℕ
types_and_members types = sum_by (λ x. 1 + member_count x.body) types

abbrev pub types_in : Option Dictionary → List Term
types_in None = []
types_in (Some d) = d.terms

-- for the types of a space, its parent's first
abbrev pub space_work : Space → ℕ
space_work s = types_work (types_in s.parent) + types_work s.own.terms

abbrev pub space_size : Space → ℕ
space_size s = types_and_members (types_in s.parent) + types_and_members s.own.terms
