-- The visit of a type: the members of the struct or union that it resolves to, each followed by its
-- own members. Source: libctf(3LIB), ctf_type_visit; that a missing type or one without members
-- does not end a visit, and the limit of offsets, is ours.
use Rattle.std.specs.Prelude.{ℕ, zero, suc, ◌+◌, ◌-◌, ◌^◌, min, List, [], ◌∷◌, flat_map, Result, Ok, Err}
use Rattle.ctf_model.specs.declared.faults.Fault.{Fault}
use Rattle.ctf_model.specs.format.Term.{Member}
use Rattle.ctf_model.specs.opened.Questions.{members_answered, on_shape, resolved_answered, shape_of}
use Rattle.ctf_model.specs.spaces.Space.{Space, space_type}
use Rattle.ctf_model.specs.values.Values.{most_values}

-- a member in a visit: its struct or union, its name, its type, its offset in bits from the start
-- of the outermost type, and its nesting depth
pub record Visited : Type 0 where
  pub holder : ℕ
  pub name : List ℕ
  pub tnum : ℕ
  pub offset : ℕ
  pub depth : ℕ

-- the outermost type itself
abbrev pub outermost : ℕ → Visited
outermost t = record { holder = t; name = []; tnum = t; offset = 0; depth = 0 }

-- ---- a struct or union

abbrev pub or_zero : Result ℕ Fault → ℕ
or_zero (Ok n) = n
or_zero (Err fault) = 0

-- the type that a type resolves to; 0 if none
abbrev pub stands_for : Space → ℕ → ℕ
stands_for s t = or_zero (resolved_answered s t)

abbrev pub or_nothing : Result (List Member) Fault → List Member
or_nothing (Ok members) = members
or_nothing (Err fault) = []

-- the members of a struct or union; none for other types
abbrev pub members_of : Space → ℕ → List Member
members_of s n = or_nothing (on_shape members_answered (shape_of (space_type s n)))

-- ---- nested members

-- the offset of a member in a type at `offset`, capped at 64 bits
abbrev pub offset_within : ℕ → Member → ℕ
offset_within offset m = min (offset + m.offset) (2 ^ 64 - 1)

-- a member of a type at this offset and depth
abbrev pub visit_of : ℕ → ℕ → ℕ → Member → Visited
visit_of holder offset depth m =
    record {
      holder = holder;
      name = m.name;
      tnum = m.tnum;
      offset = offset_within offset m;
      depth = depth + 1;
    }

-- the member, followed by its own members
abbrev pub placed_with : (ℕ → ℕ → ℕ → List Visited) → ℕ → ℕ → ℕ → Member → List Visited
placed_with inside holder offset depth m =
    visit_of holder offset depth m ∷ inside (offset_within offset m) (depth + 1) m.tnum

-- all members in a type at this offset and depth, following at most `k` levels
unfoldable pub inside : ℕ → Space → ℕ → ℕ → ℕ → List Visited
inside zero s offset depth t = []
inside (suc k) s offset depth t =
    flat_map (placed_with (inside k s) (stands_for s t) offset depth)
    (members_of s (stands_for s t))

-- a type and its members at all levels
abbrev pub visits_of : Space → ℕ → List Visited
visits_of s t = outermost t ∷ inside most_values s 0 0 t
