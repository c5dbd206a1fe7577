-- One step along typedefs and qualifiers. Source: ours.
use Rattle.std.specs.Prelude.{ℕ, Option, None, Result, Ok, Err}
use Rattle.ctf_model.specs.format.Dictionary.{Dictionary}
use Rattle.ctf_model.specs.figures.Figures.{comes_to, most_numbers, resolving}
use Rattle.ctf_model.specs.format.Shown.{Shape}
use Rattle.ctf_model.specs.spaces.TypePlaces.{place}
use Rattle.ctf_model.specs.declared.faults.Fault.{Fault}
use Rattle.ctf_model.specs.declared.kinds.Kind.{Kind}
use Rattle.ctf_model.specs.declared.kinds.Kind.TheVariants.{KTypedef, KVolatile, KConst, KRestrict}
use Rattle.ctf_model.specs.declared.numbers.Place.{Place}
use Rattle.ctf_model.specs.declared.numbers.Place.TheVariants.{Parents}

abbrev pub renamed_by : Kind → Option ℕ → Option ℕ
renamed_by KTypedef t = t
renamed_by KVolatile t = t
renamed_by KConst t = t
renamed_by KRestrict t = t
renamed_by _ t = None

-- the type that a typedef or qualifier stands for
abbrev pub alias_target : Shape → Option ℕ
alias_target x = renamed_by x.kind x.reference

-- follows own types only; a parent's number is left as it is
abbrev pub follow_own : Dictionary → ℕ → Result ℕ Fault
follow_own d n = comes_to resolving (λ t. Ok t) d most_numbers n

-- a parent's number resolved in the parent
abbrev pub at_parents : (ℕ → Result ℕ Fault) → ℕ → Place → Result ℕ Fault
at_parents parents n (Parents i) = parents n
at_parents parents n _ = Ok n

abbrev pub onward : (ℕ → Result ℕ Fault) → Dictionary → Result ℕ Fault → Result ℕ Fault
onward parents d (Err f) = Err f
onward parents d (Ok n) = at_parents parents n (place d.child n)
