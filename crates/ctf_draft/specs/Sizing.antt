-- What a type's size and resolved type are computed from. Source: ours.
use Rattle.std.specs.Prelude.{ℕ, ◌*◌, min, length, Option, Some, None, Result, Ok, Err}
use Rattle.ctf_model.specs.rules.Chains.{by_value}
use Rattle.ctf_model.specs.figures.Figures.{enum_size, incomplete, times}
use Rattle.ctf_model.specs.spaces.Space.{pointer_size}
use Rattle.ctf_model.specs.format.Term.{Body, Term}
use Rattle.ctf_model.specs.format.Term as term
use Rattle.ctf_model.specs.declared.data_model.DataModel.{DataModel}
use Rattle.ctf_model.specs.declared.faults.Fault.{Fault}
use Rattle.ctf_draft.specs.declared.sizing.Sizing.{Sizing}
use Rattle.ctf_draft.specs.declared.sizing.Sizing.TheVariants.{Itself, One, Row}

-- the size, given those of other types
abbrev pub size_from : (ℕ → Result ℕ Fault) → Sizing → Result ℕ Fault
size_from f (Itself size) = size
size_from f (One t) = f t.0
size_from f (Row count t) = times count (f t.0)

-- the type that a typedef or qualifier stands for
abbrev pub alias_target : Body → Option ℕ
alias_target (term.typedef t) = Some t
alias_target (term.volatile t) = Some t
alias_target (term.const t) = Some t
alias_target (term.restrict t) = Some t
alias_target _ = None

-- the width of an integer or a float
abbrev pub width : Body → Option ℕ
width (term.integer scalar) = Some scalar.bits
width (term.float scalar) = Some scalar.bits
width _ = None

-- the alignment of a type, apart from the types that it is computed from
abbrev pub own_align : DataModel → Body → Result ℕ Fault
own_align model (term.integer scalar) = Ok scalar.size
own_align model (term.float scalar) = Ok scalar.size
own_align model (term.pointer t) = Ok (pointer_size model)
own_align model (term.function returned arguments) = Ok (pointer_size model)
own_align model (term.enum said enumerators) = Ok (enum_size said)
own_align model (term.forward tag) = Err incomplete
own_align model term.unknown = Err incomplete
own_align model _ = Ok 0

-- the number of types by value that the alignment is computed from: of a struct only the first
abbrev pub aligned_by : Body → ℕ
aligned_by (term.struct said members) = min 1 (length members)
aligned_by body = length (by_value body)

abbrev pub width_found : Result Term Fault → Result (Option ℕ) Fault
width_found (Err f) = Err f
width_found (Ok x) = Ok (width x.body)

-- the width in bits: all bits of the size if no width is stated
abbrev pub filled_bits : ℕ → Option ℕ → ℕ
filled_bits size None = 8 * size
filled_bits size (Some bits) = bits
