-- A dictionary as questions see it: with its imported parent, and the data model of its program.
-- Source: ctf(5), "The Header" (the parent); libctf(3LIB), ctf_import and ctf_setmodel.
use Rattle.std.specs.Prelude.{ℕ, Option, Result}
use Rattle.ctf_model.specs.format.Dictionary.{Dictionary}
use Rattle.ctf_model.specs.format.Term.{Term}
use Rattle.ctf_model.specs.spaces.TypeNumbers.{type_at}
use Rattle.ctf_model.specs.declared.data_model.DataModel.{DataModel}
use Rattle.ctf_model.specs.declared.data_model.DataModel.TheVariants.{Lp64, Ilp32}
use Rattle.ctf_model.specs.declared.faults.Fault.{Fault}

pub record Space : Type 0 where
  pub own : Dictionary
  pub parent : Option Dictionary
  pub model : DataModel

-- the size of a pointer in bytes
abbrev pub pointer_size : DataModel → ℕ
pointer_size Lp64 = 8
pointer_size Ilp32 = 4

-- the type with number `n` in a space
abbrev pub space_type : Space → ℕ → Result Term Fault
space_type s n = type_at s.own s.parent n
