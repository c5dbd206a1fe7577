-- The type that a number names. Source: ctf(5); ctf_lookup_by_id of libctf.
use Rattle.std.specs.Prelude.{ℕ, Option, Some, None, Result, Ok, Err, slice_get}
use Rattle.ctf_model.specs.format.Dictionary.{Dictionary}
use Rattle.ctf_model.specs.format.Term.{Term}
use Rattle.ctf_model.specs.spaces.TypePlaces.{place}
use Rattle.ctf_model.specs.declared.faults.Fault.{Fault}
use Rattle.ctf_model.specs.declared.faults.TheConstants.Fault.{NO_TYPE, NO_PARENT}
use Rattle.ctf_model.specs.declared.numbers.Place.{Place}
use Rattle.ctf_model.specs.declared.numbers.Place.TheVariants.{Nowhere, Own, Parents}

-- no type has the number
abbrev pub no_type : Fault
no_type = record { code = NO_TYPE; place = 0 }

-- the number is a parent's, and no parent was imported
abbrev pub no_parent : Fault
no_parent = record { code = NO_PARENT; place = 0 }

abbrev pub or_no_type : Option Term → Result Term Fault
or_no_type None = Err no_type
or_no_type (Some x) = Ok x

-- the type at a place of a dictionary with its imported parent
abbrev pub type_in : Dictionary → Option Dictionary → Place → Result Term Fault
type_in d parent Nowhere = Err no_type
type_in d parent (Own i) = or_no_type (slice_get d.terms i)
type_in d None (Parents i) = Err no_parent
type_in d (Some parent) (Parents i) = or_no_type (slice_get parent.terms i)

-- the type that a number names
abbrev pub type_at : Dictionary → Option Dictionary → ℕ → Result Term Fault
type_at d parent n = type_in d parent (place d.child n)
