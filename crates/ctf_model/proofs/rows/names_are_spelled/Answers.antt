use Rattle.std.proofs.Common.{refl}
use Rattle.std.specs.Fmt.{digits}
use Rattle.ctf_model.specs.names.TypeNames.{declaration_within, declared}
use Rattle.ctf_model.proofs.rows.names_are_spelled.Goals as goal

pub returns : goal.returns
unfolding declaration_within declared digits
returns c = record { integer = refl; array = refl; pointer_to_array = refl; pointer = refl; array_of_pointers = refl; const_pointer = refl; pointer_to_const_pointer = refl; volatile = refl; const_volatile = refl; struct = refl; pointer_to_struct = refl; function = refl; pointer_to_function = refl; const_array = refl; pointer_to_const_array = refl; const_pointer_to_function = refl; nothing = refl; past = refl; volatile_pointer = refl; restrict_pointer = refl; array_of_restrict_pointers = refl; array_of_arrays = refl; returns_pointer = refl; returns_function = refl; array_of_functions = refl; forward_struct = refl; forward_union = refl; forward_enum = refl; union = refl; enum = refl; unknown = refl; typedef = refl; const_typedef = refl; const_nothing = refl; pointer_to_nothing = refl; pointer_to_none = refl; const_none = refl; pointer_to_const_function = refl; volatile_pointer_to_const = refl; pointer_to_forward = refl }
