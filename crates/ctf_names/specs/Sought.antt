-- What a look-up searches for among types. Source: ours.
use Rattle.std.specs.Prelude.{Bool}
use Rattle.ctf_model.specs.names.Lookups.{is_called, is_pointer_to}
use Rattle.ctf_model.specs.format.Term.{Term}
use Rattle.ctf_names.specs.Sorts.{tag_in}
use Rattle.ctf_names.specs.declared.sought.Sought.{Sought}
use Rattle.ctf_names.specs.declared.sought.Sought.TheVariants.{Named, PointerTo}

abbrev pub passes : Sought → Term → Bool
passes (Named sort name) = is_called (record { tag = tag_in sort; name = name.now })
passes (PointerTo t) = is_pointer_to t.0
