-- The structure of a type's name as the code computes it. Source: ours.
use Rattle.std.specs.Option.{option_map}
use Rattle.ctf_names.specs.Inside as inside
use Rattle.ctf_names.specs.declared.inside.Inside.{Inside}
use Rattle.ctf_names.specs.declared.inside.Inside.TheVariants as found
use Rattle.ctf_records.specs.RecordView.{tag_of}

abbrev pub inside_view : Inside → inside.Inside
inside_view (found.Name tag) = inside.a_name (option_map tag_of tag)
inside_view (found.Layer layer t) = inside.a_layer layer t.0
