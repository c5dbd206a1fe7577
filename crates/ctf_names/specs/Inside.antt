-- The structure of a type's name, one layer at a time. Source: ours.
use Rattle.std.specs.Prelude.{ℕ, List, Option, Some, None, Result}
use Rattle.ctf_model.specs.format.Shown.{ArrayParts, Shape, array_in}
use Rattle.ctf_model.specs.format.Term.{Tag, struct_tag, union_tag, enum_tag}
use Rattle.ctf_model.specs.names.TypeNames.{Declaration, around, bare_name, or_anon, tagged_name}
use Rattle.ctf_model.specs.declared.faults.Fault.{Fault}
use Rattle.ctf_model.specs.declared.kinds.Kind.{Kind}
use Rattle.ctf_model.specs.declared.kinds.Kind.TheVariants.{KUnknown, KInteger, KFloat, KPointer, KArray, KFunction, KStruct, KUnion, KEnum, KForward, KTypedef, KVolatile, KConst, KRestrict}
use Rattle.ctf_model.specs.declared.layers.Layer.{Layer}
use Rattle.ctf_model.specs.declared.layers.Layer.TheVariants.{Pointer, Array, Function, Qualified}
use Rattle.ctf_model.specs.declared.layers.Qualifier.TheVariants.{Volatile, Const, Restrict}

-- a name after the keyword of its tag, if any, or a layer around the type with a number
pub data Inside : Type 0 where
  a_name : Option Tag → Inside
  a_layer : Layer → ℕ → Inside

abbrev pub layer_round : Layer → Option ℕ → Inside
layer_round layer None = a_name None
layer_round layer (Some t) = a_layer layer t

abbrev pub of_array : Option ArrayParts → Inside
of_array None = a_name None
of_array (Some parts) = a_layer (Array parts.count) parts.contents

abbrev pub inside_by : Kind → Shape → Inside
inside_by KUnknown x = a_name None
inside_by KInteger x = a_name None
inside_by KFloat x = a_name None
inside_by KTypedef x = a_name None
inside_by KStruct x = a_name (Some struct_tag)
inside_by KUnion x = a_name (Some union_tag)
inside_by KEnum x = a_name (Some enum_tag)
inside_by KForward x = a_name x.declares
inside_by KPointer x = layer_round Pointer x.reference
inside_by KArray x = of_array (array_in x.behind)
inside_by KFunction x = layer_round Function x.reference
inside_by KVolatile x = layer_round (Qualified Volatile) x.reference
inside_by KConst x = layer_round (Qualified Const) x.reference
inside_by KRestrict x = layer_round (Qualified Restrict) x.reference

-- the outermost part of a type's name
abbrev pub inside : Shape → Inside
inside x = inside_by x.kind x

abbrev pub name_by : Option Tag → List ℕ → Result Declaration Fault
name_by None name = bare_name (or_anon name)
name_by (Some tag) name = tagged_name tag name

-- the declaration of a type, given those of others
abbrev pub declaration_from : (ℕ → Result Declaration Fault) → List ℕ → Inside
    → Result Declaration Fault
declaration_from others name (a_name tag) = name_by tag name
declaration_from others name (a_layer layer t) = around layer (others t)
