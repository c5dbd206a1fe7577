-- The keyword before the name of a type. Source: ours.
use Rattle.std.specs.Prelude.{Option, Some, None}
use Rattle.ctf_model.specs.format.Shown.{Shape}
use Rattle.ctf_model.specs.format.Term.{Tag}
use Rattle.ctf_model.specs.format.Term as term
use Rattle.ctf_model.specs.declared.kinds.Kind.{Kind}
use Rattle.ctf_model.specs.declared.kinds.Kind.TheVariants.{KStruct, KUnion, KEnum, KForward}
use Rattle.ctf_names.specs.declared.sorts.Sort.{Sort}
use Rattle.ctf_names.specs.declared.sorts.Sort.TheVariants as sort

abbrev pub tag_in : Sort → Option Tag
tag_in sort.Plain = None
tag_in sort.Struct = Some term.struct_tag
tag_in sort.Union = Some term.union_tag
tag_in sort.Enum = Some term.enum_tag

abbrev pub tag_by : Kind → Option Tag → Option Tag
tag_by KStruct tag = Some term.struct_tag
tag_by KUnion tag = Some term.union_tag
tag_by KEnum tag = Some term.enum_tag
tag_by KForward tag = tag
tag_by _ tag = None

abbrev pub tag_shown : Shape → Option Tag
tag_shown x = tag_by x.kind x.declares
