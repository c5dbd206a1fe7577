-- The words for kinds, tags and classes of symbols. Source: ours, after the names in sys/ctf.h.
use Rattle.std.specs.Prelude.{ℕ, List, codes}
use Rattle.ctf_model.specs.format.Term.{Tag}
use Rattle.ctf_model.specs.format.Term as term
use Rattle.ctf_model.specs.declared.kinds.Kind.{Kind}
use Rattle.ctf_model.specs.declared.kinds.Kind.TheVariants.{KUnknown, KInteger, KFloat, KPointer, KArray, KFunction, KStruct, KUnion, KEnum, KForward, KTypedef, KVolatile, KConst, KRestrict}
use Rattle.ctf_model.specs.declared.symbols.SymbolClass.{SymbolClass}
use Rattle.ctf_model.specs.declared.symbols.SymbolClass.TheVariants.{Object, Function}

abbrev pub name_of_kind : Kind → List ℕ
name_of_kind KUnknown = codes "unknown"
name_of_kind KInteger = codes "integer"
name_of_kind KFloat = codes "float"
name_of_kind KPointer = codes "pointer"
name_of_kind KArray = codes "array"
name_of_kind KFunction = codes "function"
name_of_kind KStruct = codes "struct"
name_of_kind KUnion = codes "union"
name_of_kind KEnum = codes "enum"
name_of_kind KForward = codes "forward"
name_of_kind KTypedef = codes "typedef"
name_of_kind KVolatile = codes "volatile"
name_of_kind KConst = codes "const"
name_of_kind KRestrict = codes "restrict"

abbrev pub name_of_tag : Tag → List ℕ
name_of_tag term.struct_tag = codes "struct"
name_of_tag term.union_tag = codes "union"
name_of_tag term.enum_tag = codes "enum"

abbrev pub name_of_class : SymbolClass → List ℕ
name_of_class Object = codes "object"
name_of_class Function = codes "function"
