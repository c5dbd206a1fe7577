-- The rule by which a type's values are formatted, from its record. Source: ours.
use Rattle.std.specs.Prelude.{ℕ, ◌*◌, List, Option, Some, None}
use Rattle.ctf_model.specs.figures.Figures.{enum_size, incomplete, size as size_of}
use Rattle.ctf_model.specs.values.Pieces.{Pieces, ends}
use Rattle.ctf_model.specs.format.Shown.{ArrayParts, EncodingParts, Shape, Shown}
use Rattle.ctf_model.specs.format.Shown as behind
use Rattle.ctf_model.specs.spaces.Space.{Space, pointer_size}
use Rattle.ctf_model.specs.format.Term.{Enumerator, Member}
use Rattle.ctf_model.specs.values.Values.{Shows, array_shown, enum_shown, float_shown, integer_shown, members_shown, raw_shown}
use Rattle.ctf_model.specs.declared.kinds.Kind.{Kind}
use Rattle.ctf_model.specs.declared.kinds.Kind.TheVariants.{KUnknown, KInteger, KFloat, KPointer, KArray, KFunction, KStruct, KUnion, KEnum, KForward, KTypedef, KVolatile, KConst, KRestrict}

pub data ShowRule : Type 0 where
  integer : EncodingParts → ShowRule
  float : EncodingParts → ShowRule
  pointer : ShowRule
  -- an enum, with its stated size in bytes
  enum : Option ℕ → List Enumerator → ShowRule
  -- a struct or union
  members : List Member → ShowRule
  array : ArrayParts → ShowRule
  -- as another type
  like : ℕ → ShowRule
  -- values of this type cannot be formatted
  not_shown : ShowRule

abbrev pub of_reference : Option ℕ → ShowRule
of_reference None = not_shown
of_reference (Some t) = like t

-- the rule of a type with nothing after its head
abbrev pub of_head : Kind → Option ℕ → ShowRule
of_head KPointer reference = pointer
of_head KTypedef reference = of_reference reference
of_head KVolatile reference = of_reference reference
of_head KConst reference = of_reference reference
of_head KRestrict reference = of_reference reference
of_head KUnknown reference = not_shown
of_head KInteger reference = not_shown
of_head KFloat reference = not_shown
of_head KArray reference = not_shown
of_head KFunction reference = not_shown
of_head KStruct reference = not_shown
of_head KUnion reference = not_shown
of_head KEnum reference = not_shown
of_head KForward reference = not_shown

abbrev pub of_encoding : Kind → EncodingParts → ShowRule
of_encoding KFloat parts = float parts
of_encoding kind parts = integer parts

-- the size of an enum; that of int if it states none
abbrev pub stated_size : Option ℕ → ℕ
stated_size None = 4
stated_size (Some size) = enum_size size

abbrev pub rule_after_head : Shape → Shown → ShowRule
rule_after_head x (behind.members ms) = members ms
rule_after_head x (behind.enumerators es) = enum x.size es
rule_after_head x (behind.arguments ts) = not_shown
rule_after_head x (behind.array parts) = array parts
rule_after_head x (behind.encoding parts) = of_encoding x.kind parts
rule_after_head x (behind.tag t) = not_shown
rule_after_head x behind.nothing = of_head x.kind x.reference

-- the rule of a type with this shape
abbrev pub rule_in : Shape → ShowRule
rule_in x = rule_after_head x x.behind

-- the text of a value at bit `p` by this rule, given a function for nested values
abbrev pub text_by_rule : Space → List ℕ → Shows → ℕ → ShowRule → Pieces
text_by_rule s memory show p (integer parts) = integer_shown memory p parts
text_by_rule s memory show p (float parts) = float_shown memory p parts
text_by_rule s memory show p pointer = raw_shown memory p (8 * pointer_size s.model)
text_by_rule s memory show p (enum said es) = enum_shown memory p (stated_size said) es
text_by_rule s memory show p (members ms) = members_shown show p ms
text_by_rule s memory show p (array parts) =
    array_shown show p parts.contents parts.count (size_of s parts.contents)
text_by_rule s memory show p (like t) = show t p
text_by_rule s memory show p not_shown = ends incomplete
