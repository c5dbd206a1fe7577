-- The additions to a draft that a request states. Source: libctf(3LIB), ctf_add_type and its kin;
-- the form of answers is ours.
use Rattle.std.specs.Prelude.{ℕ, map, Result, codes}
use Rattle.ctf_protocol.specs.answers.Answers.{Answer}
use Rattle.ctf_protocol.specs.sessions.Opened.{under, unsaid}
use Rattle.ctf_model.specs.opened.Open.{Open}
use Rattle.ctf_model.specs.opened.Steps.{Stepped, enumerator_added, label_added, member_added, type_added}
use Rattle.ctf_model.specs.drafts.NewTypes.{NewBody}
use Rattle.ctf_model.specs.drafts.NewTypes as new
use Rattle.ctf_model.specs.format.Shown.{ArrayParts}
use Rattle.ctf_model.specs.format.Term.{Scalar, Tag, struct_tag, union_tag, enum_tag}
use Rattle.ctf_protocol.specs.declared.additions.Addition.{Addition}
use Rattle.ctf_protocol.specs.declared.additions.Addition.TheVariants as add
use Rattle.ctf_protocol.specs.declared.additions.Declared.{Declared}
use Rattle.ctf_protocol.specs.declared.additions.Declared.TheVariants as declared
use Rattle.ctf_protocol.specs.declared.additions.NewArray.{NewArray}
use Rattle.ctf_protocol.specs.declared.additions.NewKind.{NewKind}
use Rattle.ctf_protocol.specs.declared.additions.NewKind.TheVariants as kind
use Rattle.ctf_protocol.specs.declared.additions.NewScalar.{NewScalar}
use Rattle.ctf_model.specs.declared.faults.Fault.{Fault}

-- ---- types

abbrev pub tag_declared : Declared → Tag
tag_declared declared.Struct = struct_tag
tag_declared declared.Union = union_tag
tag_declared declared.Enum = enum_tag

abbrev pub scalar_of : NewScalar → Scalar
scalar_of s = record { size = s.size; encoding = s.encoding; offset = s.offset; bits = s.bits }

abbrev pub array_of : NewArray → ArrayParts
array_of a = record { contents = a.contents.0; index = a.index.0; count = a.count }

abbrev pub asked_body : NewKind → NewBody
asked_body kind.Unknown = new.unknown
asked_body (kind.Integer s) = new.integer (scalar_of s)
asked_body (kind.Float s) = new.float (scalar_of s)
asked_body (kind.Pointer t) = new.pointer t.0
asked_body (kind.Array a) = new.array (array_of a)
asked_body (kind.Function returned args) = new.function returned.0 (map (λ t. t.0) args)
asked_body (kind.Struct size) = new.struct size
asked_body (kind.Union size) = new.union size
asked_body (kind.Enum size) = new.enum size
asked_body (kind.Forward tag) = new.forward (tag_declared tag)
asked_body (kind.Typedef t) = new.typedef t.0
asked_body (kind.Volatile t) = new.volatile t.0
asked_body (kind.Const t) = new.const t.0
asked_body (kind.Restrict t) = new.restrict t.0

-- ---- additions

-- makes an addition to an open dictionary
abbrev pub apply_addition : Addition → Open → Result Stepped Fault
apply_addition (add.Type name root kind) =
    type_added (record { name = name; root = root; body = asked_body kind })
apply_addition (add.Member t name tnum offset) = member_added t.0 name tnum.0 offset
apply_addition (add.Enumerator t name value) =
    enumerator_added t.0 (record { name = name; value = value })
apply_addition (add.Label name last) = label_added (record { name = name; last = last })

-- answers the number of a type, or an offset
abbrev pub addition_answered : Addition → ℕ → Answer
addition_answered (add.Type name root kind) = under (codes "t")
addition_answered (add.Member t name tnum offset) = under (codes "offset")
addition_answered (add.Enumerator t name value) = unsaid
addition_answered (add.Label name last) = unsaid
