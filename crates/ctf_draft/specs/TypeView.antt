-- What the types of a draft stand for.
use Rattle.std.specs.Prelude.{ℕ, List, map}
use Rattle.ctf_model.specs.format.Term as term
use Rattle.ctf_model.specs.format.Term.{Scalar, Term}
use Rattle.ctf_model.specs.declared.numbers.TypeNum.{TypeNum}
use Rattle.ctf_records.specs.RecordView.{tag_of}
use Rattle.ctf_views.specs.declared.parts.Encoding.{Encoding}
use Rattle.ctf_draft.specs.declared.types.AggregateKind.{AggregateKind}
use Rattle.ctf_draft.specs.declared.types.AggregateKind.TheVariants.{Struct, Union}
use Rattle.ctf_draft.specs.declared.types.Body.{Body}
use Rattle.ctf_draft.specs.declared.types.Body.TheVariants as owned
use Rattle.ctf_draft.specs.declared.types.DraftType.{DraftType}
use Rattle.ctf_draft.specs.declared.types.Enumerator.{Enumerator}
use Rattle.ctf_draft.specs.declared.types.Member.{Member}
use Rattle.ctf_draft.specs.declared.types.ReferenceKind.{ReferenceKind}
use Rattle.ctf_draft.specs.declared.types.ReferenceKind.TheVariants.{Pointer, Typedef, Volatile, Const, Restrict}
use Rattle.ctf_draft.specs.declared.types.ScalarKind.{ScalarKind}
use Rattle.ctf_draft.specs.declared.types.ScalarKind.TheVariants.{Integer, Float}

abbrev pub number_of : TypeNum → ℕ
number_of t = t.0

abbrev pub member_of : Member → term.Member
member_of m = record { name = m.name; tnum = m.tnum.0; offset = m.offset }

abbrev pub enumerator_of : Enumerator → term.Enumerator
enumerator_of e = record { name = e.name; value = e.value }

-- an integer or float with this size and encoding
abbrev pub scalar_of : ℕ → Encoding → Scalar
scalar_of size e = record { size = size; encoding = e.encoding; offset = e.offset; bits = e.bits }

abbrev pub scalar_body : ScalarKind → Scalar → term.Body
scalar_body Integer s = term.integer s
scalar_body Float s = term.float s

abbrev pub reference_body : ReferenceKind → ℕ → term.Body
reference_body Pointer t = term.pointer t
reference_body Typedef t = term.typedef t
reference_body Volatile t = term.volatile t
reference_body Const t = term.const t
reference_body Restrict t = term.restrict t

abbrev pub aggregate_body : AggregateKind → ℕ → List term.Member → term.Body
aggregate_body Struct size members = term.struct size members
aggregate_body Union size members = term.union size members

abbrev pub body_of : Body → term.Body
body_of owned.Unknown = term.unknown
body_of (owned.Scalar kind size e) = scalar_body kind (scalar_of size e)
body_of (owned.Reference kind t) = reference_body kind t.0
body_of (owned.Array a) =
    term.array (record { size = 0; contents = a.contents.0; index = a.index.0; count = a.count })
body_of (owned.Function returned arguments) =
    term.function returned.0 (map number_of arguments.items)
body_of (owned.Aggregate kind size members) = aggregate_body kind size (map member_of members.items)
body_of (owned.Enum size enumerators) = term.enum size (map enumerator_of enumerators.items)
body_of (owned.Forward tag) = term.forward (tag_of tag)

abbrev pub type_of : DraftType → Term
type_of x = record { name = x.name; root = x.root; body = body_of x.body }
