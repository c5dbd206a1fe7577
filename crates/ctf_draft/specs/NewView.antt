-- The new types that are passed to a draft.
use Rattle.std.specs.Prelude.{ℕ, map}
use Rattle.ctf_model.specs.drafts.NewTypes as new
use Rattle.ctf_model.specs.format.Term.{Scalar}
use Rattle.ctf_records.specs.RecordView.{tag_of}
use Rattle.ctf_views.specs.PartsView.{array_info}
use Rattle.ctf_draft.specs.TypeView.{number_of, scalar_of}
use Rattle.ctf_draft.specs.declared.new_types.NewBody.{NewBody}
use Rattle.ctf_draft.specs.declared.new_types.NewBody.TheVariants as handed
use Rattle.ctf_draft.specs.declared.new_types.NewType.{NewType}
use Rattle.ctf_draft.specs.declared.types.AggregateKind.{AggregateKind}
use Rattle.ctf_draft.specs.declared.types.AggregateKind.TheVariants.{Struct, Union}
use Rattle.ctf_draft.specs.declared.types.ReferenceKind.{ReferenceKind}
use Rattle.ctf_draft.specs.declared.types.ReferenceKind.TheVariants.{Pointer, Typedef, Volatile, Const, Restrict}
use Rattle.ctf_draft.specs.declared.types.ScalarKind.{ScalarKind}
use Rattle.ctf_draft.specs.declared.types.ScalarKind.TheVariants.{Integer, Float}

abbrev pub new_scalar : ScalarKind → Scalar → new.NewBody
new_scalar Integer s = new.integer s
new_scalar Float s = new.float s

abbrev pub new_reference : ReferenceKind → ℕ → new.NewBody
new_reference Pointer t = new.pointer t
new_reference Typedef t = new.typedef t
new_reference Volatile t = new.volatile t
new_reference Const t = new.const t
new_reference Restrict t = new.restrict t

abbrev pub new_aggregate : AggregateKind → ℕ → new.NewBody
new_aggregate Struct size = new.struct size
new_aggregate Union size = new.union size

abbrev pub new_body_of : NewBody → new.NewBody
new_body_of handed.Unknown = new.unknown
new_body_of (handed.Scalar kind size e) = new_scalar kind (scalar_of size e)
new_body_of (handed.Reference kind t) = new_reference kind t.0
new_body_of (handed.Array a) = new.array (array_info a)
new_body_of (handed.Function returned arguments) =
    new.function returned.0 (map number_of arguments.now)
new_body_of (handed.Aggregate kind size) = new_aggregate kind size
new_body_of (handed.Enum size) = new.enum size
new_body_of (handed.Forward tag) = new.forward (tag_of tag)

abbrev pub new_of : NewType → new.NewType
new_of x = record { name = x.name; root = x.root; body = new_body_of x.body }
