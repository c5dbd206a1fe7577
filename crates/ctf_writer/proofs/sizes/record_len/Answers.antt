use Rattle.std.proofs.Common.{ℕ, ap, arith, length}
use Rattle.ctf_model.specs.writing.WrittenRecords.{field_bytes}
use Rattle.ctf_draft.specs.TypeView.{type_of}
use Rattle.ctf_writer.proofs.Joining.{record_len}
use Rattle.ctf_writer.proofs.sizes.record_len.Goals as goal

pub returns-clause-exact : goal.returns-clause-exact
returns-clause-exact c = λ names.
    let all = record_len names (type_of c.args.source.now) in
    let same = ap (λ (n : ℕ). length (field_bytes n)) c.field.ensures in
    let field = c.field_len.ensures.exact in
    let rest = c.variant_len.ensures.exact names in
    omega (arith, all, same, field, rest)
