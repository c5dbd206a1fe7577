use Rattle.std.proofs.Common.{Option, subst}
use Rattle.ctf_json.specs.PlainReader.{IsTaken}
use Rattle.ctf_json.specs.declared.values.Field.{Field}
use Rattle.ctf_json.proofs.Alone.{field_passed}
use Rattle.ctf_json.proofs.reading.pass_next.Goals as goal

pub returns-in-Some-clause-passed : goal.returns-in-Some-clause-passed
returns-in-Some-clause-passed c = λ ts is.
    field_passed c.args.depth c.in-Some.field-0 ts c.args.reader.now (subst (λ (t : Option Field). IsTaken ts t c.args.reader.now) c.in-Some.is is)
