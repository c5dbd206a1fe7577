use Rattle.std.proofs.Common.{Option, subst}
use Rattle.ctf_json.specs.Keys.{wanted_at}
use Rattle.ctf_json.specs.PlainReader.{IsField, IsTaken}
use Rattle.ctf_json.specs.Values.{data_of}
use Rattle.ctf_json.specs.declared.values.Field.{Field}
use Rattle.ctf_json.proofs.Alone.{field_kept}
use Rattle.ctf_json.proofs.reading.keep_next.Goals as goal

pub returns-in-Some-clause-ok : goal.returns-in-Some-clause-ok
returns-in-Some-clause-ok c = λ ts is.
    let f = c.in-Some.field in
    let one : IsField ts f c.args.reader.now = subst (λ (t : Option Field). IsTaken ts t c.args.reader.now) c.in-Some.is is in
    (data_of f, field_kept (wanted_at c.args.key.now) c.args.depth f ts c.args.reader.now one, λ q. c.keep_at.ensures q)
