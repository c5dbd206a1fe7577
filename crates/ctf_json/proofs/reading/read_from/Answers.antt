use Rattle.std.proofs.Common.{◌≡◌, None, [], arith}
use Rattle.ctf_json.specs.Passed.{passed_value}
use Rattle.ctf_json.specs.Values.{IsNew, line_data}
use Rattle.ctf_json.proofs.Kept.{read-kept, read-refused}
use Rattle.ctf_json.proofs.reading.read_from.Goals as goal

pub returns-in_err-line_at-clause-refused : goal.returns-in_err-line_at-clause-refused
returns-in_err-line_at-clause-refused c is =
    let failed : passed_value 127 c.args.reader.now ≡ None = grind arith in
    read-refused c.args.text.now (rw (← c.requires) failed)

pub returns-clause-ok : goal.returns-clause-ok
returns-clause-ok c new =
    let rest = c.line_at.new.reader in
    let last : rest ≡ [] = grind arith in
    read-kept (IsNew c.args.line.now) c.args.text.now (line_data c.line_at.new.line) rest (rw (← c.requires) c.in_ok-line_at.ensures.ok) last new
