use Rattle.std.proofs.Common.{List, length, Option, OnOk, sym, ap, ◌∙◌, subst, arith}
use Rattle.json.specs.Json.{Json, members, value}
use Rattle.json.specs.Token.{Token}
use Rattle.json.proofs.Grammar.{value-begin_object}
use Rattle.ctf_json.specs.Passed.{tokens_behind, passed_value}
use Rattle.ctf_json.specs.TreeData.{in_range}
use Rattle.ctf_json.specs.Kept.{AreKept}
use Rattle.ctf_json.specs.Values.{IsNew, line_data}
use Rattle.ctf_json.proofs.Turns.{passed-object}
use Rattle.ctf_json.proofs.reading.line_at.Goals as goal

pub returns-then-take_object-clause-ok : goal.returns-then-take_object-clause-ok
returns-then-take_object-clause-ok c =
    let ts = c.take_object.new.self in
    let opened = ap (value 127) c.if-take_object.ensures ∙ value-begin_object 127 ts (omega arith) in
    let P : Option (Json × List Token) → Type 0 = λ read. OnOk c.members_at.result (AreKept (IsNew c.args.line.now) read (line_data c.members_at.new.line) c.members_at.new.reader) in
    subst P (sym opened) c.members_at.ensures.ok

pub returns-then-take_object-clause-refused : goal.returns-then-take_object-clause-refused
returns-then-take_object-clause-refused c is =
    let ts = c.take_object.new.self in
    ap (passed_value 127) c.if-take_object.ensures ∙ ap (tokens_behind in_range) (value-begin_object 127 ts (omega arith)) ∙ passed-object (members (value 126) (length ts) ts) ∙ c.members_at.ensures.refused is
