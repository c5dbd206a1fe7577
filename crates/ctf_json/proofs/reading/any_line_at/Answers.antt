use Rattle.std.proofs.Common.{◌≡◌, [], ◌∷◌, length, None, ap, ◌∙◌, arith}
use Rattle.json.specs.Json.{members, value}
use Rattle.json.specs.Reads.{token_of}
use Rattle.json.proofs.Grammar.{value_is, value-begin_object}
use Rattle.ctf_json.specs.Passed.{tokens_behind, passed_members, passed_value}
use Rattle.ctf_json.specs.TreeData.{in_range}
use Rattle.ctf_json.specs.Values.{line_data}
use Rattle.ctf_json.proofs.Kept.{nothing_kept}
use Rattle.ctf_json.proofs.Turns.{passed-object}
use Rattle.ctf_json.proofs.reading.any_line_at.Goals as goal

pub returns-in_err-token-clause-refused : goal.returns-in_err-token-clause-refused
returns-in_err-token-clause-refused c is =
    let empty : c.args.reader.now ≡ [] = grind arith in
    ap (passed_value 127) empty ∙ ap (tokens_behind in_range) (value_is 127 [])

pub returns-in_err-members_at-clause-refused : goal.returns-in_err-members_at-clause-refused
returns-in_err-members_at-clause-refused c is =
    let ts = c.next.new.self in
    let first : c.args.reader.now ≡ token_of c.in_ok-token.token ∷ ts = grind arith in
    let failed : passed_members 126 ts ≡ None = grind arith in
    ap (passed_value 127) (first ∙ ap (λ k. token_of k ∷ ts) c.in-BeginObject.is) ∙ ap (tokens_behind in_range) (value-begin_object 127 ts (omega arith)) ∙ passed-object (members (value 126) (length ts) ts) ∙ failed

pub returns-in-BeginObject-clause-ok : goal.returns-in-BeginObject-clause-ok
returns-in-BeginObject-clause-ok c =
    let ts = c.next.new.self in
    let first : c.args.reader.now ≡ token_of c.in_ok-token.token ∷ ts = grind arith in
    let opened = ap (value 127) (first ∙ ap (λ k. token_of k ∷ ts) c.in-BeginObject.is) ∙ value-begin_object 127 ts (omega arith) in
    let k = c.in_ok-members_at.ensures.ok in
    (k.0, opened ∙ k.1, k.2, k.3)

pub returns-clause-ok : goal.returns-clause-ok
returns-clause-ok c =
    let t = c.in_ok-token.token in
    let ts = c.next.new.self in
    let rest = c.pass_from.new.reader in
    let first : c.args.reader.now ≡ token_of t ∷ ts = grind arith in
    let k = nothing_kept 127 t ts rest (line_data c.args.line.now) c.in_default.not-BeginObject c.in_ok-pass_from.ensures.passed in
    (k.0, ap (value 127) first ∙ k.1, k.2, k.3)
