use Rattle.std.proofs.Common.{◌≡◌, [], ◌∷◌, length, None, refl, sym, ap, ◌∙◌, arith}
use Rattle.json.specs.Json.{value}
use Rattle.json.specs.Reads.{token_of}
use Rattle.json.proofs.Grammar.{value_is}
use Rattle.ctf_json.specs.Keys.{wanted_at}
use Rattle.ctf_json.specs.Memory.{list_among}
use Rattle.ctf_json.specs.Passed.{tokens_behind, passed_value}
use Rattle.ctf_json.specs.TreeData.{in_range}
use Rattle.ctf_json.specs.Values.{data_of}
use Rattle.ctf_json.proofs.Kept.{plain_kept}
use Rattle.ctf_json.proofs.reading.keep_any.Goals as goal

pub returns-in_err-token-clause-refused : goal.returns-in_err-token-clause-refused
returns-in_err-token-clause-refused c is =
    let empty : c.args.reader.now ≡ [] = grind arith in
    ap (passed_value c.args.depth) empty ∙ ap (tokens_behind in_range) (value_is c.args.depth [])

pub returns : goal.returns
returns c =
    let d = c.args.depth in
    let t = c.in_ok-token.token in
    let ts = c.next.new.self in
    let rest = c.pass_from.new.reader in
    let first : c.args.reader.now ≡ token_of t ∷ ts = grind arith in
    let longer = ap length first in
    let shorter = c.in_ok-pass_from.ensures.shorter in
    let k = plain_kept (wanted_at c.args.key.now) d t ts rest (data_of c.field_of.result) c.in_default.not-BeginArray c.in_ok-pass_from.ensures.passed c.field_of.ensures in
    record {
      ok = (data_of c.field_of.result, (k.0, ap (value d) first ∙ k.1, k.2, k.3), λ q. c.keep_at.ensures q);
      shorter = omega (arith, longer, shorter);
      refused = λ is. grind arith;
      memory = λ is. grind arith;
      left = λ h. ap list_among first ∙ c.in_ok-pass_from.ensures.left h;
    }
