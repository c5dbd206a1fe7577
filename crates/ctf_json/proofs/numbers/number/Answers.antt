use Rattle.std.proofs.Common.{◌≡◌, drop, true, false, sym, ap, ◌∙◌, arith, take_all, length-drop}
use Rattle.fast_float.specs.Text.{scan}
use Rattle.serde_json.specs.Read.{number_from, number_of}
use Rattle.ctf_json.proofs.Telling.{by_sign}
use Rattle.ctf_json.proofs.numbers.number.Goals as goal

pub returns-then-has_minus : goal.returns-then-has_minus
returns-then-has_minus c =
    let s = c.as_bytes-bytes.result.now in
    let parts : c.scan.result ≡ scan (drop 1 s) = c.scan.ensures.parts ∙ ap scan (take_all _ (drop 1 s) (omega (arith, length-drop 1 s))) in
    c.negative.ensures ∙ ap (number_from true) parts ∙ sym (by_sign s true c.if-has_minus.ensures.value) ∙ ap number_of c.as_bytes-bytes.ensures.value

pub returns-else-has_minus : goal.returns-else-has_minus
returns-else-has_minus c =
    let s = c.as_bytes-bytes.result.now in
    c.unsigned_number.ensures ∙ sym (by_sign s false c.if-has_minus.ensures.value) ∙ ap number_of c.as_bytes-bytes.ensures.value
