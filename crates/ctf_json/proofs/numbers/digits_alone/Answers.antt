use Rattle.std.proofs.Common.{◌≡◌, ◌<◌, length, take, subst, ap, ◌∙◌, arith}
use Rattle.std.proofs.lemmas.Int.Digits.{digits_more, digits_value_more}
use Rattle.std.proofs.lemmas.List.{take_all}
use Rattle.std.specs.Str.Parse.{AllDigits, digits_value}
use Rattle.ctf_json.proofs.Digits.{number_alone, number_of_alone}
use Rattle.ctf_json.proofs.numbers.digits_alone.Goals as goal

pub loop-byte-preserved : goal.loop-byte-preserved
loop-byte-preserved c =
    let bytes = c.args.bytes.now in
    let k = c.loop-byte.byte-index in
    let more = digits_value_more 10 bytes k c.loop-byte-test.true in
    let so_far = c.loop-byte.invariant.1 in
    let digit = c.in-Some.ensures.1 in
    (digits_more 10 bytes k c.loop-byte-test.true c.loop-byte.invariant.0 c.in-Some.ensures.0, omega (arith, more, so_far, digit))

pub returns : goal.returns
returns c =
    let bytes = c.args.bytes.now in
    let whole : take c.loop-byte.byte-index bytes ≡ bytes = take_all c.loop-byte.byte-index bytes c.loop-byte-test.false in
    let same : c.loop-byte.value ≡ digits_value 10 bytes = c.loop-byte.invariant.1 ∙ ap (digits_value 10) whole in
    let fits = c.loop-byte.auto.value-fits in
    let some : 0 < length bytes = grind arith in
    let all = subst (AllDigits 10) whole c.loop-byte.invariant.0 in
    record {
      scanned = number_alone bytes c.loop-byte.value some all (omega (arith, fits, same)) same;
      number = number_of_alone bytes c.loop-byte.value some all (omega (arith, fits, same)) same;
    }
