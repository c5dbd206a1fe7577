use Rattle.std.proofs.Common.{◌∙◌, ap, sym, is_some}
use Rattle.serde_json.specs.Read.{number_of}
use Rattle.ctf_json.proofs.Digits.{few_valued}
use Rattle.ctf_json.proofs.numbers.has_value.Goals as goal

pub returns-then-are_few_digits : goal.returns-then-are_few_digits
returns-then-are_few_digits c =
    let few = c.are_few_digits.ensures c.if-are_few_digits.true in
    sym (few_valued c.as_bytes.result.now few.0 few.1 few.2) ∙ ap (λ t. is_some (number_of t)) c.as_bytes.ensures.value
