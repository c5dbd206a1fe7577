use Rattle.std.proofs.Common.{sym, ap, ◌∙◌, option_and_then}
use Rattle.serde_json.specs.Find.{as_u64}
use Rattle.serde_json.specs.Read.{number_of}
use Rattle.ctf_json.proofs.numbers.natural.Goals as goal

pub returns-in-Some : goal.returns-in-Some
returns-in-Some c =
    sym (ap (λ t. option_and_then as_u64 (number_of t)) (sym c.as_bytes.ensures.value) ∙ ap (option_and_then as_u64) c.in-Some.ensures.number)
