use Rattle.std.proofs.Common.{◌≡◌, ◌++◌, drop, take}
use Rattle.std.specs.Option.{option_map}
use Rattle.ctf_json.specs.Values.{numbers_data}
use Rattle.ctf_protocol.specs.lines.AskAdditions.{types_listed}
use Rattle.ctf_lines.proofs.additions.are_listed.Given as goal

abbrev pub invariant-loop-number : goal.invariant-loop-number
invariant-loop-number l = types_listed (numbers_data l.numbers) ≡ option_map (λ more. take l.number-index l.numbers ++ more) (types_listed (numbers_data (drop l.number-index l.numbers)))
