use Rattle.std.proofs.Common.{ap}
use Rattle.json.specs.Json.{read_key}
use Rattle.ctf_json.proofs.Alone.{taken_or_not}
use Rattle.ctf_json.proofs.plain_reader.PlainReader.next_member.Goals as goal

pub returns-in-Some : goal.returns-in-Some
returns-in-Some c =
    record { value = (c.take_key.new.self, ap read_key c.in-Some.ensures, taken_or_not _ _ _ c.take_field.ensures) }
