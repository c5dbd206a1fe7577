use Rattle.std.proofs.Common.{◌≡◌, ◌≤◌, ◌++◌, All, drop, length, take}
use Rattle.std.specs.Option.{option_map}
use Rattle.ctf_joined.specs.Joined.{texts}
use Rattle.ctf_json.specs.Values.{texts_data}
use Rattle.ctf_protocol.specs.lines.LineFields.{names_spelled}
use Rattle.ctf_lines.proofs.spelling.spell_themselves.Given as goal

abbrev pub invariant-loop-place : goal.invariant-loop-place
invariant-loop-place l = record {
  spelled : names_spelled (texts_data (texts l.names)) ≡ option_map (λ more. take l.place (texts l.names) ++ more) (names_spelled (texts_data (drop l.place (texts l.names))));
  short : All (λ name. length name ≤ 1048576) (take l.place (texts l.names));
}
