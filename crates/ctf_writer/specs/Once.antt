-- Names added one after another.
use Rattle.std.specs.Prelude.{◌≡◌, [], fold}
use Rattle.ctf_model.specs.format.Dictionary.{Dictionary}
use Rattle.ctf_model.specs.writing.WrittenNames.{strings_of, used_names}
use Rattle.ctf_writer.specs.Offsets.{with_name}

-- adding every name at each use gives the strings of the dictionary
abbrev pub AddingGivesStrings : Type 0
AddingGivesStrings = (d : Dictionary) → fold with_name [] (used_names d) ≡ strings_of d
