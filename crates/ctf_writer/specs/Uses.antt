-- How names are added at their uses. Source: ours.
use Rattle.std.specs.Prelude.{◌≡◌, ◌<◌, ℕ, List, length, fold, ◌⊎◌}
use Rattle.ctf_model.specs.rules.Refusals.{placeless, out_of_memory}
use Rattle.ctf_model.specs.writing.Written.{most_written}
use Rattle.ctf_model.specs.writing.WrittenNames.{string_bytes}
use Rattle.ctf_model.specs.declared.faults.Fault.{Fault}
use Rattle.ctf_model.specs.declared.faults.TheConstants.Fault.{DICT_TOO_BIG}
use Rattle.ctf_writer.specs.Offsets.{with_name}

-- the names, with those of more uses appended
abbrev pub with_names : List (List ℕ) → List (List ℕ) → List (List ℕ)
with_names names uses = fold with_name names uses

-- out of memory, or the strings of these names alone exceed a dictionary's limit
abbrev pub IsRefused : List (List ℕ) → Fault → Type 0
IsRefused names f =
    (f ≡ out_of_memory)
    ⊎ ((f ≡ placeless DICT_TOO_BIG) × (most_written < length (string_bytes names)))
