-- The names of members and enumerators. Source: ours.
use Rattle.std.specs.Prelude.{ℕ, List, map, Option, Some, None}
use Rattle.ctf_model.specs.format.Bytes.{u32_at}
use Rattle.ctf_model.specs.format.Name.{Tables, name}
use Rattle.ctf_model.specs.format.Shown.{Shown}
use Rattle.ctf_model.specs.format.Shown as show

-- the name whose reference is at the start of some bytes
abbrev pub name_at : Tables → List ℕ → Option (List ℕ)
name_at t b = name t (u32_at b 0)

-- the names in a struct, union or enum
abbrev pub shown_names : Shown → Option (List (List ℕ))
shown_names (show.members ms) = Some (map (λ m. m.name) ms)
shown_names (show.enumerators es) = Some (map (λ e. e.name) es)
shown_names _ = None
