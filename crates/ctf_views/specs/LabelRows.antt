-- The label in eight bytes, if its name exists. Source: ours, over the reading in Dictionary.antt
-- of ctf_model.
use Rattle.std.specs.Prelude.{ℕ, List, Option}
use Rattle.std.specs.Option.{option_map}
use Rattle.ctf_model.specs.format.Bytes.{u32_at}
use Rattle.ctf_model.specs.format.Dictionary.{Label}
use Rattle.ctf_model.specs.format.Name.{Tables, name}

-- its name, and its last type
abbrev pub label_of : Tables → List ℕ → Option Label
label_of t b = option_map (λ text. record { name = text; last = u32_at b 4 }) (name t (u32_at b 0))
