-- Labels in a map.
use Rattle.std.specs.Prelude.{ℕ, List, map, Vec}
use Rattle.std.specs.declared.alloc.Global.{Global}
use Rattle.ctf_model.specs.format.Dictionary.{Label}

abbrev pub label_in : Vec ℕ Global × ℕ → Label
label_in entry = record { name = entry.0.items; last = entry.1 }

abbrev pub labels_in : List (Vec ℕ Global × ℕ) → List Label
labels_in entries = map label_in entries
