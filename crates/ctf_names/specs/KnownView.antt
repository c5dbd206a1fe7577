-- A cache of what is known about the names of types. Source: ours.
use Rattle.std.specs.Prelude.{◌≡◌, ℕ, Some}
use Rattle.std.specs.BTreeMap.{BTreeMap, get}
use Rattle.std.specs.Ordering.{nat_cmp}
use Rattle.ctf_model.specs.spaces.Space.{Space}
use Rattle.ctf_names.specs.Measuring.{IsMeasured}
use Rattle.ctf_names.specs.declared.measures.Measured.{Measured}

-- what is stored for each type is correct
abbrev pub AreRight : Space → BTreeMap ℕ Measured → Type 0
AreRight s known = (n : ℕ) (m : Measured) → get nat_cmp known n ≡ Some m → IsMeasured s n m
