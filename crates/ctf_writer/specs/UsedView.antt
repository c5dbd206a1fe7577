-- What a list of names in use stands for.
use Rattle.std.specs.Prelude.{ℕ, List, map}
use Rattle.ctf_writer.specs.declared.used.UsedNames.{UsedNames}

-- the names, in the order of their first use
abbrev pub used_names : UsedNames → List (List ℕ)
used_names u = map (λ name. name.now) u.names.keys
