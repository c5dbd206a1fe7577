-- The known keys, and what a list at each is expected to contain.
use Rattle.std.specs.Prelude.{ℕ, suc, List, [], ◌∷◌, Option, Some, None, option_map, codes, if◌then◌else◌}
use Rattle.std.specs.Str.{bytes_eq}
use Rattle.ctf_json.specs.declared.wanted.Wanted.{Wanted}
use Rattle.ctf_json.specs.declared.wanted.Wanted.TheVariants.{Texts, Numbers, Nothing}

-- the index of a key in a list
abbrev pub place_in : List ℕ → List (List ℕ) → Option ℕ
place_in key [] = None
place_in key (k ∷ ks) = if bytes_eq key k then Some 0 else option_map suc (place_in key ks)

-- what a list at this key is expected to contain
abbrev pub wanted_at : List ℕ → Wanted
wanted_at key =
    if bytes_eq key (codes "names") then Texts
    else if bytes_eq key (codes "args") then Numbers
    else Nothing
