-- The check of function entries.
use Rattle.std.specs.Prelude.{ℕ, List, Option}
use Rattle.ctf_model.specs.symbols.Entries.{function_sites_of, is_bad_entry}
use Rattle.ctf_model.specs.rules.Faults.{first_where}
use Rattle.ctf_model.specs.symbols.Symbols.{Symbol}

-- the number of the first function with a bad entry
unfoldable pub bad_place : List (ℕ × Symbol) → List ℕ → Option ℕ
bad_place xs functions =
    first_where (λ site. is_bad_entry site.left) (λ site. site.number)
    (function_sites_of xs functions)
