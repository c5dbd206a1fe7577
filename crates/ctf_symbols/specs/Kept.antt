-- For each symbol, how many bytes of its section are left where its entry begins. Source: ours.
use Rattle.std.specs.Prelude.{ℕ, ◌+◌, ◌-◌, ◌*◌, ◌/◌, ◌%◌, ◌==◌, List, [], ◌∷◌, length, drop, slice_index, nat_lt, Option, Some, None, if◌then◌else◌}
use Rattle.ctf_model.specs.symbols.Entries.{entry_len}
use Rattle.ctf_model.specs.format.Header.{section}
use Rattle.ctf_model.specs.format.Lists.{Lists}
use Rattle.ctf_model.specs.symbols.Symbols.{Symbol, symbols, is_considered, is_object}
use Rattle.ctf_model.specs.declared.symbols.SymbolClass.{SymbolClass}
use Rattle.ctf_model.specs.declared.symbols.SymbolClass.TheVariants.{Object, Function}
use Rattle.ctf_model.specs.declared.sections.Section.TheVariants.{SObjects, SFunctions}

-- for symbols numbered from `n` on, with these rests of both sections; 0 for a symbol without an
-- entry
unfoldable pub lefts_from : ℕ → List Symbol → List ℕ → List ℕ → List ℕ
lefts_from n [] objects functions = []
lefts_from n (x ∷ xs) objects functions =
    if is_considered (n, x)
    then (if is_object x then length objects ∷ lefts_from (n + 1) xs (drop 2 objects) functions
    else length functions
    ∷ lefts_from (n + 1) xs objects (drop (entry_len functions) functions))
    else 0 ∷ lefts_from (n + 1) xs objects functions

-- for all symbols
abbrev pub lefts_of : Lists → List ℕ
lefts_of s = lefts_from 0 (symbols s) (section s.ctf SObjects) (section s.ctf SFunctions)

-- the last `n` bytes of a section
abbrev pub last_bytes : ℕ → List ℕ → List ℕ
last_bytes n b = drop (length b - n) b

-- the type of symbol number `number`, if it exists
abbrev pub sort_in : List ℕ → ℕ → Option ℕ
sort_in sym number =
    if nat_lt number (length sym / 24) then Some (slice_index sym (24 * number + 4) % 16) else None

-- the class of an object, else that of a function
abbrev pub class_in : Option ℕ → SymbolClass
class_in None = Function
class_in (Some sort) = if sort == 1 then Object else Function
