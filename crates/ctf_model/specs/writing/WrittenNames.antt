-- The names that a written dictionary contains, and their offsets in its strings. Source: ours,
-- over "String Identifiers" of ctf(5).
use Rattle.std.specs.Prelude.{ℕ, ◌==◌, not, Bool, List, [], ◌∷◌, ◌++◌, length, map, if◌then◌else◌}
use Rattle.std.specs.List.{before_first, flat_map, filter}
use Rattle.std.specs.Str.{bytes_eq}
use Rattle.ctf_model.specs.format.Dictionary.{Dictionary}
use Rattle.ctf_model.specs.format.Term.{Term, Body}
use Rattle.ctf_model.specs.format.Term as term

-- ---- the names in use

-- the names of members or enumerators
abbrev pub listed_names : Body → List (List ℕ)
listed_names (term.struct size members) = map (λ m. m.name) members
listed_names (term.union size members) = map (λ m. m.name) members
listed_names (term.enum size enumerators) = map (λ e. e.name) enumerators
listed_names _ = []

-- the names of a type, its own first
abbrev pub names_of : Term → List (List ℕ)
names_of x = x.name ∷ listed_names x.body

-- every name of a dictionary, once per use: the parent's label and name, the labels, the types
unfoldable pub used_names : Dictionary → List (List ℕ)
used_names d =
    d.parlabel ∷ d.parname ∷ (map (λ label. label.name) d.labels ++ flat_map names_of d.terms)

-- ---- the strings

abbrev pub is_empty : List ℕ → Bool
is_empty name = length name == 0

-- the names without repetitions, in the order of first use
unfoldable pub distinct : List (List ℕ) → List (List ℕ)
distinct [] = []
distinct (name ∷ names) = name ∷ filter (λ other. not (bytes_eq name other)) (distinct names)

-- the names in the string section: each non-empty one, once
unfoldable pub strings_of : Dictionary → List (List ℕ)
strings_of d = distinct (filter (λ name. not (is_empty name)) (used_names d))

-- a name with its terminating zero byte
abbrev pub closed_name : List ℕ → List ℕ
closed_name name = name ++ 0 ∷ []

-- the string section of these names: a zero byte, then each name with its own
abbrev pub string_bytes : List (List ℕ) → List ℕ
string_bytes names = 0 ∷ flat_map closed_name names

-- the reference to a name: its offset, where the strings of the names before it end; 0 for the
-- empty name
unfoldable pub name_reference : List (List ℕ) → List ℕ → ℕ
name_reference names name =
    if is_empty name then 0 else length (string_bytes (before_first (bytes_eq name) names))
