-- The types that a type refers to, and which of them are missing. Source: ctf(5); what is accepted
-- is ours.
use Rattle.std.specs.Prelude.{ℕ, ◌==◌, ◌||◌, ◌&&◌, not, nat_le, Bool, true, false, List, [], ◌∷◌, map, Option, Some, None}
use Rattle.std.specs.List.{list_any}
use Rattle.ctf_model.specs.format.Name.{Tables}
use Rattle.ctf_model.specs.format.Record.{kind, is_long}
use Rattle.ctf_model.specs.format.Spelling.{term_of}
use Rattle.ctf_model.specs.format.Term.{Term, Body}
use Rattle.ctf_model.specs.format.Term as term
use Rattle.ctf_model.specs.spaces.TypePlaces.{place}
use Rattle.ctf_model.specs.declared.kinds.Kind.{Kind}
use Rattle.ctf_model.specs.declared.kinds.Kind.TheVariants.{KForward}
use Rattle.ctf_model.specs.declared.numbers.Place.{Place}
use Rattle.ctf_model.specs.declared.numbers.Place.TheVariants.{Nowhere, Own, Parents}

-- the types that a type refers to
abbrev pub references : Body → List ℕ
references (term.pointer t) = t ∷ []
references (term.array elements) = elements.contents ∷ elements.index ∷ []
references (term.function ret args) = ret ∷ args
references (term.struct size members) = map (λ m. m.tnum) members
references (term.union size members) = map (λ m. m.tnum) members
references (term.typedef t) = t ∷ []
references (term.volatile t) = t ∷ []
references (term.const t) = t ∷ []
references (term.restrict t) = t ∷ []
references _ = []

-- no type is at this place in a dictionary of `count` own types. Number 0 stands for no type; the
-- parent's types are checked at the import
abbrev pub is_missing_at : ℕ → ℕ → Place → Bool
is_missing_at count n Nowhere = not (n == 0)
is_missing_at count n (Own i) = nat_le count i
is_missing_at count n (Parents i) = false

-- no type has this number
abbrev pub is_missing : Bool → ℕ → ℕ → Bool
is_missing child count n = is_missing_at count n (place child n)

abbrev pub is_forward : Option Kind → Bool
is_forward (Some KForward) = true
is_forward _ = false

-- a forward has the mark of the long form in the field for its kind
abbrev pub has_long_tag : List ℕ → Bool
has_long_tag b = is_forward (kind b) && is_long b

abbrev pub names_missing : Bool → ℕ → Option Term → Bool
names_missing child count None = false
names_missing child count (Some x) = list_any (is_missing child count) (references x.body)

-- a record refers to a missing type, in a dictionary of `count` types
unfoldable pub is_misnaming : Tables → Bool → ℕ → List ℕ → Bool
is_misnaming t child count b = has_long_tag b || names_missing child count (term_of t b)
