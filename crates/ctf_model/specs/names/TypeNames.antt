-- How C spells the name of a type. Source: ISO C, "Declarators" and "Type names"; ctf_type_lname of
-- libctf(3LIB); where blanks go, and what replaces an empty name, is ours.
use Rattle.std.specs.Prelude.{ℕ, zero, suc, ◌==◌, ◌++◌, nat_le, Bool, true, false, List, [], ◌∷◌, length, Option, Some, None, Result, Ok, Err, codes, decimal, if◌then◌else◌}
use Rattle.ctf_model.specs.names.KindNames.{name_of_tag}
use Rattle.ctf_model.specs.rules.Refusals.{placeless}
use Rattle.ctf_model.specs.spaces.Space.{Space, space_type}
use Rattle.ctf_model.specs.format.Term.{Body, Tag, Term}
use Rattle.ctf_model.specs.format.Term as term
use Rattle.ctf_model.specs.declared.faults.Fault.{Fault}
use Rattle.ctf_model.specs.declared.faults.TheConstants.Fault.{TOO_LONG}
use Rattle.ctf_model.specs.declared.layers.Layer.{Layer}
use Rattle.ctf_model.specs.declared.layers.Layer.TheVariants.{Pointer, Array, Function, Qualified}
use Rattle.ctf_model.specs.declared.layers.Qualifier.{Qualifier}
use Rattle.ctf_model.specs.declared.layers.Qualifier.TheVariants.{Volatile, Const, Restrict}

-- the text exceeds the longest that is answered
abbrev pub too_long : Fault
too_long = placeless TOO_LONG

-- ---- the text of a declaration

abbrev pub word_of_qualifier : Qualifier → List ℕ
word_of_qualifier Volatile = codes "volatile"
word_of_qualifier Const = codes "const"
word_of_qualifier Restrict = codes "restrict"

-- two texts, with a blank between them if the second is not empty
abbrev pub join_texts : List ℕ → List ℕ → List ℕ
join_texts b [] = b
join_texts b (x ∷ d) = b ++ 32 ∷ x ∷ d

-- the first layer that is no qualifier
abbrev pub past : List Layer → Option Layer
past [] = None
past (Qualified q ∷ layers) = past layers
past (Pointer ∷ layers) = Some Pointer
past (Array count ∷ layers) = Some (Array count)
past (Function ∷ layers) = Some Function

abbrev pub is_pointer : Option Layer → Bool
is_pointer (Some Pointer) = true
is_pointer _ = false

-- an array or a function: its brackets follow the declarator, and bind before a star
abbrev pub is_behind : Option Layer → Bool
is_behind (Some (Array count)) = true
is_behind (Some Function) = true
is_behind _ = false

-- The declarator `d`, extended by these layers, outermost first, around the name. A pointer's
-- qualifier follows its star; any other comes before the name.
unfoldable pub declared : List Layer → List ℕ → List ℕ → List ℕ
declared [] name d = join_texts name d
declared (Pointer ∷ layers) name d =
    declared layers name (if is_behind (past layers) then codes "(*" ++ (d ++ codes ")")
    else codes "*" ++ d)
declared (Array count ∷ layers) name d =
    declared layers name (d ++ (codes "[" ++ (decimal count ++ codes "]")))
declared (Function ∷ layers) name d = declared layers name (d ++ codes "()")
declared (Qualified q ∷ layers) name d =
    if is_pointer (past layers) then declared layers name (join_texts (word_of_qualifier q) d)
    else word_of_qualifier q ++ (codes " " ++ declared layers name d)

-- ---- the declaration of a type

-- the layers of a type, outermost first, and the name inside
pub record Declaration : Type 0 where
  pub layers : List Layer
  pub name : List ℕ

abbrev pub or_anon : List ℕ → List ℕ
or_anon [] = codes "(anon)"
or_anon (x ∷ name) = x ∷ name

-- a name without layers
abbrev pub bare_name : List ℕ → Result Declaration Fault
bare_name name = Ok (record { layers = []; name = name })

-- the name of a struct, union or enum, with its keyword
abbrev pub tagged_name : Tag → List ℕ → Result Declaration Fault
tagged_name tag name = bare_name (name_of_tag tag ++ (codes " " ++ or_anon name))

-- a declaration with one more layer outside
abbrev pub around : Layer → Result Declaration Fault → Result Declaration Fault
around layer (Ok inside) = Ok (record { layers = layer ∷ inside.layers; name = inside.name })
around layer (Err fault) = Err fault

-- the declaration of a type, given the declarations of others
abbrev pub declaration_by : (ℕ → Result Declaration Fault) → List ℕ → Body
    → Result Declaration Fault
declaration_by others name term.unknown = bare_name (or_anon name)
declaration_by others name (term.integer scalar) = bare_name (or_anon name)
declaration_by others name (term.float scalar) = bare_name (or_anon name)
declaration_by others name (term.typedef t) = bare_name (or_anon name)
declaration_by others name (term.struct size members) = tagged_name term.struct_tag name
declaration_by others name (term.union size members) = tagged_name term.union_tag name
declaration_by others name (term.enum size enumerators) = tagged_name term.enum_tag name
declaration_by others name (term.forward tag) = tagged_name tag name
declaration_by others name (term.pointer t) = around Pointer (others t)
declaration_by others name (term.array elements) =
    around (Array elements.count) (others elements.contents)
declaration_by others name (term.function returned arguments) = around Function (others returned)
declaration_by others name (term.volatile t) = around (Qualified Volatile) (others t)
declaration_by others name (term.const t) = around (Qualified Const) (others t)
declaration_by others name (term.restrict t) = around (Qualified Restrict) (others t)

abbrev pub declaration_of : (ℕ → Result Declaration Fault) → Result Term Fault
    → Result Declaration Fault
declaration_of others (Ok x) = declaration_by others x.name x.body
declaration_of others (Err fault) = Err fault

-- the declaration of a number, if it has fewer than `k` layers
unfoldable pub declaration_within : Space → ℕ → ℕ → Result Declaration Fault
declaration_within s zero n = Err too_long
declaration_within s (suc k) n =
    if n == 0 then bare_name (codes "void")
    else declaration_of (declaration_within s k) (space_type s n)

-- ---- names

-- the longest text in an answer, in bytes
abbrev pub longest_text : ℕ
longest_text = 65536

-- each layer adds a byte or more, so a declaration with that many layers is too long anyway
abbrev pub declaration : Space → ℕ → Result Declaration Fault
declaration s n = declaration_within s longest_text n

abbrev pub unless_too_long : List ℕ → Result (List ℕ) Fault
unless_too_long text = if nat_le (length text) longest_text then Ok text else Err too_long

abbrev pub text_of_declaration : Result Declaration Fault → Result (List ℕ) Fault
text_of_declaration (Ok d) = unless_too_long (declared d.layers d.name [])
text_of_declaration (Err fault) = Err fault

-- the name of type `n`, as C spells it
abbrev pub spelled_name : Space → ℕ → Result (List ℕ) Fault
spelled_name s n = text_of_declaration (declaration s n)
