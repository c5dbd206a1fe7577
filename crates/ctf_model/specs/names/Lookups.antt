-- The type that a written name finds, and the type that is a pointer to another. Source:
-- libctf(3LIB), ctf_lookup_by_name and ctf_type_pointer; which names are accepted, and that the
-- least number is taken, is ours.
use Rattle.std.specs.Prelude.{ℕ, zero, suc, ◌==◌, ◌&&◌, ◌||◌, Bool, true, false, List, [], ◌∷◌, length, take, drop, Option, Some, None, Result, Ok, Err, codes, if◌then◌else◌}
use Rattle.std.specs.List.{list_all, count_by}
use Rattle.std.specs.Option.{option_map, option_or}
use Rattle.std.specs.Str.{bytes_eq}
use Rattle.ctf_model.specs.format.Dictionary.{Dictionary}
use Rattle.ctf_model.specs.figures.Figures.{resolved_type}
use Rattle.ctf_model.specs.rules.Refusals.{placeless}
use Rattle.ctf_model.specs.spaces.Space.{Space}
use Rattle.ctf_model.specs.format.Term.{Term, Body, Tag}
use Rattle.ctf_model.specs.format.Term as term
use Rattle.ctf_model.specs.spaces.TypePlaces.{own_number}
use Rattle.ctf_model.specs.declared.faults.Fault.{Fault}
use Rattle.ctf_model.specs.declared.faults.TheConstants.Fault.{BAD_SYNTAX, NOT_FOUND}

-- ---- the least number

-- the index of the first type that passes the test
abbrev pub first_place : (Term → Bool) → List Term → Option ℕ
first_place passes [] = None
first_place passes (x ∷ xs) = if passes x then Some 0 else option_map suc (first_place passes xs)

-- the least number of an own type that passes the test
abbrev pub least_own : (Term → Bool) → Dictionary → Option ℕ
least_own passes d = option_map (own_number d.child) (first_place passes d.terms)

abbrev pub least_parents : (Term → Bool) → Option Dictionary → Option ℕ
least_parents passes None = None
least_parents passes (Some parent) = least_own passes parent

-- the least number of an own type that passes the test, else of a type of the imported parent
abbrev pub least : (Term → Bool) → Space → Option ℕ
least passes s = option_or (least_own passes s.own) (least_parents passes s.parent)

abbrev pub or_not_found : Option ℕ → Result ℕ Fault
or_not_found None = Err (placeless NOT_FOUND)
or_not_found (Some n) = Ok n

-- ---- names

-- the keyword before the name: a forward has that of what it declares; other types have none
abbrev pub tag_of : Body → Option Tag
tag_of (term.struct size members) = Some term.struct_tag
tag_of (term.union size members) = Some term.union_tag
tag_of (term.enum size enumerators) = Some term.enum_tag
tag_of (term.forward tag) = Some tag
tag_of _ = None

abbrev pub same_tag : Option Tag → Option Tag → Bool
same_tag None None = true
same_tag (Some term.struct_tag) (Some term.struct_tag) = true
same_tag (Some term.union_tag) (Some term.union_tag) = true
same_tag (Some term.enum_tag) (Some term.enum_tag) = true
same_tag _ _ = false

-- a name as written, without stars: its keyword, if any, and the name itself
pub record Written : Type 0 where
  pub tag : Option Tag
  pub name : List ℕ

-- a visible type with this keyword and name
abbrev pub is_called : Written → Term → Bool
is_called w x = x.root && same_tag (tag_of x.body) w.tag && bytes_eq x.name w.name

-- ---- texts

abbrev pub is_blank : ℕ → Bool
is_blank b = b == 32

abbrev pub is_star : ℕ → Bool
is_star b = b == 42

abbrev pub is_star_or_blank : ℕ → Bool
is_star_or_blank b = is_star b || is_blank b

-- the text without its last stars and blanks
abbrev pub base : List ℕ → List ℕ
base [] = []
base (b ∷ text) = if list_all is_star_or_blank (b ∷ text) then [] else b ∷ base text

-- the number of stars after the name
abbrev pub stars : List ℕ → ℕ
stars text = count_by is_star (drop (length (base text)) text)

abbrev pub begins_with : List ℕ → List ℕ → Bool
begins_with word text = bytes_eq (take (length word) text) word

-- splits a keyword off a name; blanks after the first one belong to the name
abbrev pub written_name : List ℕ → Written
written_name text =
    if begins_with (codes "struct ") text
    then record { tag = Some term.struct_tag; name = drop 7 text }
    else if begins_with (codes "union ") text
    then record { tag = Some term.union_tag; name = drop 6 text }
    else if begins_with (codes "enum ") text
    then record { tag = Some term.enum_tag; name = drop 5 text }
    else record { tag = None; name = text }

-- the text is empty or begins with a blank
abbrev pub is_no_name : List ℕ → Bool
is_no_name [] = true
is_no_name (b ∷ text) = is_blank b

-- ---- pointers

abbrev pub is_pointer_body : ℕ → Body → Bool
is_pointer_body t (term.pointer u) = u == t
is_pointer_body t _ = false

-- a pointer to a type, hidden from look-ups by name or not
abbrev pub is_pointer_to : ℕ → Term → Bool
is_pointer_to t x = is_pointer_body t x.body

-- the pointer to what a type resolves to, unless that is no type
abbrev pub pointer_behind : Space → Result ℕ Fault → Result ℕ Fault
pointer_behind s (Err fault) = Err fault
pointer_behind s (Ok u) = or_not_found (if u == 0 then None else least (is_pointer_to u) s)

abbrev pub pointer_or_behind : Space → ℕ → Option ℕ → Result ℕ Fault
pointer_or_behind s t (Some n) = Ok n
pointer_or_behind s t None = pointer_behind s (resolved_type s t)

-- the least pointer to the type, else to what it resolves to
abbrev pub pointer_to : Space → ℕ → Result ℕ Fault
pointer_to s t = pointer_or_behind s t (least (is_pointer_to t) s)

-- ---- look-ups

-- applies pointer look-up `k` times
abbrev pub pointers_on : Space → ℕ → Result ℕ Fault → Result ℕ Fault
pointers_on s zero from = from
pointers_on s (suc k) (Err fault) = Err fault
pointers_on s (suc k) (Ok t) = pointers_on s k (pointer_to s t)

-- the type of a name with stars after it, as in `struct node **`
abbrev pub lookup : Space → List ℕ → Result ℕ Fault
lookup s text =
    if is_no_name (base text) then Err (placeless BAD_SYNTAX)
    else pointers_on s (stars text) (or_not_found (least (is_called (written_name (base text))) s))
