-- A dictionary's information about a program's symbols: the entries of its object and function
-- sections. Source: ctf(5), "The Object Section" and "The Function Section"; which entry belongs to
-- which symbol is ours.
use Rattle.std.specs.Prelude.{◌≡◌, ◌<◌, ℕ, ◌+◌, ◌*◌, ◌/◌, ◌%◌, ◌^◌, ◌==◌, ◌&&◌, ◌||◌, not, nat_lt, Bool, List, [], ◌∷◌, length, map, drop, slice_index_or, Option, Some, None, if◌then◌else◌}
use Rattle.std.specs.List.{filter_map}
use Rattle.std.specs.Option.{option_map}
use Rattle.ctf_model.specs.format.Bytes.{u16_at}
use Rattle.ctf_model.specs.format.Header.{section}
use Rattle.ctf_model.specs.format.Lists.{Lists}
use Rattle.ctf_model.specs.format.Spelling.{items, argument_of}
use Rattle.ctf_model.specs.symbols.Symbols.{Symbol, symbols, with_types, is_object, class_of}
use Rattle.ctf_model.specs.declared.sections.Section.TheVariants.{SObjects, SFunctions}
use Rattle.ctf_model.specs.declared.symbols.SymbolClass.{SymbolClass}
use Rattle.ctf_model.specs.declared.symbols.SymbolClass.TheVariants.{Object, Function}

-- return type and arguments of a function; the arguments as stored, a last 0 included
pub record Signature : Type 0 where
  pub ret : ℕ
  pub args : List ℕ

-- the information about a symbol: an object's type or a function's signature, either of which may
-- be absent
pub data SymbolInfo : Type 0 where
  object : Option ℕ → SymbolInfo
  function : Option Signature → SymbolInfo

-- a considered symbol with its information
pub record Entry : Type 0 where
  pub number : ℕ
  pub name : List ℕ
  pub info : SymbolInfo

-- ---- the entry at the start of some bytes, if any are left

-- the type of an object; 0 means none
abbrev pub type_or_none : ℕ → Option ℕ
type_or_none n = if n == 0 then None else Some n

-- an object's entry is its type number
abbrev pub object_type : List ℕ → Option ℕ
object_type b = if nat_lt (length b) 2 then None else type_or_none (u16_at b 0)

-- a function's entry begins with its kind and its number of arguments, packed as in a type record
abbrev pub kind_number : List ℕ → ℕ
kind_number b = u16_at b 0 / 2 ^ 11

abbrev pub argument_count : List ℕ → ℕ
argument_count b = u16_at b 0 % 1024

-- an empty entry has no information and ends here
abbrev pub is_silent : List ℕ → Bool
is_silent b = kind_number b == 0 && argument_count b == 0

-- otherwise the return type and the arguments' types follow, two bytes each, without padding
abbrev pub entry_len : List ℕ → ℕ
entry_len b = if is_silent b then 2 else 4 + 2 * argument_count b

abbrev pub signature_in : List ℕ → Option Signature
signature_in b =
    if is_silent b then None
    else option_map (λ args. record { ret = u16_at b 2; args = args })
    (items argument_of 2 (argument_count b) (drop 4 b))

-- the entry begins inside its section, and either exceeds the section or has another kind than
-- function
abbrev pub is_bad_entry : List ℕ → Bool
is_bad_entry b =
    nat_lt 0 (length b)
    && (nat_lt (length b) (entry_len b) || not (is_silent b) && not (kind_number b == 5))

-- ---- as facts

-- the information about objects, and about functions, in order
abbrev pub object_info : SymbolInfo → Option (Option ℕ)
object_info (object t) = Some t
object_info (function f) = None

abbrev pub function_info : SymbolInfo → Option (Option Signature)
function_info (object t) = None
function_info (function f) = Some f

abbrev pub objects_in : List Entry → List (Option ℕ)
objects_in es = filter_map (λ e. object_info e.info) es

abbrev pub functions_in : List Entry → List (Option Signature)
functions_in es = filter_map (λ e. function_info e.info) es

-- the `i`-th object's entry follows `i` entries of two bytes
abbrev pub AreObjects : List ℕ → List (Option ℕ) → Type 0
AreObjects b types =
    (i : ℕ) → i < length types → slice_index_or types i None ≡ object_type (drop (2 * i) b)

-- each function's entry follows the previous one; what follows the last is not read
abbrev pub AreFunctions : List ℕ → List (Option Signature) → Type 0
AreFunctions b [] = Unit {0}
AreFunctions b (f ∷ fs) = (f ≡ signature_in b) × AreFunctions (drop (entry_len b) b) fs

abbrev pub class_of_info : SymbolInfo → SymbolClass
class_of_info (object t) = Object
class_of_info (function f) = Function

-- the symbol that an entry belongs to
pub record Owner : Type 0 where
  pub number : ℕ
  pub name : List ℕ
  pub class : SymbolClass

abbrev pub owner_of : Entry → Owner
owner_of e = record { number = e.number; name = e.name; class = class_of_info e.info }

abbrev pub owner : ℕ × Symbol → Owner
owner x = record { number = x.0; name = x.1.name; class = class_of x.1 }

-- the entries match the considered symbols in order, with the information from both sections
pub record AreEntries (xs : List Symbol) (objects functions : List ℕ)
    (es : List Entry) : Type 0 where
  pub owners : map owner_of es ≡ map owner (with_types xs)
  pub types : AreObjects objects (objects_in es)
  pub signatures : AreFunctions functions (functions_in es)

-- ---- the same, computed

-- each considered symbol takes its entry from the rest of its section
unfoldable pub entries_of : List (ℕ × Symbol) → List ℕ → List ℕ → List Entry
entries_of [] objects functions = []
entries_of (x ∷ xs) objects functions =
    if is_object x.1
    then record { number = x.0; name = x.1.name; info = object (object_type objects) }
    ∷ entries_of xs (drop 2 objects) functions
    else record { number = x.0; name = x.1.name; info = function (signature_in functions) }
    ∷ entries_of xs objects (drop (entry_len functions) functions)

unfoldable pub entries : Lists → List Entry
entries s = entries_of (with_types (symbols s)) (section s.ctf SObjects) (section s.ctf SFunctions)

-- ---- starts of entries

-- a considered function, and the rest of the function section from its entry on
pub record FunctionSite : Type 0 where
  pub number : ℕ
  pub left : List ℕ

unfoldable pub function_sites_of : List (ℕ × Symbol) → List ℕ → List FunctionSite
function_sites_of [] b = []
function_sites_of (x ∷ xs) b =
    if is_object x.1 then function_sites_of xs b
    else record { number = x.0; left = b } ∷ function_sites_of xs (drop (entry_len b) b)

unfoldable pub function_sites : Lists → List FunctionSite
function_sites s = function_sites_of (with_types (symbols s)) (section s.ctf SFunctions)

-- the types that an entry refers to
abbrev pub types_named : SymbolInfo → List ℕ
types_named (object None) = []
types_named (object (Some t)) = t ∷ []
types_named (function None) = []
types_named (function (Some f)) = f.ret ∷ f.args
