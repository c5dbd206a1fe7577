-- Answers about symbols and labels. Source: ours; the questions follow libctf(3LIB),
-- ctf_lookup_by_symbol and ctf_func_info.
use Rattle.std.specs.Prelude.{ℕ, ◌==◌, List, [], ◌∷◌, Option, Some, None, Result, Ok, Err, slice_get, if◌then◌else◌}
use Rattle.std.specs.Option.{option_map}
use Rattle.std.specs.Str.{bytes_eq}
use Rattle.ctf_model.specs.format.Dictionary.{Dictionary, Label}
use Rattle.ctf_model.specs.symbols.Entries.{Entry, Owner, Signature, SymbolInfo, owner_of}
use Rattle.ctf_model.specs.symbols.Entries as info
use Rattle.ctf_model.specs.rules.Refusals.{placeless}
use Rattle.ctf_model.specs.symbols.Symbols.{Symbol, is_object, is_function}
use Rattle.ctf_model.specs.declared.faults.Fault.{Fault}
use Rattle.ctf_model.specs.declared.faults.TheConstants.Fault.{NO_SYMBOL, NOT_DATA, NOT_FUNCTION, NO_INFO, NO_LABEL}

-- the value, or a fault with this code
abbrev pub or_refused : {A : Type 0} → ℕ → Option A → Result A Fault
or_refused code None = Err (placeless code)
or_refused code (Some x) = Ok x

-- the entry of symbol number `n`, if it is considered
abbrev pub info_of_symbol : List Entry → ℕ → Option SymbolInfo
info_of_symbol [] n = None
info_of_symbol (e ∷ es) n = if e.number == n then Some e.info else info_of_symbol es n

abbrev pub type_of_object : Option SymbolInfo → Option ℕ
type_of_object (Some (info.object t)) = t
type_of_object _ = None

abbrev pub signature_of_function : Option SymbolInfo → Option Signature
signature_of_function (Some (info.function f)) = f
signature_of_function _ = None

-- the name of symbol number `n`
abbrev pub name_of_symbol : Dictionary → ℕ → Result (List ℕ) Fault
name_of_symbol d n = or_refused NO_SYMBOL (option_map (λ x. x.name) (slice_get d.symbols n))

-- the type of object number `n`; refused if there is no such symbol, it is no object, or it has no
-- information
abbrev pub object_in : Dictionary → ℕ → Option Symbol → Result ℕ Fault
object_in d n None = Err (placeless NO_SYMBOL)
object_in d n (Some x) =
    if is_object x then or_refused NO_INFO (type_of_object (info_of_symbol d.entries n))
    else Err (placeless NOT_DATA)

abbrev pub object_of : Dictionary → ℕ → Result ℕ Fault
object_of d n = object_in d n (slice_get d.symbols n)

-- the signature of function number `n`, likewise
abbrev pub function_in : Dictionary → ℕ → Option Symbol → Result Signature Fault
function_in d n None = Err (placeless NO_SYMBOL)
function_in d n (Some x) =
    if is_function x then or_refused NO_INFO (signature_of_function (info_of_symbol d.entries n))
    else Err (placeless NOT_FUNCTION)

abbrev pub function_of : Dictionary → ℕ → Result Signature Fault
function_of d n = function_in d n (slice_get d.symbols n)

-- the first considered symbol with this name
abbrev pub entry_named : List Entry → List ℕ → Option Entry
entry_named [] name = None
entry_named (e ∷ es) name = if bytes_eq e.name name then Some e else entry_named es name

-- the number and class of that symbol
abbrev pub symbol_found : Dictionary → List ℕ → Result Owner Fault
symbol_found d name = or_refused NO_SYMBOL (option_map owner_of (entry_named d.entries name))

abbrev pub by_name : Dictionary → List ℕ → Result ℕ Fault
by_name d name = or_refused NO_SYMBOL (option_map (λ e. e.number) (entry_named d.entries name))

-- the last type of the first label with this name
abbrev pub last_of_label : List Label → List ℕ → Option ℕ
last_of_label [] name = None
last_of_label (x ∷ xs) name = if bytes_eq x.name name then Some x.last else last_of_label xs name

abbrev pub label_of : Dictionary → List ℕ → Result ℕ Fault
label_of d name = or_refused NO_LABEL (last_of_label d.labels name)
