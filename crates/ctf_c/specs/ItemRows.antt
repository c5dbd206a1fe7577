-- Rows of symbols, labels and arguments for C. Source: ours; a row gives the answers of the single
-- calls.
use Rattle.std.specs.Prelude.{◌≡◌, ℕ, ◌^◌, ◌==◌, min, List, length, Option, Some, Result, Ok, option_map, option_and_then, slice_get, if◌then◌else◌}
use Rattle.std.specs.List.{range_with_len}
use Rattle.ctf_c.specs.Given.{Gives, ask}
use Rattle.ctf_c.specs.names.Places.{text_in}
use Rattle.ctf_c.specs.declared.label_rows.GivenLabelRow.{GivenLabelRow}
use Rattle.ctf_c.specs.declared.symbol_rows.GivenSymbolRow.{GivenSymbolRow}
use Rattle.ctf_model.specs.declared.faults.Fault.{Fault}
use Rattle.ctf_model.specs.declared.faults.TheConstants.Fault.{NO_SYMBOL, WRONG_KIND}
use Rattle.ctf_model.specs.format.Dictionary.{Dictionary, Label}
use Rattle.ctf_model.specs.format.Lists.{Lists}
use Rattle.ctf_model.specs.format.Shown.{Shape, arguments_in, named_arguments}
use Rattle.ctf_model.specs.opened.Open.{Open, own_in}
use Rattle.ctf_model.specs.opened.Questions.{answer_map}
use Rattle.ctf_model.specs.symbols.Entries.{Signature}
use Rattle.ctf_model.specs.symbols.SymbolQuestions.{function_of, name_of_symbol, object_of, or_refused}

-- the dictionary's own lists
abbrev pub own_lists_of : Option Open → Option Lists
own_lists_of s = option_map (λ o. o.own.lists) s

-- ---- labels

-- the row of a label: where its name is in the lists, and its last type
abbrev pub TellsLabel : Option Lists → Label → GivenLabelRow → Type 0
TellsLabel lists x row =
    (option_and_then (λ s. text_in s row.name_list row.name_at) lists ≡ Some x.name)
    × (row.last ≡ x.last)

-- ---- symbols

-- the numbers of a program's symbols, in order, as far as 32 bits go
abbrev pub symbol_numbers : Dictionary → List ℕ
symbol_numbers d = range_with_len 0 (min (length d.symbols) (2 ^ 32))

-- the class of a symbol: 1 for an object, 2 for a function, 0 for anything else
abbrev pub class_of_sort : ℕ → ℕ
class_of_sort sort = if sort == 1 then 1 else if sort == 2 then 2 else 0

-- the class of symbol number `n`
abbrev pub class_answered : Dictionary → ℕ → Result ℕ Fault
class_answered d n =
    or_refused NO_SYMBOL (option_map (λ x. class_of_sort x.sort) (slice_get d.symbols n))

-- the return type of a function
abbrev pub return_of : Result Signature Fault → Result ℕ Fault
return_of f = answer_map (λ s. s.ret) f

-- the row of symbol number `n`: its class; the return type of a function or the type of an object,
-- with the status of the single call, and 0 if refused; and where its name is
pub record TellsSymbol (s : Option Open) (n : ℕ) (row : GivenSymbolRow) : Type 0 where
  pub number : row.number ≡ n
  pub class : ask s (λ o. class_answered (own_in o) n) ≡ Ok row.symbol_class
  pub function : row.symbol_class ≡ 2 → Gives (ask s (λ o. return_of (function_of (own_in o) n)))
      row.type_status 0 row.tnum
  pub object : (row.symbol_class ≡ 2 → ⊥) → Gives (ask s (λ o. object_of (own_in o) n))
      row.type_status 0 row.tnum
  pub name : (said : List ℕ) × (ask s (λ o. name_of_symbol (own_in o) n) ≡ Ok said)
      × (option_and_then (λ lists. text_in lists row.name_list row.name_at) (own_lists_of s)
      ≡ Some said)

-- ---- arguments

-- the row of an argument is its type
abbrev pub IsArgument : ℕ → ℕ → Type 0
IsArgument t row = row ≡ t

-- the arguments of a function type, as stored
abbrev pub arguments_answered : Shape → Result (List ℕ) Fault
arguments_answered x = or_refused WRONG_KIND (arguments_in x.behind)

-- the named arguments of a program's function
abbrev pub named_list : Result Signature Fault → Result (List ℕ) Fault
named_list f = answer_map (λ s. named_arguments s.args) f
