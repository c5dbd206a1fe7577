-- Worked rows for symbols, entries and labels. The values were worked out by hand from the formats.
use Rattle.std.specs.Prelude.{◌≡◌, ℕ, ◌+◌, List, [], ◌∷◌, ◌++◌, Some, None, Result, Ok, Err, codes}
use Rattle.ctf_model.specs.format.Dictionary.{said_by}
use Rattle.ctf_model.specs.symbols.Entries.{Entry}
use Rattle.ctf_model.specs.symbols.Entries as info
use Rattle.ctf_model.specs.rules.Faults.{first_fault}
use Rattle.ctf_model.specs.format.KindRows.{half}
use Rattle.ctf_model.specs.format.Lists.{Lists}
use Rattle.ctf_model.specs.rules.Needs.{greatest_needed}
use Rattle.ctf_model.specs.format.Rows.{word, header, integer_record, fault}
use Rattle.ctf_model.specs.symbols.SymbolQuestions.{object_of, function_of, by_name, name_of_symbol, label_of}
use Rattle.ctf_model.specs.declared.faults.Fault.{Fault}

-- ---- inputs

-- a symbol: the offset of its name, its info byte, and its section; value and size are 0
abbrev pub symbol : ℕ → ℕ → ℕ → List ℕ
symbol name info section =
    word name ++ info ∷ 0 ∷ half section ++ word 0 ++ word 0 ++ word 0 ++ word 0

-- strings with names at 1, 9, 11, 13, 15, 17
abbrev pub program_strings : List ℕ
program_strings =
    0 ∷ codes "_START_" ++ 0 ∷ codes "x" ++ 0 ∷ codes "a" ++ 0 ∷ codes "b" ++ 0 ∷ codes "c" ++ 0
    ∷ codes "f" ++ 0 ∷ []

-- a null symbol; a linker's mark; objects that are undefined, absolute at 0, and twice in a
-- section; and a function
abbrev pub program_symbols : List ℕ
program_symbols =
    symbol 0 0 0 ++ symbol 1 0x11 1 ++ symbol 9 0x11 0 ++ symbol 11 0x11 0xfff1 ++ symbol 13 0x11 1
    ++ symbol 15 0x11 1 ++ symbol 17 0x12 1

-- a dictionary of int with these object and function sections, over these symbols
abbrev pub over : ℕ → List ℕ → List ℕ → ℕ → ℕ → Lists
over parname objects functions funcoff typeoff = record {
  ctf =
      header parname 0 funcoff typeoff (typeoff + 12) 5 ++ objects ++ functions ++ integer_record 1
      ++ 0 ∷ codes "int" ++ 0 ∷ [];
  sym = Some program_symbols;
  strs = Some program_strings;
}

abbrev pub plain_lists : Lists
plain_lists = over 0 (half 1) (half 0) 2 4

-- a function that takes and returns type 1, and a variadic one
abbrev pub one_argument : Lists
one_argument = over 0 (half 1) (half 0x2801 ++ half 1 ++ half 1) 2 8

abbrev pub any_arguments : Lists
any_arguments = over 0 (half 1) (half 0x2801 ++ half 1 ++ half 0) 2 8

-- a child whose object has a type of its parent
abbrev pub child_object : Lists
child_object = over 1 (half 9) (half 0) 2 4

-- a label `a` that covers 5 types
abbrev pub labelled_lists : Lists
labelled_lists =
    record {
      ctf = 0xf1 ∷ 0xcf ∷ 2 ∷ 0
          ∷ (word 0 ++ word 0 ++ word 0 ++ word 12 ++ word 12 ++ word 12 ++ word 12 ++ word 3)
          ++ word 1 ++ word 5 ++ word 0 ++ 0 ∷ codes "a" ++ 0 ∷ [];
      sym = None;
      strs = None;
    }

-- ---- answers

abbrev pub entry : ℕ → List ℕ → info.SymbolInfo → Entry
entry number name info = record { number = number; name = name; info = info }

abbrev refused : {A : Type 0} → ℕ → Result A Fault
refused code = Err (fault code 0)

pub record SymbolsTell : Type 0 where
  pub entries : (said_by plain_lists).entries
      ≡ entry 4 (codes "b") (info.object (Some 1)) ∷ entry 5 (codes "c") (info.object None)
      ∷ entry 6 (codes "f") (info.function None) ∷ []
  pub accepted : first_fault plain_lists ≡ None
  pub object_0 : object_of (said_by plain_lists) 0 ≡ refused 35
  pub object_1 : object_of (said_by plain_lists) 1 ≡ refused 37
  pub object_2 : object_of (said_by plain_lists) 2 ≡ refused 37
  pub object_3 : object_of (said_by plain_lists) 3 ≡ refused 37
  pub object_4 : object_of (said_by plain_lists) 4 ≡ Ok 1
  pub object_5 : object_of (said_by plain_lists) 5 ≡ refused 37
  pub object_6 : object_of (said_by plain_lists) 6 ≡ refused 35
  pub object_7 : object_of (said_by plain_lists) 7 ≡ refused 34
  pub function_4 : function_of (said_by plain_lists) 4 ≡ refused 36
  pub function_6 : function_of (said_by plain_lists) 6 ≡ refused 37
  pub symbol_b : by_name (said_by plain_lists) (codes "b") ≡ Ok 4
  pub symbol_x : by_name (said_by plain_lists) (codes "x") ≡ refused 34
  pub name_2 : name_of_symbol (said_by plain_lists) 2 ≡ Ok (codes "x")
  pub takes_one : function_of (said_by one_argument) 6 ≡ Ok (record { ret = 1; args = 1 ∷ [] })
  pub takes_any : function_of (said_by any_arguments) 6 ≡ Ok (record { ret = 1; args = 0 ∷ [] })
  pub in_a_child : object_of (said_by child_object) 4 ≡ Ok 9
  pub child_needs : greatest_needed (said_by child_object) ≡ 9
  pub label_a : label_of (said_by labelled_lists) (codes "a") ≡ Ok 5
  pub label_b : label_of (said_by labelled_lists) (codes "b") ≡ refused 38

pub record SymbolsHaveFaults : Type 0 where
  pub cut_entry : first_fault (over 0 (half 1) (half 0x0800) 2 4) ≡ Some (fault 17 6)
  pub cut_function : first_fault (over 0 (half 1) (half 0x2800) 2 4) ≡ Some (fault 17 6)
  pub no_type : first_fault (over 0 (half 2) (half 0) 2 4) ≡ Some (fault 18 4)
  pub least_rule : first_fault (over 0 (half 2) (half 0x0800) 2 4) ≡ Some (fault 17 6)
  pub byte_more : first_fault (record plain_lists { sym = Some (program_symbols ++ 0 ∷ []) })
      ≡ Some (fault 19 0)
  pub child : first_fault child_object ≡ None
  pub kind : first_fault (over 0 (half 1) (half 0x3801 ++ half 1 ++ half 1) 2 8) ≡ Some (fault 17 6)
  pub argument : first_fault (over 0 (half 1) (half 0x2801 ++ half 1 ++ half 2) 2 8)
      ≡ Some (fault 18 6)
  -- an entry of another kind is empty only without arguments; its root bit does not matter
  pub no_kind : first_fault (over 0 (half 1) (half 0x0001 ++ half 1 ++ half 1) 2 8)
      ≡ Some (fault 17 6)
  pub silent_root : first_fault (over 0 (half 1) (half 0x0400) 2 4) ≡ None
