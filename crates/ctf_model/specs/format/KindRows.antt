-- Worked rows for the kinds of types. The values were worked out by hand from the format.
use Rattle.std.specs.Prelude.{◌≡◌, ℕ, ◌+◌, ◌*◌, ◌^◌, ◌/◌, ◌%◌, negsuc, true, false, map, List, [], ◌∷◌, ◌++◌, Some, None, codes}
use Rattle.ctf_model.specs.format.Dictionary.{denoted}
use Rattle.ctf_model.specs.rules.Faults.{first_fault}
use Rattle.ctf_model.specs.format.Record.{kinds}
use Rattle.ctf_model.specs.format.Shown.{is_variadic, named_arguments}
use Rattle.ctf_model.specs.format.SpelledTypes.{is_short_kind}
use Rattle.ctf_model.specs.format.Rows.{word, header, integer_record, ctf_alone, fault, int, of_types}
use Rattle.ctf_model.specs.format.Term.{Scalar, Elements, Member, Enumerator, Body, Term}
use Rattle.ctf_model.specs.format.Term as term

-- ---- inputs

-- a number in two bytes, low byte first
abbrev pub half : ℕ → List ℕ
half n = n % 256 ∷ n / 256 ∷ []

-- the head of a hidden record: name, kind, list length, and field
abbrev pub head : ℕ → ℕ → ℕ → ℕ → List ℕ
head name kind vlen field = word name ++ half (2048 * kind + vlen) ++ half field

-- the same in the long form, with the high and low half of a size
abbrev pub long_head : ℕ → ℕ → ℕ → ℕ → List ℕ
long_head kind vlen high low = head 0 kind vlen 0xffff ++ word high ++ word low

-- two functions that return type 3: one with one argument and padding, one with two
abbrev pub functions : List ℕ
functions =
    header 0 0 0 0 36 5 ++ (head 0 5 1 3 ++ half 3 ++ half 0xffff)
    ++ (head 0 5 2 3 ++ half 3 ++ half 0) ++ integer_record 1 ++ 0 ∷ codes "int" ++ 0 ∷ []

-- a struct of 8191 bytes and one of 8192 bytes, each with the members a and b
abbrev pub structs : List ℕ
structs = header 0 0 0 0 76 9 ++ integer_record 1
    ++ (head 0 6 2 8191 ++ (word 5 ++ half 1 ++ half 0) ++ (word 7 ++ half 1 ++ half 32))
    ++ (head 0 6 2 8192 ++ (word 5 ++ half 1 ++ half 0 ++ word 0 ++ word 0) ++ (word 7 ++ half 1
    ++ half 0 ++ word 1 ++ word 32))
    ++ 0 ∷ codes "int" ++ 0 ∷ codes "a" ++ 0 ∷ codes "b" ++ 0 ∷ []

-- a type of each other kind
abbrev pub others : List ℕ
others =
    header 0 0 0 0 116 3 ++ head 0 0 0 0 ++ (head 0 2 0 8 ++ word (2 * 2 ^ 24 + 64)) ++ head 0 3 0 2
    ++ (head 0 4 0 80 ++ half 2 ++ half 1 ++ word 10)
    ++ (head 0 7 1 4 ++ word 0 ++ half 2 ++ half 5) ++ (head 0 8 1 4 ++ word 1 ++ word 0xffffffff)
    ++ head 0 9 0 8 ++ head 1 10 0 2 ++ head 0 11 0 8 ++ head 0 12 0 9 ++ head 0 13 0 3 ++ 0
    ∷ codes "A" ++ 0 ∷ []

-- ---- the dictionaries that they denote

abbrev pub hidden : List ℕ → Body → Term
hidden name body = record { name = name; root = false; body = body }

-- the members `a` and `b`, `b` at an offset
abbrev pub members : ℕ → List Member
members offset =
    record { name = codes "a"; tnum = 1; offset = 0 }
    ∷ record { name = codes "b"; tnum = 1; offset = offset } ∷ []

abbrev pub other_types : List Term
other_types =
    hidden [] term.unknown
    ∷ hidden [] (term.float (record { size = 8; encoding = 2; offset = 0; bits = 64 }))
    ∷ hidden [] (term.pointer 2)
    ∷ hidden [] (term.array (record { size = 80; contents = 2; index = 1; count = 10 }))
    ∷ hidden [] (term.union 4 (record { name = []; tnum = 2; offset = 5 } ∷ []))
    ∷ hidden [] (term.enum 4 (record { name = codes "A"; value = negsuc 0 } ∷ []))
    ∷ hidden [] (term.forward term.enum_tag)
    ∷ hidden (codes "A") (term.typedef 2)
    ∷ hidden [] (term.volatile 8)
    ∷ hidden [] (term.const 9)
    ∷ hidden [] (term.restrict 3)
    ∷ []

pub record KindsDenote : Type 0 where
  -- only these kinds have no long form: pointer, function, and forward to restrict
  pub short_alone : map is_short_kind kinds
      ≡ false ∷ false ∷ false ∷ true ∷ false ∷ true ∷ false ∷ false ∷ false ∷ true ∷ true ∷ true
      ∷ true ∷ true ∷ []
  pub function : denoted (ctf_alone functions)
      ≡ Some (of_types (hidden [] (term.function 3 (3 ∷ []))
      ∷ hidden [] (term.function 3 (3 ∷ 0 ∷ [])) ∷ int ∷ []))
  pub struct : denoted (ctf_alone structs)
      ≡ Some (of_types (int ∷ hidden [] (term.struct 8191 (members 32))
      ∷ hidden [] (term.struct 8192 (members (2 ^ 32 + 32))) ∷ []))
  pub other : denoted (ctf_alone others) ≡ Some (of_types other_types)
  pub long_unknown : denoted (ctf_alone (header 0 0 0 0 16 0 ++ long_head 0 0 0 0))
      ≡ Some (of_types (hidden [] term.unknown ∷ []))
  -- in the long form of a small struct, members still have 8 bytes
  pub long_struct :
      denoted (ctf_alone (header 0 0 0 0 24 0 ++ long_head 6 1 0 4 ++ word 0 ++ half 0 ++ half 3))
      ≡ Some (of_types (hidden [] (term.struct 4 (record { name = []; tnum = 0; offset = 3 } ∷ []))
      ∷ []))

-- ---- faults

pub record KindsHaveFaults : Type 0 where
  pub no_pad : first_fault (ctf_alone (header 0 0 0 0 10 0 ++ head 0 5 1 0 ++ half 0))
      ≡ Some (fault 10 1)
  pub next_kind : first_fault (ctf_alone (header 0 0 0 0 8 0 ++ head 0 14 0 0)) ≡ Some (fault 11 1)
  pub cut_long_form : first_fault (ctf_alone (header 0 0 0 0 8 0 ++ head 0 3 0 0xffff))
      ≡ Some (fault 10 1)
  pub long_pointer : first_fault (ctf_alone (header 0 0 0 0 16 0 ++ long_head 3 0 0 0))
      ≡ Some (fault 14 1)
  pub long_forward : first_fault (ctf_alone (header 0 0 0 0 16 0 ++ long_head 9 0 0 0))
      ≡ Some (fault 14 1)
  pub name : first_fault (ctf_alone (header 0 0 0 0 8 0 ++ head 9 0 0 0)) ≡ Some (fault 13 36)
  pub member_name :
      first_fault (ctf_alone (header 0 0 0 0 16 0 ++ head 0 6 1 4 ++ word 9 ++ half 0 ++ half 0))
      ≡ Some (fault 13 44)
  pub second_enumerator :
      first_fault (ctf_alone (header 0 0 0 0 24 0 ++ head 0 8 2 4 ++ word 0 ++ word 0
      ++ word 9 ++ word 0))
      ≡ Some (fault 13 52)
  -- a record that is cut off comes before a bad name of one in front of it
  pub least_rule : first_fault (ctf_alone (header 0 0 0 0 12 0 ++ head 9 0 0 0 ++ word 0))
      ≡ Some (fault 10 2)
  pub past_the_count : first_fault (ctf_alone (header 0 0 0 0 16 0 ++ head 0 0 0 0 ++ head 0 3 0 3))
      ≡ Some (fault 14 2)
  pub argument : first_fault (ctf_alone (header 0 0 0 0 12 0 ++ head 0 5 1 0 ++ half 2 ++ half 0))
      ≡ Some (fault 14 1)
  pub array_index :
      first_fault (ctf_alone (header 0 0 0 0 16 0 ++ head 0 4 0 0 ++ half 0 ++ half 2 ++ word 1))
      ≡ Some (fault 14 1)
  pub child_of_parent :
      first_fault (ctf_alone (header 1 0 0 0 8 3 ++ head 0 3 0 3 ++ 0 ∷ 112 ∷ 0 ∷ [])) ≡ None
  pub child_between :
      first_fault (ctf_alone (header 1 0 0 0 8 3 ++ head 0 3 0 0x8000 ++ 0 ∷ 112 ∷ 0 ∷ []))
      ≡ Some (fault 14 1)
  pub child_past_the_count :
      first_fault (ctf_alone (header 1 0 0 0 8 3 ++ head 0 3 0 0x8002 ++ 0 ∷ 112 ∷ 0 ∷ []))
      ≡ Some (fault 14 1)
  pub own_of_child :
      first_fault (ctf_alone (header 1 0 0 0 8 3 ++ head 0 3 0 0x8001 ++ 0 ∷ 112 ∷ 0 ∷ []))
      ≡ Some (fault 16 1)
  pub pointer_to_itself : first_fault (ctf_alone (header 0 0 0 0 8 0 ++ head 0 3 0 1))
      ≡ Some (fault 16 1)
  pub struct_in_itself :
      first_fault (ctf_alone (header 0 0 0 0 16 0 ++ head 0 6 1 4 ++ word 0 ++ half 1 ++ half 0))
      ≡ Some (fault 15 1)
  pub array_of_itself :
      first_fault (ctf_alone (header 0 0 0 0 16 0 ++ head 0 4 0 0 ++ half 1 ++ half 0 ++ word 1))
      ≡ Some (fault 15 1)
  pub list_cell :
      first_fault (ctf_alone (header 0 0 0 0 24 0 ++ (head 0 6 1 8 ++ word 0 ++ half 2 ++ half 0)
      ++ head 0 3 0 1))
      ≡ None

-- a last argument 0 names no type: more arguments may follow
pub record ArgumentsAreNamed : Type 0 where
  pub none : named_arguments [] ≡ []
  pub two : named_arguments (3 ∷ 7 ∷ []) ≡ 3 ∷ 7 ∷ []
  pub first_of_none : named_arguments (0 ∷ 7 ∷ []) ≡ 0 ∷ 7 ∷ []
  pub more : named_arguments (3 ∷ 7 ∷ 0 ∷ []) ≡ 3 ∷ 7 ∷ []
  pub more_alone : named_arguments (0 ∷ []) ≡ []
  pub no_more : is_variadic (3 ∷ 7 ∷ []) ≡ false
  pub may_follow : is_variadic (3 ∷ 0 ∷ []) ≡ true
