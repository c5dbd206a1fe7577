-- Worked rows of shown values. The values were worked out by hand.
use Rattle.std.specs.Prelude.{◌≡◌, ℕ, ℤ, pos, negsuc, true, false, List, [], ◌∷◌, Some, None, Result, Ok, Err, codes}
use Rattle.ctf_model.specs.figures.FigureRows.{array_of, by_itself, dictionary, fault, member, bare_term}
use Rattle.ctf_model.specs.format.Term.{Term, Body, Enumerator}
use Rattle.ctf_model.specs.format.Term as term
use Rattle.ctf_model.specs.values.Values.{value_text}
use Rattle.ctf_model.specs.declared.data_model.DataModel.TheVariants.{Lp64, Ilp32}
use Rattle.ctf_model.specs.declared.faults.Fault.{Fault}

-- ---- inputs

-- an integer type: its encoding, offset and width
abbrev pub integer_at : ℕ → ℕ → ℕ → Term
integer_at encoding offset bits =
    bare_term
    (term.integer (record { size = 4; encoding = encoding; offset = offset; bits = bits }))

abbrev pub float_at : ℕ → ℕ → Term
float_at offset bits =
    bare_term (term.float (record { size = 8; encoding = 2; offset = offset; bits = bits }))

abbrev pub enumerator : List ℕ → ℤ → Enumerator
enumerator name value = record { name = name; value = value }

-- int, char, a struct of a char and an int, three bits at offset six, an enum with A = 1, double, a
-- forward, a pointer, an array of two of the struct, a typedef of it, const of that, an array of no
-- forwards, an array of two forwards, a union of a nameless int and a char, an integer without
-- bits, one of 65 bits, a signed one of 64, an unsigned one of 32, an enum of 16 bytes, one of a
-- byte with A = -1, a nameless enumerator = 0, B = -1, C = 128, one without a size, a struct of a
-- char and a forward, an unknown type, a function, a typedef of nothing, a struct of a missing
-- type, an empty struct, an array of three of it, a float without bits, a float of 12 bits at
-- offset 4, an integer of 9 bits at offset 255
abbrev pub types : List Term
types =
    integer_at 1 0 32 ∷ integer_at 3 0 8
    ∷ bare_term (term.struct 8 (member (codes "c") 2 0 ∷ member (codes "i") 1 32 ∷ []))
    ∷ integer_at 1 6 3
    ∷ bare_term (term.enum 4 (enumerator (codes "A") (pos 1) ∷ []))
    ∷ float_at 0 64
    ∷ bare_term (term.forward term.struct_tag)
    ∷ bare_term (term.pointer 1)
    ∷ array_of 0 3 2 ∷ bare_term (term.typedef 3) ∷ bare_term (term.const 10)
    ∷ array_of 0 7 0 ∷ array_of 0 7 2
    ∷ bare_term (term.union 4 (member [] 1 0 ∷ member (codes "d") 2 8 ∷ []))
    ∷ integer_at 1 0 0 ∷ integer_at 1 0 65 ∷ integer_at 1 0 64 ∷ integer_at 0 0 32
    ∷ bare_term (term.enum 16 [])
    ∷ bare_term (term.enum 1 (enumerator (codes "A") (negsuc 0) ∷ enumerator [] (pos 0)
    ∷ enumerator (codes "B") (negsuc 0) ∷ enumerator (codes "C") (pos 128) ∷ []))
    ∷ bare_term (term.enum 0 [])
    ∷ bare_term (term.struct 8 (member (codes "c") 2 0 ∷ member (codes "f") 7 8
    ∷ member (codes "d") 2 0 ∷ []))
    ∷ bare_term term.unknown ∷ bare_term (term.function 1 []) ∷ bare_term (term.typedef 0)
    ∷ bare_term (term.struct 8 (member [] 99 0 ∷ []))
    ∷ bare_term (term.struct 0 []) ∷ array_of 0 27 3
    ∷ float_at 0 0 ∷ float_at 4 12 ∷ integer_at 2 255 9
    ∷ []

abbrev pub shows : List ℕ → ℕ → ℕ → Result (List ℕ) Fault
shows memory n p = value_text (by_itself Lp64 types) memory n p

abbrev pub ten_bytes : List ℕ
ten_bytes = 0x41 ∷ 0x80 ∷ 0x00 ∷ 0xff ∷ 0xff ∷ 0xff ∷ 0xff ∷ 0xff ∷ 0x12 ∷ 0x03 ∷ []

-- ---- each kind

pub record ValuesShow : Type 0 where
  -- three bits at offset six: 111, and 010
  pub below_zero : shows (0xc0 ∷ 0x01 ∷ []) 4 0 ≡ Ok (codes "-1")
  pub above_zero : shows (0x80 ∷ 0x00 ∷ []) 4 0 ≡ Ok (codes "2")
  pub short : shows (0xc0 ∷ []) 4 0 ≡ Err (fault 48 0)
  -- the same three bits, for a value that begins at bit 3
  pub from_a_bit : shows (0 ∷ 0x0e ∷ []) 4 3 ≡ Ok (codes "-1")
  pub struct : shows (0x41 ∷ 0 ∷ 0 ∷ 0 ∷ 5 ∷ 0 ∷ 0 ∷ 0 ∷ []) 3 0 ≡ Ok (codes "{c = 65, i = 5}")
  pub enumerator_named : shows (1 ∷ 0 ∷ 0 ∷ 0 ∷ []) 5 0 ≡ Ok (codes "A")
  pub other_number : shows (2 ∷ 0 ∷ 0 ∷ 0 ∷ []) 5 0 ≡ Ok (codes "2")
  pub number_below_zero : shows (0xff ∷ 0xff ∷ 0xff ∷ 0xff ∷ []) 5 0 ≡ Ok (codes "-1")
  pub double : shows (0 ∷ 0 ∷ 0 ∷ 0 ∷ 0 ∷ 0 ∷ 0xf0 ∷ 0x3f ∷ []) 6 0
      ≡ Ok (codes "0x3ff0000000000000")
  pub forward : shows ten_bytes 7 0 ≡ Err (fault 26 0)
  pub pointer : shows ten_bytes 8 0 ≡ Ok (codes "0xffffffffff008041")
  pub pointer_short : shows (1 ∷ 2 ∷ 3 ∷ 4 ∷ []) 8 0 ≡ Err (fault 48 0)
  pub short_pointer : value_text (by_itself Ilp32 types) (1 ∷ 2 ∷ 3 ∷ 4 ∷ []) 8 0
      ≡ Ok (codes "0x04030201")
  pub array : shows (1 ∷ 0 ∷ 0 ∷ 0 ∷ 2 ∷ 0 ∷ 0 ∷ 0 ∷ 0xff ∷ 0 ∷ 0 ∷ 0 ∷ 4 ∷ 1 ∷ 0 ∷ 0 ∷ []) 9 0
      ≡ Ok (codes "[{c = 1, i = 2}, {c = -1, i = 260}]")
  pub qualified : shows (0x41 ∷ 0 ∷ 0 ∷ 0 ∷ 5 ∷ 0 ∷ 0 ∷ 0 ∷ []) 11 0 ≡ Ok (codes "{c = 65, i = 5}")
  pub no_elements : shows [] 12 0 ≡ Ok (codes "[]")
  pub no_size : shows [] 13 0 ≡ Err (fault 26 0)
  pub union : shows (1 ∷ 2 ∷ 0 ∷ 0 ∷ []) 14 0 ≡ Ok (codes "{513, d = 2}")
  pub no_bits : shows [] 15 7 ≡ Ok (codes "void")
  pub many_bits : shows ten_bytes 16 0 ≡ Ok (codes "0x00ffffffffff008041")
  pub all_bits : shows ten_bytes 17 8 ≡ Ok (codes "1369094286720565376")
  pub least : shows (0 ∷ 0 ∷ 0 ∷ 0 ∷ 0 ∷ 0 ∷ 0 ∷ 0x80 ∷ []) 17 0 ≡ Ok (codes "-9223372036854775808")
  pub unsigned : shows (0xff ∷ 0xff ∷ 0xff ∷ 0xff ∷ []) 18 0 ≡ Ok (codes "4294967295")
  pub wide_enum : shows (1 ∷ 0 ∷ 0 ∷ 0 ∷ 0 ∷ 0 ∷ 0 ∷ 0 ∷ 2 ∷ 0 ∷ 0 ∷ 0 ∷ 0 ∷ 0 ∷ 0 ∷ 0xab ∷ []) 19 0
      ≡ Ok (codes "0xab000000000000020000000000000001")
  -- the first enumerator with a value
  pub first_name : shows (0xff ∷ []) 20 0 ≡ Ok (codes "A")
  pub no_name : shows (0 ∷ []) 20 0 ≡ Ok []
  pub never_so_great : shows (0x80 ∷ []) 20 0 ≡ Ok (codes "-128")
  pub enum_of_int : shows (0 ∷ 0 ∷ 0 ∷ 0x80 ∷ []) 21 0 ≡ Ok (codes "-2147483648")
  pub enum_of_int_short : shows (0 ∷ 0 ∷ 0 ∷ []) 21 0 ≡ Err (fault 48 0)
  pub first_fault : shows (1 ∷ []) 22 0 ≡ Err (fault 26 0)
  pub short_before : shows [] 22 0 ≡ Err (fault 48 0)
  pub unknown : shows ten_bytes 23 0 ≡ Err (fault 26 0)
  pub function : shows ten_bytes 24 0 ≡ Err (fault 26 0)
  pub of_nothing : shows ten_bytes 25 0 ≡ Err (fault 26 0)
  pub of_none : shows ten_bytes 26 0 ≡ Err (fault 24 0)
  pub no_type : shows ten_bytes 99 0 ≡ Err (fault 24 0)
  pub no_number : shows ten_bytes 0 0 ≡ Err (fault 26 0)
  pub empties : shows [] 28 100 ≡ Ok (codes "[{}, {}, {}]")
  pub void_float : shows [] 29 0 ≡ Ok (codes "void")
  pub float_behind : shows (0xf1 ∷ 0x62 ∷ []) 30 0 ≡ Ok (codes "0x062f")
  pub far : shows ten_bytes 31 0 ≡ Err (fault 48 0)

-- ---- over a parent

-- a child with an array of two of its parent's type 3, and a typedef of that type
abbrev pub childs : List Term
childs = array_of 0 3 2 ∷ bare_term (term.typedef 3) ∷ []

abbrev pub in_child : List ℕ → ℕ → Result (List ℕ) Fault
in_child memory n =
    value_text
    (record {
      own = dictionary true childs;
      parent = Some (dictionary false types);
      model = Lp64;
    })
    memory n 0

abbrev pub without : List ℕ → ℕ → Result (List ℕ) Fault
without memory n =
    value_text (record { own = dictionary true childs; parent = None; model = Lp64 }) memory n 0

pub record ValuesOverParents : Type 0 where
  pub parents : in_child (1 ∷ 0 ∷ 0 ∷ 0 ∷ 2 ∷ 0 ∷ 0 ∷ 0 ∷ []) 3 ≡ Ok (codes "{c = 1, i = 2}")
  pub named : in_child (1 ∷ 0 ∷ 0 ∷ 0 ∷ 2 ∷ 0 ∷ 0 ∷ 0 ∷ []) 0x8002 ≡ Ok (codes "{c = 1, i = 2}")
  pub array : in_child (1 ∷ 0 ∷ 0 ∷ 0 ∷ 2 ∷ 0 ∷ 0 ∷ 0 ∷ 3 ∷ 0 ∷ 0 ∷ 0 ∷ 4 ∷ 0 ∷ 0 ∷ 0 ∷ []) 0x8001
      ≡ Ok (codes "[{c = 1, i = 2}, {c = 3, i = 4}]")
  pub no_parent : without [] 0x8002 ≡ Err (fault 23 0)
  pub array_without : without [] 0x8001 ≡ Err (fault 23 0)
