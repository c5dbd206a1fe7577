-- Worked rows of the definitions on small inputs. The values were worked out by hand from the
-- format.
use Rattle.std.specs.Prelude.{◌≡◌, ℕ, ◌/◌, ◌%◌, ◌^◌, true, false, List, [], ◌∷◌, ◌++◌, take, slice_set, Some, None, Ok, Err, codes}
use Rattle.ctf_model.specs.format.Dictionary.{Dictionary, denoted}
use Rattle.ctf_model.specs.rules.Faults.{first_fault}
use Rattle.ctf_model.specs.format.Lists.{Lists}
use Rattle.ctf_model.specs.format.Record.{variant_len}
use Rattle.ctf_model.specs.format.Term.{Scalar, Body, Term}
use Rattle.ctf_model.specs.format.Term as term
use Rattle.ctf_model.specs.spaces.TypeNumbers.{type_at}
use Rattle.ctf_model.specs.declared.faults.Fault.{Fault}
use Rattle.ctf_model.specs.declared.kinds.Kind.TheVariants.{KInteger, KFloat, KPointer, KArray, KFunction, KStruct, KUnion, KEnum}

-- ---- inputs

-- a number in four bytes, low byte first
abbrev pub word : ℕ → List ℕ
word n = n % 256 ∷ n / 256 % 256 ∷ n / 2 ^ 16 % 256 ∷ n / 2 ^ 24 ∷ []

-- a header without flags, labels and parent's label: the parent's name, four offsets, and the
-- strings' length
abbrev pub header : ℕ → ℕ → ℕ → ℕ → ℕ → ℕ → List ℕ
header parname objtoff funcoff typeoff stroff strlen =
    0xf1 ∷ 0xcf ∷ 2 ∷ 0 ∷ (word 0 ++ word parname ++ word 0 ++ word objtoff ++ word funcoff
    ++ word typeoff ++ word stroff ++ word strlen)

-- a record of an integer: its name, then kind 1 and the root flag, its size, and the encoding word
abbrev pub integer_record : ℕ → List ℕ
integer_record name = word name ++ 0 ∷ 0x0c ∷ 4 ∷ 0 ∷ 0x20 ∷ 0 ∷ 0 ∷ 1 ∷ []

-- the 53 bytes of a dictionary with one type, the integer int
abbrev pub int_bytes : List ℕ
int_bytes = header 0 0 0 0 12 5 ++ integer_record 1 ++ 0 ∷ 105 ∷ 110 ∷ 116 ∷ 0 ∷ []

-- the same with its name in the strings of a symbol table
abbrev pub outer_bytes : List ℕ
outer_bytes = header 0 0 0 0 12 0 ++ integer_record 0x80000001

-- a child of `p` with the parent's label `q`, one label `r` that covers type 0x8001, and no types
abbrev pub child_bytes : List ℕ
child_bytes =
    0xf1 ∷ 0xcf ∷ 2 ∷ 0
    ∷ (word 3 ++ word 1 ++ word 0 ++ word 8 ++ word 8 ++ word 8 ++ word 8 ++ word 7) ++ word 5
    ++ word 0x8001 ++ 0 ∷ 112 ∷ 0 ∷ 113 ∷ 0 ∷ 114 ∷ 0 ∷ []

-- an integer without a name in the long form, of 2^32 + 4 bytes, hidden
abbrev pub long_bytes : List ℕ
long_bytes =
    header 0 0 0 0 20 0 ++ word 0 ++ 0 ∷ 8 ∷ 0xff ∷ 0xff ∷ (word 1 ++ word 4) ++ 0x10 ∷ 0
    ∷ 3 ∷ 2 ∷ []

-- lists without a symbol table
abbrev pub ctf_alone : List ℕ → Lists
ctf_alone ctf = record { ctf = ctf; sym = None; strs = None }

abbrev pub fault : ℕ → ℕ → Fault
fault code place = record { code = code; place = place }

-- ---- the dictionaries that they denote

-- a visible integer of four bytes
abbrev pub four_bytes : List ℕ → Term
four_bytes name =
    record {
      name = name;
      root = true;
      body = term.integer (record { size = 4; encoding = 1; offset = 0; bits = 32 });
    }

abbrev pub int : Term
int = four_bytes (codes "int")

-- a dictionary of these types that is no child, without labels
abbrev pub of_types : List Term → Dictionary
of_types types =
    record {
      child = false;
      parname = [];
      parlabel = [];
      labels = [];
      terms = types;
      symbols = [];
      entries = [];
    }

abbrev pub child : Dictionary
child =
    record {
      child = true;
      parname = codes "p";
      parlabel = codes "q";
      labels = record { name = codes "r"; last = 0x8001 } ∷ [];
      terms = [];
      symbols = [];
      entries = [];
    }

abbrev pub long_integer : Term
long_integer =
    record {
      name = [];
      root = false;
      body = term.integer (record { size = 4294967300; encoding = 2; offset = 3; bits = 16 });
    }

pub record BytesDenote : Type 0 where
  pub one_int : denoted (ctf_alone int_bytes) ≡ Some (of_types (int ∷ []))
  pub byte_more : denoted (ctf_alone (int_bytes ++ 7 ∷ [])) ≡ Some (of_types (int ∷ []))
  pub outer_name :
      denoted (record { ctf = outer_bytes; sym = None; strs = Some (0 ∷ 120 ∷ 110 ∷ 0 ∷ []) })
      ≡ Some (of_types (four_bytes (codes "xn") ∷ []))
  pub empty : denoted (ctf_alone (header 0 0 0 0 0 0)) ≡ Some (of_types [])
  pub a_child : denoted (ctf_alone child_bytes) ≡ Some child
  pub long_form : denoted (ctf_alone long_bytes) ≡ Some (of_types (long_integer ∷ []))

-- ---- faults

pub record BytesHaveFaults : Type 0 where
  pub no_byte : first_fault (ctf_alone []) ≡ Some (fault 1 0)
  pub three_bytes : first_fault (ctf_alone (take 3 int_bytes)) ≡ Some (fault 1 0)
  pub magic : first_fault (ctf_alone (slice_set int_bytes 0 0xf2)) ≡ Some (fault 2 0)
  pub version : first_fault (ctf_alone (slice_set int_bytes 2 3)) ≡ Some (fault 3 0)
  pub compressed : first_fault (ctf_alone (slice_set int_bytes 3 1)) ≡ Some (fault 4 0)
  pub version_before_flags : first_fault (ctf_alone (slice_set (slice_set int_bytes 3 1) 2 3))
      ≡ Some (fault 3 0)
  pub no_header : first_fault (ctf_alone (take 4 int_bytes)) ≡ Some (fault 5 0)
  pub short_header : first_fault (ctf_alone (take 35 int_bytes)) ≡ Some (fault 5 0)
  pub order : first_fault (ctf_alone (header 0 4 0 8 12 0)) ≡ Some (fault 6 0)
  pub align : first_fault (ctf_alone (header 0 0 0 2 12 0)) ≡ Some (fault 7 0)
  pub no_sections : first_fault (ctf_alone (take 36 int_bytes)) ≡ Some (fault 8 0)
  pub cut_strings : first_fault (ctf_alone (take 52 int_bytes)) ≡ Some (fault 8 0)
  pub strings : first_fault (ctf_alone (header 0 0 0 0 0 1 ++ 105 ∷ [])) ≡ Some (fault 9 0)
  pub cut_record : first_fault (ctf_alone (header 0 0 0 0 8 0 ++ take 8 (integer_record 0)))
      ≡ Some (fault 10 1)
  pub cut_second :
      first_fault (ctf_alone (header 0 0 0 0 16 0 ++ integer_record 0 ++ 0 ∷ 0 ∷ 0 ∷ 0 ∷ []))
      ≡ Some (fault 10 2)
  pub no_table : first_fault (ctf_alone outer_bytes) ≡ Some (fault 13 36)
  pub parent_name : first_fault (ctf_alone (header 1 0 0 0 0 0)) ≡ Some (fault 13 8)

-- ---- lengths of what follows a head

pub record ListsAreLong : Type 0 where
  pub integer : variant_len KInteger 4 0 ≡ 4
  pub float : variant_len KFloat 8 0 ≡ 4
  pub pointer : variant_len KPointer 1 0 ≡ 0
  pub array : variant_len KArray 0 0 ≡ 8
  pub two_arguments : variant_len KFunction 0 2 ≡ 4
  pub three_arguments : variant_len KFunction 0 3 ≡ 8
  pub short_members : variant_len KStruct 8191 2 ≡ 16
  pub long_members : variant_len KStruct 8192 2 ≡ 32
  pub union : variant_len KUnion 8 3 ≡ 24
  pub enumerators : variant_len KEnum 4 3 ≡ 24

-- ---- the type of a number

-- a child with one own type
abbrev pub child_of_int : Dictionary
child_of_int = record child { terms = int ∷ [] }

pub record NumbersName : Type 0 where
  pub zero_is_none : type_at (of_types (int ∷ [])) None 0 ≡ Err (fault 24 0)
  pub first : type_at (of_types (int ∷ [])) None 1 ≡ Ok int
  pub past : type_at (of_types (int ∷ [])) None 2 ≡ Err (fault 24 0)
  pub no_parent : type_at child_of_int None 3 ≡ Err (fault 23 0)
  pub in_parent : type_at child_of_int (Some (of_types (long_integer ∷ []))) 1 ≡ Ok long_integer
  pub past_parent : type_at child_of_int (Some (of_types (long_integer ∷ []))) 2 ≡ Err (fault 24 0)
  pub child_zero : type_at child_of_int None 0 ≡ Err (fault 24 0)
  pub between : type_at child_of_int None 0x8000 ≡ Err (fault 24 0)
  pub own : type_at child_of_int None 0x8001 ≡ Ok int
  pub past_own : type_at child_of_int None 0x8002 ≡ Err (fault 24 0)
