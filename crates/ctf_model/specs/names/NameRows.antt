-- Worked rows of the names of types, as C spells them. The values were worked out by hand.
use Rattle.std.specs.Prelude.{◌≡◌, ℕ, true, false, List, [], ◌∷◌, Some, None, Result, Ok, Err, codes}
use Rattle.ctf_model.specs.format.Dictionary.{Dictionary}
use Rattle.ctf_model.specs.figures.FigureRows.{array_of, by_itself, dictionary, fault, integer_of, bare_term}
use Rattle.ctf_model.specs.format.Term.{Term, Body}
use Rattle.ctf_model.specs.format.Term as term
use Rattle.ctf_model.specs.names.TypeNames.{spelled_name}
use Rattle.ctf_model.specs.declared.data_model.DataModel.TheVariants.{Lp64}
use Rattle.ctf_model.specs.declared.faults.Fault.{Fault}

-- ---- inputs

abbrev pub with_name : List ℕ → Body → Term
with_name name body = record { name = name; root = true; body = body }

abbrev pub an_integer : List ℕ → Term
an_integer name = record (integer_of 4) { name = name }

-- int, an array of ten ints, a pointer to that, a pointer to int, an array of ten of these, char, a
-- pointer to it, const char pointer, a pointer to that, volatile int, const of that, an unnamed
-- struct, a pointer to it, a function that returns int, a pointer to it, const of the array, a
-- pointer to that, a const pointer to the function
abbrev pub ten : List Term
ten =
    an_integer (codes "int") ∷ array_of 0 1 10 ∷ bare_term (term.pointer 2)
    ∷ bare_term (term.pointer 1) ∷ array_of 0 4 10
    ∷ an_integer (codes "char") ∷ bare_term (term.pointer 6) ∷ bare_term (term.const 7)
    ∷ bare_term (term.pointer 8)
    ∷ bare_term (term.volatile 1) ∷ bare_term (term.const 10)
    ∷ bare_term (term.struct 0 []) ∷ bare_term (term.pointer 12)
    ∷ bare_term (term.function 1 []) ∷ bare_term (term.pointer 14)
    ∷ bare_term (term.const 2) ∷ bare_term (term.pointer 16) ∷ bare_term (term.const 15)
    ∷ []

abbrev pub in_ten : ℕ → Result (List ℕ) Fault
in_ten n = spelled_name (by_itself Lp64 ten) n

-- int, a pointer to it, volatile and then restrict of that, an array of three of these, an array of
-- four of those, a function that returns the pointer, a pointer to it, a function that returns
-- that, an array of two of that pointer, forwards, a named union and an enum, an unknown type, a
-- typedef, const of it, const of nothing, a pointer to that, pointers to missing types, a function
-- of nothing, const of it, a pointer to that, an unnamed float, a volatile pointer to const char
abbrev pub more : List Term
more =
    an_integer (codes "int") ∷ bare_term (term.pointer 1) ∷ bare_term (term.volatile 2)
    ∷ bare_term (term.restrict 3)
    ∷ array_of 0 4 3 ∷ array_of 0 5 4
    ∷ bare_term (term.function 2 []) ∷ bare_term (term.pointer 7)
    ∷ bare_term (term.function 8 (1 ∷ 0 ∷ [])) ∷ array_of 0 8 2
    ∷ with_name (codes "s") (term.forward term.struct_tag)
    ∷ with_name (codes "u") (term.forward term.union_tag) ∷ bare_term (term.forward term.enum_tag)
    ∷ with_name (codes "v") (term.union 8 []) ∷ with_name (codes "e") (term.enum 4 [])
    ∷ bare_term term.unknown ∷ with_name (codes "size_t") (term.typedef 2)
    ∷ bare_term (term.const 17)
    ∷ bare_term (term.const 0) ∷ bare_term (term.pointer 19)
    ∷ bare_term (term.pointer 99) ∷ bare_term (term.const 98)
    ∷ bare_term (term.function 0 []) ∷ bare_term (term.const 23) ∷ bare_term (term.pointer 24)
    ∷ bare_term (term.float (record { size = 4; encoding = 1; offset = 0; bits = 32 }))
    ∷ bare_term (term.const 26) ∷ bare_term (term.pointer 27) ∷ bare_term (term.volatile 28)
    ∷ bare_term (term.pointer 11)
    ∷ []

abbrev pub in_more : ℕ → Result (List ℕ) Fault
in_more n = spelled_name (by_itself Lp64 more) n

pub record NamesAreSpelled : Type 0 where
  pub integer : in_ten 1 ≡ Ok (codes "int")
  pub array : in_ten 2 ≡ Ok (codes "int [10]")
  pub pointer_to_array : in_ten 3 ≡ Ok (codes "int (*)[10]")
  pub pointer : in_ten 4 ≡ Ok (codes "int *")
  pub array_of_pointers : in_ten 5 ≡ Ok (codes "int *[10]")
  pub const_pointer : in_ten 8 ≡ Ok (codes "char *const")
  pub pointer_to_const_pointer : in_ten 9 ≡ Ok (codes "char *const *")
  pub volatile : in_ten 10 ≡ Ok (codes "volatile int")
  pub const_volatile : in_ten 11 ≡ Ok (codes "const volatile int")
  pub struct : in_ten 12 ≡ Ok (codes "struct (anon)")
  pub pointer_to_struct : in_ten 13 ≡ Ok (codes "struct (anon) *")
  pub function : in_ten 14 ≡ Ok (codes "int ()")
  pub pointer_to_function : in_ten 15 ≡ Ok (codes "int (*)()")
  pub const_array : in_ten 16 ≡ Ok (codes "const int [10]")
  pub pointer_to_const_array : in_ten 17 ≡ Ok (codes "const int (*)[10]")
  pub const_pointer_to_function : in_ten 18 ≡ Ok (codes "int (*const)()")
  pub nothing : in_ten 0 ≡ Ok (codes "void")
  pub past : in_ten 19 ≡ Err (fault 24 0)
  pub volatile_pointer : in_more 3 ≡ Ok (codes "int *volatile")
  pub restrict_pointer : in_more 4 ≡ Ok (codes "int *volatile restrict")
  pub array_of_restrict_pointers : in_more 5 ≡ Ok (codes "int *volatile restrict [3]")
  pub array_of_arrays : in_more 6 ≡ Ok (codes "int *volatile restrict [4][3]")
  pub returns_pointer : in_more 7 ≡ Ok (codes "int *()")
  pub returns_function : in_more 9 ≡ Ok (codes "int *(*())()")
  pub array_of_functions : in_more 10 ≡ Ok (codes "int *(*[2])()")
  pub forward_struct : in_more 11 ≡ Ok (codes "struct s")
  pub forward_union : in_more 12 ≡ Ok (codes "union u")
  pub forward_enum : in_more 13 ≡ Ok (codes "enum (anon)")
  pub union : in_more 14 ≡ Ok (codes "union v")
  pub enum : in_more 15 ≡ Ok (codes "enum e")
  pub unknown : in_more 16 ≡ Ok (codes "(anon)")
  -- the name of a typedef is its own, whatever it stands for
  pub typedef : in_more 17 ≡ Ok (codes "size_t")
  pub const_typedef : in_more 18 ≡ Ok (codes "const size_t")
  pub const_nothing : in_more 19 ≡ Ok (codes "const void")
  pub pointer_to_nothing : in_more 20 ≡ Ok (codes "const void *")
  pub pointer_to_none : in_more 21 ≡ Err (fault 24 0)
  pub const_none : in_more 22 ≡ Err (fault 24 0)
  pub pointer_to_const_function : in_more 25 ≡ Ok (codes "const void (*)()")
  pub volatile_pointer_to_const : in_more 29 ≡ Ok (codes "const (anon) *volatile")
  pub pointer_to_forward : in_more 30 ≡ Ok (codes "struct s *")

-- ---- over a parent

-- a child with a pointer to type 3 of its parent, a pointer to that, and a pointer to number
-- 0x8000, which is no type
abbrev pub pointers : Dictionary
pointers =
    dictionary true (bare_term (term.pointer 3) ∷ bare_term (term.pointer 0x8001)
    ∷ bare_term (term.pointer 0x8000) ∷ [])

-- a parent whose third type is an unnamed struct
abbrev pub structs : List Term
structs =
    an_integer (codes "int") ∷ bare_term (term.struct 8191 [])
    ∷ bare_term (term.struct 8192 []) ∷ []

abbrev pub over : List Term → ℕ → Result (List ℕ) Fault
over parent n =
    spelled_name
    (record { own = pointers; parent = Some (dictionary false parent); model = Lp64 }) n

abbrev pub without : ℕ → Result (List ℕ) Fault
without n = spelled_name (record { own = pointers; parent = None; model = Lp64 }) n

pub record NamesOverParents : Type 0 where
  pub parents : over structs 0x8001 ≡ Ok (codes "struct (anon) *")
  pub own : over structs 0x8002 ≡ Ok (codes "struct (anon) **")
  pub of_parent : over structs 1 ≡ Ok (codes "int")
  pub past_parent : over [] 0x8001 ≡ Err (fault 24 0)
  pub between : over structs 0x8003 ≡ Err (fault 24 0)
  -- brackets of a parent's type count too
  pub round_an_array : over ten 0x8001 ≡ Ok (codes "int (**)[10]")
  pub no_parent : without 0x8001 ≡ Err (fault 23 0)
  pub no_parent_later : without 0x8002 ≡ Err (fault 23 0)
  pub nothing : without 0 ≡ Ok (codes "void")
