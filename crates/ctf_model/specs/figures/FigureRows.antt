-- Worked rows of figures and paths. The values were worked out by hand.
use Rattle.std.specs.Prelude.{◌≡◌, ℕ, ◌*◌, ◌^◌, true, false, Bool, List, [], ◌∷◌, Some, None, Result, Ok, Err, codes}
use Rattle.ctf_model.specs.format.Dictionary.{Dictionary}
use Rattle.ctf_model.specs.figures.Figures.{size, align, resolved_type, reference}
use Rattle.ctf_model.specs.figures.Paths.{Position, path}
use Rattle.ctf_model.specs.spaces.Space.{Space}
use Rattle.ctf_model.specs.format.Term.{Term, Body, Member}
use Rattle.ctf_model.specs.format.Term as term
use Rattle.ctf_model.specs.declared.data_model.DataModel.{DataModel}
use Rattle.ctf_model.specs.declared.data_model.DataModel.TheVariants.{Lp64, Ilp32}
use Rattle.ctf_model.specs.declared.faults.Fault.{Fault}

-- ---- inputs

abbrev pub fault : ℕ → ℕ → Fault
fault code place = record { code = code; place = place }

abbrev pub bare_term : Body → Term
bare_term body = record { name = []; root = true; body = body }

abbrev pub member : List ℕ → ℕ → ℕ → Member
member name tnum offset = record { name = name; tnum = tnum; offset = offset }

abbrev pub integer_of : ℕ → Term
integer_of size =
    bare_term (term.integer (record { size = size; encoding = 1; offset = 0; bits = 0 }))

-- an array type: its stated size, its contents, and its count
abbrev pub array_of : ℕ → ℕ → ℕ → Term
array_of size contents count =
    bare_term (term.array (record { size = size; contents = contents; index = 1; count = count }))

abbrev pub dictionary : Bool → List Term → Dictionary
dictionary child types =
    record {
      child = child;
      parname = [];
      parlabel = [];
      labels = [];
      terms = types;
      symbols = [];
      entries = [];
    }

abbrev pub by_itself : DataModel → List Term → Space
by_itself model types = record { own = dictionary false types; parent = None; model = model }

-- ---- paths

-- int, char, a struct of a char and an int, a struct of two such structs, a typedef of it, a struct
-- with two members of one name, and one without a name
abbrev pub pairs : List Term
pairs =
    integer_of 4 ∷ integer_of 1
    ∷ bare_term (term.struct 8 (member (codes "c") 2 0 ∷ member (codes "i") 1 32 ∷ []))
    ∷ bare_term (term.struct 16 (member (codes "a") 3 0 ∷ member (codes "b") 3 64 ∷ []))
    ∷ bare_term (term.typedef 4)
    ∷ bare_term (term.union 16 (member (codes "x") 3 8 ∷ member (codes "x") 4 16 ∷ member [] 5 24
    ∷ member (codes "n") 99 0 ∷ member (codes "o") 0 0 ∷ []))
    ∷ []

abbrev pub in_pairs : ℕ → List (List ℕ) → Result Position Fault
in_pairs t names = path (by_itself Lp64 pairs) t names

abbrev pub lies : ℕ → ℕ → Result Position Fault
lies offset tnum = Ok (record { offset = offset; tnum = tnum })

-- a struct whose one member is itself, at a great offset; no dictionary without a fault holds one
abbrev pub far_out : List Term
far_out = bare_term (term.struct 9 (member (codes "a") 1 (2 ^ 63) ∷ [])) ∷ []

pub record PathsLead : Type 0 where
  pub inner : in_pairs 4 (codes "b" ∷ codes "i" ∷ []) ≡ lies 96 1
  pub declared : in_pairs 4 (codes "b" ∷ []) ≡ lies 64 3
  pub through_typedefs : in_pairs 5 (codes "b" ∷ codes "c" ∷ []) ≡ lies 64 2
  pub typedefs_last : in_pairs 6 ([] ∷ []) ≡ lies 24 5
  pub first_of_a_name : in_pairs 6 (codes "x" ∷ []) ≡ lies 8 3
  pub no_member : in_pairs 4 (codes "b" ∷ codes "z" ∷ []) ≡ Err (fault 28 1)
  pub not_aggregate : in_pairs 4 (codes "b" ∷ codes "i" ∷ codes "q" ∷ []) ≡ Err (fault 29 2)
  pub nothing_is_no_aggregate : in_pairs 6 (codes "o" ∷ codes "q" ∷ []) ≡ Err (fault 29 1)
  pub type_before_step : in_pairs 6 (codes "n" ∷ codes "q" ∷ []) ≡ Err (fault 24 0)
  pub no_type : in_pairs 9 (codes "b" ∷ []) ≡ Err (fault 24 0)
  pub no_step : in_pairs 9 [] ≡ lies 0 9
  pub far : path (by_itself Lp64 far_out) 1 (codes "a" ∷ []) ≡ lies (2 ^ 63) 1
  pub too_far : path (by_itself Lp64 far_out) 1 (codes "a" ∷ codes "a" ∷ codes "z" ∷ [])
      ≡ Err (fault 27 0)

-- ---- figures

-- int, a pointer, a function, a forward, an array of ten pointers that states no size, one that
-- states 7, a typedef of const of the array, a typedef of nothing, an enum without a size, a struct
-- that begins with a pointer and states 3, a union of int, the array and the struct, an empty
-- union, an unknown type, a union whose second member is a missing type and whose third is a
-- forward, 2^60 bytes, 15 times and 16 times that, an array of no forwards
abbrev pub many : List Term
many =
    integer_of 4 ∷ bare_term (term.pointer 0) ∷ bare_term (term.function 0 [])
    ∷ bare_term (term.forward term.enum_tag)
    ∷ array_of 0 2 10 ∷ array_of 7 4 3
    ∷ bare_term (term.typedef 8) ∷ bare_term (term.const 5) ∷ bare_term (term.typedef 0)
    ∷ bare_term (term.enum 0 [])
    ∷ bare_term (term.struct 3 (member [] 2 0 ∷ member [] 4 0 ∷ []))
    ∷ bare_term (term.union 99 (member [] 1 0 ∷ member [] 5 0 ∷ member [] 11 0 ∷ []))
    ∷ bare_term (term.union 5 [])
    ∷ bare_term term.unknown
    ∷ bare_term (term.union 6 (member [] 1 0 ∷ member [] 99 0 ∷ member [] 4 0 ∷ []))
    ∷ array_of (2 ^ 60) 4 1 ∷ array_of 0 16 15 ∷ array_of 0 16 16 ∷ array_of 0 4 0
    ∷ []

abbrev pub here : Space
here = by_itself Lp64 many

abbrev pub here_short : Space
here_short = by_itself Ilp32 many

pub record FiguresAre : Type 0 where
  pub integer : size here 1 ≡ Ok 4
  pub pointer : size here 2 ≡ Ok 8
  pub short_pointer : size here_short 2 ≡ Ok 4
  pub short_pointer_align : align here_short 2 ≡ Ok 4
  pub function : size here 3 ≡ Ok 0
  pub function_align : align here 3 ≡ Ok 8
  pub forward : size here 4 ≡ Err (fault 26 0)
  pub forward_align : align here 4 ≡ Err (fault 26 0)
  pub array : size here 5 ≡ Ok 80
  pub array_align : align here 5 ≡ Ok 8
  pub said_array : size here 6 ≡ Ok 7
  pub said_array_align : align here 6 ≡ Err (fault 26 0)
  pub typedef : size here 7 ≡ Ok 80
  pub typedef_resolved : resolved_type here 7 ≡ Ok 5
  pub typedef_reference : reference here 7 ≡ Ok 8
  pub array_reference : reference here 5 ≡ Err (fault 25 0)
  pub function_reference : reference here 3 ≡ Err (fault 25 0)
  pub nothing : size here 9 ≡ Err (fault 26 0)
  pub nothing_resolved : resolved_type here 9 ≡ Ok 0
  pub enum : size here 10 ≡ Ok 4
  pub enum_align : align here 10 ≡ Ok 4
  pub struct : size here 11 ≡ Ok 3
  pub struct_align : align here 11 ≡ Ok 8
  pub union_align : align here 12 ≡ Ok 8
  pub empty_align : align here 13 ≡ Ok 0
  pub unknown : size here 14 ≡ Err (fault 26 0)
  -- the fault of a member comes before those of later members
  pub first_fault : align here 15 ≡ Err (fault 24 0)
  pub great : size here 17 ≡ Ok (15 * 2 ^ 60)
  pub too_big : size here 18 ≡ Err (fault 27 0)
  -- the contents' fault comes first, whatever the count
  pub contents_first : size here 19 ≡ Err (fault 26 0)
  pub no_number : size here 0 ≡ Err (fault 26 0)
  pub zero_resolved : resolved_type here 0 ≡ Ok 0
  pub zero_reference : reference here 0 ≡ Err (fault 24 0)
  pub past : size here 20 ≡ Err (fault 24 0)

-- ---- over a parent

-- a child with an array of three of its parent's type 5, a typedef of that, a typedef of a type
-- that no parent has, and a typedef of number 0x8000, which is no type
abbrev pub child : Dictionary
child =
    dictionary true (array_of 0 5 3 ∷ bare_term (term.typedef 0x8001) ∷ bare_term (term.typedef 30)
    ∷ bare_term (term.typedef 0x8000) ∷ [])

abbrev pub over : Space
over = record { own = child; parent = Some (dictionary false many); model = Lp64 }

abbrev pub without_parent : Space
without_parent = record { own = child; parent = None; model = Lp64 }

pub record FiguresOverParents : Type 0 where
  pub own : size over 0x8002 ≡ Ok 240
  pub of_parent : size over 5 ≡ Ok 80
  pub parents_align : align over 0x8001 ≡ Ok 8
  pub past_parent : size over 0x8003 ≡ Err (fault 24 0)
  pub between : size over 0x8004 ≡ Err (fault 24 0)
  pub no_parent : size without_parent 0x8002 ≡ Err (fault 23 0)
  pub no_parents_resolved : resolved_type without_parent 0x8003 ≡ Err (fault 23 0)
  pub own_resolved : resolved_type over 0x8002 ≡ Ok 0x8001
  pub parents_resolved : resolved_type over 7 ≡ Ok 5
