-- Worked rows of look-ups by name, and of pointers. The values were worked out by hand.
use Rattle.std.specs.Prelude.{◌≡◌, ℕ, true, false, List, [], ◌∷◌, Some, None, Ok, Err, codes}
use Rattle.ctf_model.specs.figures.FigureRows.{by_itself, dictionary, fault, bare_term}
use Rattle.ctf_model.specs.names.Lookups.{base, lookup, pointer_to, stars}
use Rattle.ctf_model.specs.spaces.Space.{Space}
use Rattle.ctf_model.specs.format.Term.{Term, Body, Elements, Scalar}
use Rattle.ctf_model.specs.format.Term as term
use Rattle.ctf_model.specs.declared.data_model.DataModel.TheVariants.{Lp64}

-- ---- inputs

abbrev pub scalar : ℕ → ℕ → Body
scalar size bits = term.integer (record { size = size; encoding = 1; offset = 0; bits = bits })

abbrev pub with_name : List ℕ → Body → Term
with_name name body = record { name = name; root = true; body = body }

abbrev pub hidden : List ℕ → Body → Term
hidden name body = record { name = name; root = false; body = body }

abbrev pub ten_of : ℕ → Term
ten_of contents =
    bare_term (term.array (record { size = 0; contents = contents; index = 1; count = 10 }))

-- ---- C's declarators

-- int, an array of it, pointers to that and to int, an array of such pointers,
-- char, a pointer to it, a const one,
-- a pointer to that, volatile int, a const one, a struct without a name,
-- a pointer to it, a function that returns an
-- int, a pointer to it, a const array, a pointer to it, a const pointer to the function
abbrev pub declared_types : List Term
declared_types =
    with_name (codes "int") (scalar 4 32) ∷ ten_of 1 ∷ bare_term (term.pointer 2)
    ∷ bare_term (term.pointer 1) ∷ ten_of 4
    ∷ with_name (codes "char") (scalar 1 8) ∷ bare_term (term.pointer 6) ∷ bare_term (term.const 7)
    ∷ bare_term (term.pointer 8)
    ∷ bare_term (term.volatile 1) ∷ bare_term (term.const 10)
    ∷ bare_term (term.struct 0 []) ∷ bare_term (term.pointer 12)
    ∷ bare_term (term.function 1 []) ∷ bare_term (term.pointer 14)
    ∷ bare_term (term.const 2) ∷ bare_term (term.pointer 16) ∷ bare_term (term.const 15)
    ∷ []

abbrev pub declared_space : Space
declared_space = by_itself Lp64 declared_types

-- ---- words in front of names, hidden types, faults

-- a hidden int, an int, a union `node`, a forward of a struct `node`, a struct `node`, a typedef
-- `struct`, an enum ` e`, a hidden pointer to it, a typedef of nothing, a typedef of a missing
-- type, a pointer to nothing, a second pointer to the enum, a typedef of the forward, a pointer to
-- that typedef
abbrev pub node_types : List Term
node_types =
    hidden (codes "int") (scalar 4 32) ∷ with_name (codes "int") (scalar 4 32)
    ∷ with_name (codes "node") (term.union 4 [])
    ∷ with_name (codes "node") (term.forward term.struct_tag)
    ∷ with_name (codes "node") (term.struct 4 [])
    ∷ with_name (codes "struct") (term.typedef 2)
    ∷ with_name (codes " e") (term.enum 4 []) ∷ hidden [] (term.pointer 7)
    ∷ with_name (codes "none") (term.typedef 0) ∷ with_name (codes "lost") (term.typedef 99)
    ∷ bare_term (term.pointer 0)
    ∷ bare_term (term.pointer 7) ∷ with_name (codes "node_t") (term.typedef 4)
    ∷ bare_term (term.pointer 13)
    ∷ []

abbrev pub node_space : Space
node_space = by_itself Lp64 node_types

-- ---- over a parent

-- a child with an int of its own, a pointer to a type of its parent, and a typedef of that type
abbrev pub child_types : List Term
child_types =
    with_name (codes "int") (scalar 4 32) ∷ bare_term (term.pointer 6)
    ∷ with_name (codes "text") (term.typedef 6) ∷ []

abbrev pub child_space : Space
child_space =
    record {
      own = dictionary true child_types;
      parent = Some (dictionary false declared_types);
      model = Lp64;
    }

abbrev pub orphan_space : Space
orphan_space = record { own = dictionary true child_types; parent = None; model = Lp64 }

pub record NamesAreFound : Type 0 where
  -- stars and blanks at the end
  pub bare : base (codes "char ** ") ≡ codes "char"
  pub two_stars : stars (codes "char * * ") ≡ 2
  pub inner_star : base (codes "a*b *") ≡ codes "a*b"
  pub one_star : stars (codes "a*b *") ≡ 1
  -- C's declarators
  pub int : lookup declared_space (codes "int") ≡ Ok 1
  pub pointer : lookup declared_space (codes "int *") ≡ Ok 4
  pub no_blank : lookup declared_space (codes "int*") ≡ Ok 4
  pub no_pointer : lookup declared_space (codes "char **") ≡ Err (fault 32 0)
  pub star_alone : lookup declared_space (codes "*") ≡ Err (fault 33 0)
  pub nothing : lookup declared_space [] ≡ Err (fault 33 0)
  pub blank_first : lookup declared_space (codes " int") ≡ Err (fault 33 0)
  pub not_there : lookup declared_space (codes "float *") ≡ Err (fault 32 0)
  pub behind_qualifiers : pointer_to declared_space 11 ≡ Ok 4
  pub to_pointer : pointer_to declared_space 8 ≡ Ok 9
  pub none_to_array : pointer_to declared_space 5 ≡ Err (fault 32 0)
  -- words in front of names
  pub not_hidden : lookup node_space (codes "int") ≡ Ok 2
  pub struct : lookup node_space (codes "struct node") ≡ Ok 4
  pub union : lookup node_space (codes "union node") ≡ Ok 3
  pub enum : lookup node_space (codes "enum node") ≡ Err (fault 32 0)
  pub plain : lookup node_space (codes "node") ≡ Err (fault 32 0)
  pub word_alone : lookup node_space (codes "struct ") ≡ Ok 6
  pub two_blanks : lookup node_space (codes "enum  e") ≡ Ok 7
  pub one_blank : lookup node_space (codes "enum e") ≡ Err (fault 32 0)
  -- pointers
  pub hidden_pointer : lookup node_space (codes "enum  e*") ≡ Ok 8
  pub to_nothing : pointer_to node_space 0 ≡ Ok 11
  pub typedef_of_nothing : lookup node_space (codes "none*") ≡ Err (fault 32 0)
  pub typedef_of_no_type : lookup node_space (codes "lost *") ≡ Err (fault 24 0)
  pub to_typedef : lookup node_space (codes "node_t *") ≡ Ok 14
  pub not_by_typedef : lookup node_space (codes "struct node *") ≡ Err (fault 32 0)
  pub fault_stays : lookup node_space (codes "lost **") ≡ Err (fault 24 0)
  -- own types before the parent's
  pub own_first : lookup child_space (codes "int") ≡ Ok 0x8001
  pub of_parent : lookup child_space (codes "char") ≡ Ok 6
  pub own_pointer_first : lookup child_space (codes "char *") ≡ Ok 0x8002
  pub parents_pointer : pointer_to child_space 1 ≡ Ok 4
  pub behind_typedef : lookup child_space (codes "text *") ≡ Ok 0x8002
  pub without_parent : lookup orphan_space (codes "char") ≡ Err (fault 32 0)
  pub pointer_without_parent : pointer_to orphan_space 6 ≡ Ok 0x8002
  pub no_parent : pointer_to orphan_space 1 ≡ Err (fault 23 0)
