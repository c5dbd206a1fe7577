-- Types as they are added to a draft: what each kind states, without members or enumerators.
-- Source: libctf(3LIB), ctf_add_integer, ctf_add_float, ctf_add_pointer, ctf_add_array,
-- ctf_add_function, ctf_add_struct, ctf_add_union, ctf_add_enum, ctf_add_forward, ctf_add_typedef,
-- ctf_add_volatile, ctf_add_const, ctf_add_restrict; that an unknown type can be added is ours.
use Rattle.std.specs.Prelude.{ℕ, Bool, List, []}
use Rattle.ctf_model.specs.format.Shown.{ArrayParts}
use Rattle.ctf_model.specs.format.Term.{Body, Scalar, Tag, Term}
use Rattle.ctf_model.specs.format.Term as term

-- a new type's content, by kind
pub data NewBody : Type 0 where
  unknown : NewBody
  integer : Scalar → NewBody
  float : Scalar → NewBody
  pointer : ℕ → NewBody
  array : ArrayParts → NewBody
  -- its return type and its arguments
  function : ℕ → List ℕ → NewBody
  -- size in bytes
  struct : ℕ → NewBody
  union : ℕ → NewBody
  enum : ℕ → NewBody
  forward : Tag → NewBody
  typedef : ℕ → NewBody
  volatile : ℕ → NewBody
  const : ℕ → NewBody
  restrict : ℕ → NewBody

pub record NewType : Type 0 where
  pub name : List ℕ
  pub root : Bool
  pub body : NewBody

-- the type that results: an array states no size, and lists are empty
abbrev pub new_body : NewBody → Body
new_body unknown = term.unknown
new_body (integer scalar) = term.integer scalar
new_body (float scalar) = term.float scalar
new_body (pointer t) = term.pointer t
new_body (array parts) =
    term.array
    (record { size = 0; contents = parts.contents; index = parts.index; count = parts.count })
new_body (function returned arguments) = term.function returned arguments
new_body (struct size) = term.struct size []
new_body (union size) = term.union size []
new_body (enum size) = term.enum size []
new_body (forward tag) = term.forward tag
new_body (typedef t) = term.typedef t
new_body (volatile t) = term.volatile t
new_body (const t) = term.const t
new_body (restrict t) = term.restrict t

abbrev pub new_term : NewType → Term
new_term x = record { name = x.name; root = x.root; body = new_body x.body }
