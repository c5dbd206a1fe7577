-- Types, independent of their encoding in bytes. Source: ctf(5), "Type Section".
use Rattle.std.specs.Prelude.{ℕ, ℤ, Bool, List}

-- ---- parts of types

-- an integer or a float: its size in bytes, its encoding, and the offset and width of its value in
-- bits
pub record Scalar : Type 0 where
  pub size : ℕ
  pub encoding : ℕ
  pub offset : ℕ
  pub bits : ℕ

-- an array: its size in bytes, the types of its contents and its index, and its number of elements
pub record Elements : Type 0 where
  pub size : ℕ
  pub contents : ℕ
  pub index : ℕ
  pub count : ℕ

-- a member of a struct or union: its name, its type, and its offset in bits
pub record Member : Type 0 where
  pub name : List ℕ
  pub tnum : ℕ
  pub offset : ℕ

-- an enumerator: a name for a value of an enum
pub record Enumerator : Type 0 where
  pub name : List ℕ
  pub value : ℤ

-- what a forward declares
pub data Tag : Type 0 where
  struct_tag : Tag
  union_tag : Tag
  enum_tag : Tag

-- ---- types

-- a type's content, by kind; other types are given by number, and 0 is no type
pub data Body : Type 0 where
  unknown : Body
  integer : Scalar → Body
  float : Scalar → Body
  pointer : ℕ → Body
  array : Elements → Body
  -- its return type, and its arguments as stored; a last argument 0 marks a variadic function
  function : ℕ → List ℕ → Body
  -- size in bytes, and members
  struct : ℕ → List Member → Body
  union : ℕ → List Member → Body
  -- size in bytes, and enumerators
  enum : ℕ → List Enumerator → Body
  forward : Tag → Body
  typedef : ℕ → Body
  volatile : ℕ → Body
  const : ℕ → Body
  restrict : ℕ → Body

-- a type: its name, whether look-ups by name see it, and its content
pub record Term : Type 0 where
  pub name : List ℕ
  pub root : Bool
  pub body : Body
