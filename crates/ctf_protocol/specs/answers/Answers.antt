-- Answers to a session: fields, each with a key and a value. Source: ours.
use Rattle.std.specs.Prelude.{ℕ, ℤ, Bool, List, [], ◌∷◌, Option, None, Some, Result}
use Rattle.ctf_model.specs.declared.faults.Fault.{Fault}

-- ---- values

-- a single value
pub data Single : Type 0 where
  number : ℕ → Single
  signed : ℤ → Single
  truth : Bool → Single
  -- a word of the protocol, such as the name of a kind
  word : List ℕ → Single
  -- bytes of a dictionary to be read as text, such as the name of a type
  text : List ℕ → Single
  -- bytes that are no text
  bytes : List ℕ → Single

-- a field of an object in a list
pub record AnswerField : Type 0 where
  pub key : List ℕ
  pub value : Single

-- an item of a list: a single value, or an object
pub data Item : Type 0 where
  bare : Single → Item
  object : List AnswerField → Item

-- the value of a field
pub data Value : Type 0 where
  one : Single → Value
  many : List Item → Value

pub record Field : Type 0 where
  pub key : List ℕ
  pub value : Value

-- the answer to a granted request, with its keys in byte order
abbrev pub Answer : Type 0
Answer = List Field

-- ---- constructors

abbrev pub entry : List ℕ → Single → AnswerField
entry key value = record { key = key; value = value }

-- a field with a single value
abbrev pub says : List ℕ → Single → Field
says key value = record { key = key; value = one value }

-- an optional field
abbrev pub may_say : List ℕ → Option Single → List Field
may_say key None = []
may_say key (Some value) = says key value ∷ []

-- a field with a list
abbrev pub lists : List ℕ → List Item → Field
lists key items = record { key = key; value = many items }

-- ---- replies

-- the reply to a request: its session, and the answer or the refusal
pub record Reply : Type 0 where
  pub session : ℕ
  pub outcome : Result Answer Fault
