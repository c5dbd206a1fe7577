-- Measuring and appending the parts of a line. Source: ours.
use Rattle.std.specs.Prelude.{◌≡◌, ℕ, ◌+◌, ◌≤◌, ◌++◌, min, List, length, Vec, vec_len, vec_capacity, Result, OnOk, OnErr, IsOk}
use Rattle.std.specs.declared.alloc.Global.{Global}

-- the sum of a length and a text's length, capped at one byte more than the longest reply line
abbrev pub and_text : ℕ → List ℕ → ℕ
and_text len text = min (len + length text) 4194306

-- the buffer has room for the text
abbrev pub HasRoom : Vec ℕ Global → List ℕ → Type 0
HasRoom out text = vec_len out + length text ≤ vec_capacity out

-- the text was appended without taking memory
pub record Appended (old new : Vec ℕ Global) (text : List ℕ) : Type 0 where
  pub items : new.items ≡ old.items ++ text
  pub len : vec_len new ≡ vec_len old + length text
  pub capacity : vec_capacity new ≡ vec_capacity old

-- the buffer is unchanged
pub record IsAsBefore (old new : Vec ℕ Global) : Type 0 where
  pub items : new.items ≡ old.items
  pub len : vec_len new ≡ vec_len old
  pub capacity : vec_capacity new ≡ vec_capacity old

-- the text was appended, or memory ran out and the content is unchanged; if there is room, no
-- memory is taken
pub record Writes {E : Type 0} (old : Vec ℕ Global) (text : List ℕ) (result : Result (Unit {0}) E)
    (new : Vec ℕ Global) : Type 0 where
  pub ok : OnOk result (new.items ≡ old.items ++ text)
  pub err : OnErr result ((new.items ≡ old.items) × (vec_len new ≡ vec_len old))
  pub grows : vec_capacity old ≤ vec_capacity new
  pub room : HasRoom old text → IsOk result × (vec_capacity new ≡ vec_capacity old)
