-- Lists of items that follow one another in bytes. Source: ours, over the reading in Spelling.antt
-- of ctf_model.
use Rattle.std.specs.Prelude.{◌≤◌, ◌*◌, ℕ, List, [], length, Option, unwrap_or, IsSome}
use Rattle.ctf_model.specs.format.Spelling.{items}

-- `n` items of `len` bytes, if all are valid
unfoldable pub items_in : {A : Type 0} → (List ℕ → Option A) → ℕ → ℕ → List ℕ → List A
items_in item len n b = unwrap_or (items item len n b) []

-- the bytes hold `n` items of `len` bytes, all valid
pub record AreGood {A : Type 0} (item : List ℕ → Option A) (len n : ℕ) (b : List ℕ) : Type 0 where
  pub inside : len * n ≤ length b
  pub good : IsSome (items item len n b)
