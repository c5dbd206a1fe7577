-- How much of a text has been written. Source: ours.
use Rattle.std.specs.Prelude.{◌≡◌, ℕ, ◌++◌, List, Option}
use Rattle.std.specs.Io.KnownBytes.{Appends}

-- the known output grew by all of the text except `rest`
pub record HasWritten (before after : Option (List ℕ)) (all rest : List ℕ) : Type 0 where
  pub done : List ℕ
  pub written : Appends before after done
  pub joined : done ++ rest ≡ all

-- the known output grew by a prefix of the text, possibly empty or all of it
pub record HasBegun (before after : Option (List ℕ)) (all : List ℕ) : Type 0 where
  pub rest : List ℕ
  pub front : HasWritten before after all rest
