-- Limits on the number and length of names in a request.
use Rattle.std.specs.Prelude.{ℕ, ◌≤◌, List, All, length}

pub record AreShort (names : List (List ℕ)) : Type 0 where
  pub few : length names ≤ 1048576
  pub each : All (λ name. length name ≤ 1048576) names
