-- A type that formats as another. Source: ours.
use Rattle.std.specs.Prelude.{◌≡◌, ℕ, ◌-◌, List}
use Rattle.ctf_model.specs.spaces.Space.{Space}
use Rattle.ctf_model.specs.values.Values.{shown_within}

-- in any memory, a value of type `n` shows the same as one of type `m` with `steps` less to follow
abbrev pub StandsFor : Space → ℕ → ℕ → ℕ → Type 0
StandsFor s n steps m =
    (memory : List ℕ) (k p : ℕ)
    → shown_within s memory k n p ≡ shown_within s memory (k - steps) m p
