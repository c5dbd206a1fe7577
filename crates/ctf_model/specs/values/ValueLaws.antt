-- Laws of formatted values.
use Rattle.std.specs.Prelude.{◌≡◌, ℕ, List}
use Rattle.ctf_model.specs.rules.ChainLaws.{HasShortChainsIn}
use Rattle.ctf_model.specs.rules.Chains.{by_value}
use Rattle.ctf_model.specs.spaces.Space.{Space}
use Rattle.ctf_model.specs.values.Values.{by_rule, shown_value}

-- the text of a value follows its rule; the bound on chains is never reached
abbrev pub ValuesAreTheirRules : Type 0
ValuesAreTheirRules =
    (s : Space) → HasShortChainsIn by_value s → (memory : List ℕ) (n p : ℕ)
    → shown_value s memory n p ≡ by_rule s memory (shown_value s memory) n p
