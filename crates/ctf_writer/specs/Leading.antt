-- Where the steps of a draft's types lead. Source: ours.
use Rattle.std.specs.Prelude.{ℕ, Bool, List, length, map, Option}
use Rattle.ctf_model.specs.rules.Chains.{own_index}
use Rattle.ctf_chains.specs.Places.{Places}
use Rattle.ctf_chains.specs.Steps.{steps}
use Rattle.ctf_chains.specs.declared.chain.Chain.{Chain}
use Rattle.ctf_draft.specs.TypeView.{body_of}
use Rattle.ctf_draft.specs.declared.types.DraftType.{DraftType}

-- for each number of a type's steps, the own type that it leads to, or none
abbrev pub type_places : Chain → Bool → ℕ → DraftType → List (Option ℕ)
type_places chain child count x = map (own_index child count) (steps chain (body_of x.body))

-- the same for each type
abbrev pub draft_places : Chain → Bool → List DraftType → Places
draft_places chain child types = map (type_places chain child (length types)) types
