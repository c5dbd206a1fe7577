-- An open dictionary, and the space that its questions see. Source: ours.
use Rattle.std.specs.Prelude.{ℕ, Option, None, Some}
use Rattle.ctf_model.specs.drafts.Drafts.{Draft, pending_count}
use Rattle.ctf_model.specs.format.Dictionary.{Dictionary}
use Rattle.ctf_model.specs.spaces.Kept.{Kept, kept_dictionary, kept_space}
use Rattle.ctf_model.specs.spaces.Space.{Space}

-- a dictionary, the parent that it imported, and the draft whose last update wrote it, if any
pub record Open : Type 0 where
  pub own : Kept
  pub parent : Option Kept
  pub draft : Option Draft

-- the space that its questions see
abbrev pub space_in : Open → Space
space_in s = kept_space s.own s.parent

-- the dictionary itself
abbrev pub own_in : Open → Dictionary
own_in s = kept_dictionary s.own

-- the number of types and labels that are pending in the draft, if there is one
abbrev pub pending_in : Option Draft → ℕ
pending_in None = 0
pending_in (Some draft) = pending_count draft
