-- The state of one session. Source: ours.
use Rattle.std.specs.Prelude.{ℕ, List, [], Option}
use Rattle.ctf_model.specs.drafts.Drafts.{Draft}
use Rattle.ctf_model.specs.format.Lists.{Lists, no_lists}
use Rattle.ctf_model.specs.spaces.Kept.{Kept}

-- a numbered dictionary with its imported parent, if any; a draft's dictionary is as its last
-- update left it, with the draft's parent
pub record Slot : Type 0 where
  pub number : ℕ
  pub kept : Kept
  pub parent : Option Kept
  pub draft : Option Draft

pub record Publication : Type 0 where
  pub name : List ℕ
  pub kept : Kept

-- a session's library: its slots by ascending numbers, the next slot number, the staged lists, and
-- its publications
pub record State : Type 0 where
  pub slots : List Slot
  pub next : ℕ
  pub stage : Lists
  pub published : List Publication

-- nothing staged
abbrev pub empty_stage : Lists
empty_stage = no_lists

-- an empty library
abbrev pub empty_state : State
empty_state = record { slots = []; next = 1; stage = empty_stage; published = [] }
