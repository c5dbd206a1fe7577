-- What marks show in a round. Source: ours.
use Rattle.std.specs.Prelude.{ℕ, ◌==◌, nat_le, Bool, List, Option, Some, None, if◌then◌else◌}
use Rattle.std.specs.List.{list_all}
use Rattle.ctf_draft.specs.declared.mark.Mark.{Mark}
use Rattle.ctf_draft.specs.declared.reach.Reach.{Reach}

-- marks of earlier rounds show nothing
abbrev pub reach_in_round : ℕ → Mark → Option Reach
reach_in_round round mark = if mark.round == round then Some mark.reach else None

-- no mark is of a later round
abbrev pub are_within : ℕ → List Mark → Bool
are_within round marks = list_all (λ mark. nat_le mark.round round) marks
