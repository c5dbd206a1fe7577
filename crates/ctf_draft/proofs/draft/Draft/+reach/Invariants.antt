use Rattle.std.proofs.Common.{◌≡◌, ◌≤◌, ℕ, length, take}
use Rattle.std.specs.Prelude.{min}
use Rattle.std.specs.List.{AllByRecursion}
use Rattle.ctf_chains.specs.Places.{led_to, places_at, steps_between}
use Rattle.ctf_chains.specs.Search.{IsLongest}
use Rattle.ctf_layout.specs.Bases.{greatest_of}
use Rattle.ctf_model.specs.rules.Chains.{by_value}
use Rattle.ctf_model.specs.drafts.Drafts.{count_of, content, space_of}
use Rattle.ctf_model.specs.figures.FigureLaws.{own_body}
use Rattle.ctf_model.specs.figures.Figures.{align, greater}
use Rattle.ctf_draft.specs.Reaching.{IsKnown, IsKnownAt, Knows, value_places}
use Rattle.ctf_draft.specs.Sizing.{aligned_by, own_align}
use Rattle.ctf_draft.proofs.draft.Draft.+reach.Given as goal

abbrev pub decreases-reach : goal.decreases-reach
decreases-reach l = l.budget

abbrev pub invariant-loop-k : goal.invariant-loop-k
invariant-loop-k l = record {
  room : count_of l.self.draft ≤ length l.marks;
  knows : Knows l.self.draft l.marks;
  grows : (j : ℕ) → IsKnown l.initial.marks j → IsKnown l.marks j;
  below : AllByRecursion (IsKnownAt l.self.draft l.marks) (take l.k (by_value (own_body (content l.self.draft) l.i)));
  longest : IsLongest (steps_between (value_places (content l.self.draft))) (led_to (take l.k (places_at (value_places (content l.self.draft)) l.i))) l.depth;
  affordable : l.depth ≤ l.budget;
  aligned : l.align ≡ greater (own_align l.self.draft.model (own_body (content l.self.draft) l.i)) (greatest_of (align (space_of l.self.draft)) (take (min l.k (aligned_by (own_body (content l.self.draft) l.i))) (by_value (own_body (content l.self.draft) l.i))));
}
