-- Members with a stated offset, together with the stated size of their struct or union. Neither is
-- computed: the member's type needs no size, and members may end beyond the size. Source: ours; the
-- order of refusals is that of a member with a computed offset.
use Rattle.std.specs.Prelude.{ℕ, ◌*◌, nat_lt, Bool, List, [], ◌∷◌, ◌++◌, Result, Ok}
use Rattle.std.specs.List.{list_any}
use Rattle.ctf_model.specs.drafts.Adders.{against_member, against_place, body_at, present_members, replace_body, with_member}
use Rattle.ctf_model.specs.drafts.Drafts.{Draft}
use Rattle.ctf_model.specs.rules.Judgements.{Row, first_met, unless}
use Rattle.ctf_model.specs.format.Term.{Member}
use Rattle.ctf_model.specs.declared.faults.Fault.{Fault}
use Rattle.ctf_model.specs.declared.faults.TheConstants.Fault.{BAD_OFFSET}

-- a member begins after the end of a struct or union of this size
abbrev pub begins_behind : ℕ → Member → Bool
begins_behind size m = nat_lt (8 * size) m.offset

-- the reasons to refuse a member with a stated offset and size: 64 bits do not hold them, or a
-- member, new or old, begins after the end
abbrev pub against_stated : Draft → ℕ → Member → ℕ → List Row
against_stated d n m size =
    against_place m.offset size
    ++ record {
      code = BAD_OFFSET;
      met = list_any (begins_behind size) (present_members d n ++ m ∷ []);
    } ∷ []

-- adds a member at its stated offset to a pending struct or union, which gets the stated size
unfoldable pub add_member_at : Draft → ℕ → Member → ℕ → Result Draft Fault
add_member_at d n m size =
    unless (first_met (against_member d n m.name m.tnum ++ against_stated d n m size))
    (Ok (replace_body d n (with_member m size (body_at d n))))
