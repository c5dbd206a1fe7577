-- The offset of a new member, and the new size of its struct or union. Source: ours.
use Rattle.std.specs.Prelude.{ℕ, List, Option, None, Result, Ok, Err, if◌then◌else◌, take}
use Rattle.ctf_model.specs.drafts.Adders.{against_member, against_place, body_at, is_deep, size_with}
use Rattle.ctf_model.specs.drafts.Drafts.{Draft, space_of}
use Rattle.ctf_model.specs.rules.Judgements.{◌then◌, first_met, unless}
use Rattle.ctf_model.specs.drafts.Placement.{bits_filled, last_member, member_place}
use Rattle.ctf_model.specs.rules.Refusals.{placeless}
use Rattle.ctf_model.specs.format.Term.{Body, Member}
use Rattle.ctf_model.specs.format.Term as term
use Rattle.ctf_model.specs.declared.faults.Fault.{Fault}
use Rattle.ctf_model.specs.declared.faults.TheConstants.Fault.{DEEP_MEMBER}
use Rattle.ctf_draft.specs.declared.plan.Plan.{Plan}

-- the refusals of a member that do not look at the types behind its own
abbrev pub against_name : Draft → ℕ → List ℕ → ℕ → Option Fault
against_name d n name tnum = first_met (take 7 (against_member d n name tnum))

-- the offset and size, if 64 bits hold them
abbrev pub planned_with : ℕ → ℕ → Result Plan Fault
planned_with offset size =
    unless (first_met (against_place offset size)) (Ok (record { offset = offset; size = size }))

abbrev pub planned_at : Draft → ℕ → ℕ → ℕ → Result Plan Fault
planned_at d n place bits = planned_with place (size_with d n place bits)

abbrev pub planned_shallow : Draft → ℕ → ℕ → Option ℕ → Result Plan Fault
planned_shallow d n tnum offset =
    bits_filled (space_of d) tnum then λ bits.
    member_place (space_of d) (body_at d n) tnum offset then λ place.
    planned_at d n place bits

-- the offset and size, or the reason against them
unfoldable pub planned : Draft → ℕ → ℕ → Option ℕ → Result Plan Fault
planned d n tnum offset =
    if is_deep d tnum then Err (placeless DEEP_MEMBER) else planned_shallow d n tnum offset

-- the last member of a struct, which a new one follows
abbrev pub last_of_struct : Body → Option Member
last_of_struct (term.struct size members) = last_member members
last_of_struct _ = None
