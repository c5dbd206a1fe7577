-- Adding a member at its planned offset.
use Rattle.std.proofs.Common.{◌≡◌, ℕ, zero, suc, Bool, true, false, cond, List, [], ◌∷◌, take, drop, Option, Some, None, Result, Ok, Err, refl, ap, ◌∙◌, ◌⊎◌, inl, inr}
use Rattle.ctf_model.specs.drafts.Adders.{Added, add_member, against_member, against_place, body_at, is_deep, place_member, put_member, replace_body, size_with, with_member}
use Rattle.ctf_model.specs.drafts.Drafts.{Draft, space_of}
use Rattle.ctf_model.specs.rules.Judgements.{◌then◌, Row, first_met, unless}
use Rattle.ctf_model.specs.drafts.Placement.{bits_filled, member_place}
use Rattle.ctf_model.specs.rules.Refusals.{placeless, out_of_memory}
use Rattle.ctf_model.specs.declared.faults.Fault.{Fault}
use Rattle.ctf_draft.specs.Planning.{against_name, planned, planned_at, planned_shallow}
use Rattle.ctf_draft.specs.declared.plan.Plan.{Plan}

-- ---- rows

pub first_front : (k : ℕ) (rows : List Row) (f : Fault) → first_met (take k rows) ≡ Some f → first_met rows ≡ Some f
first_front zero rows f h = absurd cc
first_front (suc k) [] f h = absurd cc
first_front (suc k) (row ∷ rows) f h = at row.met h (first_front k rows f)
  where
    at : (b : Bool) → cond b (Some (placeless row.code)) (first_met (take k rows)) ≡ Some f → (first_met (take k rows) ≡ Some f → first_met rows ≡ Some f) → cond b (Some (placeless row.code)) (first_met rows) ≡ Some f
    at true h more = h
    at false h more = more h

pub first_back : (k : ℕ) (rows : List Row) → first_met (take k rows) ≡ None → first_met rows ≡ first_met (drop k rows)
first_back zero rows h = refl
first_back (suc k) [] h = refl
first_back (suc k) (row ∷ rows) h = at row.met h (first_back k rows)
  where
    at : (b : Bool) → cond b (Some (placeless row.code)) (first_met (take k rows)) ≡ None → (first_met (take k rows) ≡ None → first_met rows ≡ first_met (drop k rows)) → cond b (Some (placeless row.code)) (first_met rows) ≡ first_met (drop k rows)
    at true h more = absurd cc
    at false h more = more h

-- ---- members

module _ (d : Draft) (n : ℕ) (name : List ℕ) (tnum : ℕ) (offset : Option ℕ) where
  abbrev put : Plan → Added
  put p = record { draft = replace_body d n (with_member (record { name = name; tnum = tnum; offset = p.offset }) p.size (body_at d n)); answer = p.offset }

  abbrev finish : Result Plan Fault → Result Added Fault
  finish (Err f) = Err f
  finish (Ok p) = Ok (put p)

  at_size : (place bits : ℕ) (o : Option Fault) → unless o (Ok (put (record { offset = place; size = size_with d n place bits }))) ≡ finish (unless o (Ok (record { offset = place; size = size_with d n place bits })))
  at_size place bits None = refl
  at_size place bits (Some f) = refl

  at_place : (bits : ℕ) (m : Result ℕ Fault) → (m then λ place. put_member d n (record { name = name; tnum = tnum; offset = place }) bits) ≡ finish (m then λ place. planned_at d n place bits)
  at_place bits (Err f) = refl
  at_place bits (Ok place) = at_size place bits (first_met (against_place place (size_with d n place bits)))

  at_bits : (b : Result ℕ Fault) → (b then λ bits. (member_place (space_of d) (body_at d n) tnum offset then λ place. put_member d n (record { name = name; tnum = tnum; offset = place }) bits)) ≡ finish (b then λ bits. (member_place (space_of d) (body_at d n) tnum offset then λ place. planned_at d n place bits))
  at_bits (Err f) = refl
  at_bits (Ok bits) = at_place bits (member_place (space_of d) (body_at d n) tnum offset)

  by_plan : against_name d n name tnum ≡ None → add_member d n name tnum offset ≡ finish (planned d n tnum offset)
  unfolding add_member planned
  by_plan none = ap (λ o. unless o (place_member d n name tnum offset)) (first_back 7 (against_member d n name tnum) none) ∙ at (is_deep d tnum)
    where
      at : (b : Bool) → unless (cond b (Some (placeless 44)) None) (place_member d n name tnum offset) ≡ finish (cond b (Err (placeless 44)) (planned_shallow d n tnum offset))
      at true = refl
      at false = at_bits (bits_filled (space_of d) tnum)

  pub member_barred : (f : Fault) → against_name d n name tnum ≡ Some f → add_member d n name tnum offset ≡ Err f
  unfolding add_member
  member_barred f h = ap (λ o. unless o (place_member d n name tnum offset)) (first_front 7 (against_member d n name tnum) f h)

  pub member_refused : (f : Fault) → against_name d n name tnum ≡ None → planned d n tnum offset ≡ Err f → add_member d n name tnum offset ≡ Err f
  member_refused f none h = by_plan none ∙ ap finish h

  pub member_accepted : (p : Plan) → against_name d n name tnum ≡ None → planned d n tnum offset ≡ Ok p → add_member d n name tnum offset ≡ Ok (put p)
  member_accepted p none h = by_plan none ∙ ap finish h

  pub refused_or_memory : (f : Fault) → against_name d n name tnum ≡ None → (f ≡ out_of_memory) ⊎ (planned d n tnum offset ≡ Err f) → (f ≡ out_of_memory) ⊎ (add_member d n name tnum offset ≡ Err f)
  refused_or_memory f none (inl memory) = inl memory
  refused_or_memory f none (inr h) = inr (member_refused f none h)
