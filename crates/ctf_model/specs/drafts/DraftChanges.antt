-- The changes that a draft's owner can make, and their sequence. Source: ours.
use Rattle.std.specs.Prelude.{ℕ, List, [], ◌∷◌, Option, Result, Ok, Err}
use Rattle.ctf_model.specs.drafts.Adders.{Added, add_enumerator, add_label, add_member, add_type}
use Rattle.ctf_model.specs.format.Dictionary.{Label}
use Rattle.ctf_model.specs.drafts.Drafts.{Draft, rollback, commit}
use Rattle.ctf_model.specs.drafts.NewTypes.{NewType}
use Rattle.ctf_model.specs.format.Term.{Enumerator}
use Rattle.ctf_model.specs.declared.faults.Fault.{Fault}

pub data DraftChange : Type 0 where
  adds_type : NewType → DraftChange
  -- to the type with this number: a name, a type, and an offset in bits if one is stated
  adds_member : ℕ → List ℕ → ℕ → Option ℕ → DraftChange
  adds_enumerator : ℕ → Enumerator → DraftChange
  adds_label : Label → DraftChange
  discards : DraftChange
  -- an accepted update
  settles : DraftChange

-- a refused change leaves the draft as it was
abbrev pub or_as_before : Draft → Result Draft Fault → Draft
or_as_before d (Err f) = d
or_as_before d (Ok e) = e

abbrev pub draft_of : Result Added Fault → Result Draft Fault
draft_of (Err f) = Err f
draft_of (Ok added) = Ok added.draft

abbrev pub apply_change : Draft → DraftChange → Draft
apply_change d (adds_type new) = or_as_before d (draft_of (add_type d new))
apply_change d (adds_member n name tnum offset) =
    or_as_before d (draft_of (add_member d n name tnum offset))
apply_change d (adds_enumerator n e) = or_as_before d (add_enumerator d n e)
apply_change d (adds_label label) = or_as_before d (add_label d label)
apply_change d discards = rollback d
apply_change d settles = commit d

-- the draft after these changes, applied in order
unfoldable pub after : Draft → List DraftChange → Draft
after d [] = d
after d (change ∷ changes) = after (apply_change d change) changes
