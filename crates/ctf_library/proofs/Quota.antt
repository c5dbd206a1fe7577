-- Quota checks of a library.
use Rattle.std.proofs.Common.{◌≡◌, ◌≤◌, ◌<◌, ◌+◌, ◌++◌, ◌⊎◌, inl, inr, ℕ, List, [], ◌∷◌, length, Bool, true, false, Option, Some, None, Result, Ok, Err, refl, ap, subst, sym, ◌∙◌, arith}
use Rattle.std.specs.Prelude.{codes, is_some, nat_lt, option_and_then, option_map}
use Rattle.ctf_library.proofs.Creating.{creates_done}
use Rattle.ctf_protocol.specs.sessions.Creations.{Created}
use Rattle.ctf_protocol.specs.sessions.DraftSteps.{created_slot}
use Rattle.std.proofs.lemmas.Bool.{le-ltb, lt-ltb}
use Rattle.ctf_model.specs.spaces.Kept.{Kept, fault_over}
use Rattle.ctf_model.specs.declared.faults.Fault.{Fault}
use Rattle.ctf_model.specs.declared.faults.TheConstants.Fault.{NAME_TAKEN, QUOTA_FULL, STAGE_FULL}
use Rattle.ctf_protocol.proofs.Charged.{granted, over, parent_charge, part_charge, publication_charge, slot_charge}
use Rattle.ctf_model.specs.format.Lists.{Lists}
use Rattle.ctf_protocol.specs.answers.Answers.{Answer, Reply, says}
use Rattle.ctf_protocol.specs.answers.Answers as answers
use Rattle.ctf_protocol.specs.sessions.Charges.{charge, slot_bytes}
use Rattle.ctf_model.specs.opened.Sizes.{kept_bytes, parent_bytes}
use Rattle.ctf_answers.specs.Replies.{change_answer, unaddressed_reply}
use Rattle.ctf_answers.specs.declared.counts.Counts.{Counts}
use Rattle.ctf_library.specs.Quotas.{IsFull, IsStaged, IsUncreated}
use Rattle.ctf_open.specs.Quotas.{IsUnserved}
use Rattle.ctf_library.specs.Stepping.{Makes}
use Rattle.ctf_model.specs.rules.Refusals.{out_of_memory}
use Rattle.ctf_model.specs.opened.Open.{pending_in}
use Rattle.ctf_protocol.specs.sessions.Publications.{published_as}
use Rattle.ctf_protocol.specs.sessions.State.{Slot, State}
use Rattle.ctf_protocol.proofs.StepWords.{adds_created, imports_unless, publishes_within, takes_found}
use Rattle.ctf_protocol.specs.sessions.Outcomes.{grants, outcome_of, quota, refuses}
use Rattle.ctf_protocol.specs.sessions.Slots.{adds_slot, has_room, slot_at, slots_with_parent}
use Rattle.ctf_protocol.specs.sessions.Steps.{adds_publication, creates, imports, publishes, publishes_kept, takes, longest_list, parts, list_in, with_staged}
use Rattle.ctf_protocol.specs.declared.requests.ListName.{ListName}

-- ---- part

pub part_full : (list : ListName) (piece : List ℕ) (s : State) → longest_list < length (list_in list s.stage ++ piece) → parts list piece s ≡ refuses STAGE_FULL s
part_full list piece s lt = rw (lt-ltb longest_list (length (list_in list s.stage ++ piece)) lt) refl

pub part_over : (list : ListName) (piece : List ℕ) (s : State) → length (list_in list s.stage ++ piece) ≤ longest_list → quota < charge s + length piece → parts list piece s ≡ refuses QUOTA_FULL s
part_over list piece s le lt =
    let more = part_charge list piece s in
    rw (le-ltb longest_list (length (list_in list s.stage ++ piece)) le) (over _ s (omega (arith, more, lt)))

pub part_done : (list : ListName) (piece : List ℕ) (s : State) → length (list_in list s.stage ++ piece) ≤ longest_list → charge s + length piece ≤ quota → parts list piece s ≡ grants (says (codes "length") (answers.number (length (list_in list s.stage ++ piece))) ∷ []) (record s { stage = with_staged list (list_in list s.stage ++ piece) s.stage })
part_done list piece s le room =
    let more = part_charge list piece s in
    rw (le-ltb longest_list (length (list_in list s.stage ++ piece)) le) (granted _ s (omega (arith, more, room)))

-- ---- take

pub take_done : (kept : Kept) (s : State) → charge s + kept_bytes kept ≤ quota → takes_found (Some kept) s ≡ adds_slot kept s
take_done kept s room =
    let more = slot_charge (record { number = s.next; kept = kept; parent = None; draft = None }) (s.next + 1) s in
    granted (adds_slot kept s) s (omega (arith, more, room))

pub take_over : (kept : Kept) (s : State) → quota < charge s + kept_bytes kept → takes_found (Some kept) s ≡ refuses QUOTA_FULL s
take_over kept s lt =
    let more = slot_charge (record { number = s.next; kept = kept; parent = None; draft = None }) (s.next + 1) s in
    over (adds_slot kept s) s (omega (arith, more, lt))

-- ---- publish

pub publish_taken : (name : List ℕ) (kept : Kept) (s : State) → is_some (published_as name s.published) ≡ true → publishes_within name kept s ≡ refuses NAME_TAKEN s
publish_taken name kept s e = rw e refl

pub publish_done : (name : List ℕ) (kept : Kept) (s : State) → is_some (published_as name s.published) ≡ false → charge s + kept_bytes kept ≤ quota → publishes_within name kept s ≡ adds_publication name kept s
publish_done name kept s e room =
    let more = publication_charge (record { name = name; kept = kept }) s in
    rw e (granted (adds_publication name kept s) s (omega (arith, more, room)))

pub publish_over : (name : List ℕ) (kept : Kept) (s : State) → is_some (published_as name s.published) ≡ false → quota < charge s + kept_bytes kept → publishes_within name kept s ≡ refuses QUOTA_FULL s
publish_over name kept s e lt =
    let more = publication_charge (record { name = name; kept = kept }) s in
    rw e (over (adds_publication name kept s) s (omega (arith, more, lt)))

pub publish_in_room : (name : List ℕ) (kept : Kept) (s : State) (taken : Bool) → is_some (published_as name s.published) ≡ taken → charge s + kept_bytes kept ≤ quota → publishes_within name kept s ≡ publishes_kept name kept s
publish_in_room name kept s true e room = rw e refl
publish_in_room name kept s false e room = publish_done name kept s e room ∙ rw e refl

-- ---- import

pub import_done : (d : ℕ) (parent : Kept) (child : Slot) (s : State) → slot_at d s.slots ≡ Some child → charge s + kept_bytes parent ≤ quota + parent_bytes child.parent → imports_unless None d parent s ≡ grants [] (record s { slots = slots_with_parent d parent s.slots })
import_done d parent child s at room =
    let more = parent_charge d parent child s at in
    granted _ s (omega (arith, more, room))

pub import_over : (d : ℕ) (parent : Kept) (child : Slot) (s : State) → slot_at d s.slots ≡ Some child → quota + parent_bytes child.parent < charge s + kept_bytes parent → imports_unless None d parent s ≡ refuses QUOTA_FULL s
import_over d parent child s at lt =
    let more = parent_charge d parent child s at in
    over _ s (omega (arith, more, lt))

-- ---- create

pub create_done : (slot : Slot) (s : State) → charge s + slot_bytes slot ≤ quota → adds_created (Ok slot) s ≡ grants (says (codes "d") (answers.number s.next) ∷ []) (record s { slots = s.slots ++ slot ∷ []; next = s.next + 1 })
create_done slot s room =
    let more = slot_charge slot (s.next + 1) s in
    granted _ s (omega (arith, more, room))

pub create_over : (slot : Slot) (s : State) → quota < charge s + slot_bytes slot → adds_created (Ok slot) s ≡ refuses QUOTA_FULL s
create_over slot s lt =
    let more = slot_charge slot (s.next + 1) s in
    over _ s (omega (arith, more, lt))

-- ---- whole requests

pub takes_over : (found : Option Kept) (kept : Kept) (s : State) → has_room s ≡ true → found ≡ Some kept → quota < charge s + kept_bytes kept → takes found s ≡ refuses QUOTA_FULL s
takes_over found kept s room is lt = rw (room, is) (take_over kept s lt)

pub takes_done : (found : Option Kept) (kept : Kept) (s : State) → has_room s ≡ true → found ≡ Some kept → charge s + kept_bytes kept ≤ quota → takes found s ≡ adds_slot kept s
takes_done found kept s room is le = rw (room, is) (take_done kept s le)

-- publishing an existing slot with nothing pending
publish_at : (d : ℕ) (name : List ℕ) (slot : Slot) (s : State) → slot_at d s.slots ≡ Some slot → nat_lt 0 (pending_in slot.draft) ≡ false → publishes d name s ≡ publishes_within name slot.kept s
publish_at d name slot s at none = rw (at, none) refl

pub publishes_over : (d : ℕ) (name : List ℕ) (slot : Slot) (s : State) → slot_at d s.slots ≡ Some slot → nat_lt 0 (pending_in slot.draft) ≡ false → is_some (published_as name s.published) ≡ false → quota < charge s + kept_bytes slot.kept → publishes d name s ≡ refuses QUOTA_FULL s
publishes_over d name slot s at none free lt = publish_at d name slot s at none ∙ publish_over name slot.kept s free lt

pub publishes_taken : (d : ℕ) (name : List ℕ) (slot : Slot) (s : State) → slot_at d s.slots ≡ Some slot → nat_lt 0 (pending_in slot.draft) ≡ false → is_some (published_as name s.published) ≡ true → publishes d name s ≡ refuses NAME_TAKEN s
publishes_taken d name slot s at none taken = publish_at d name slot s at none ∙ publish_taken name slot.kept s taken

pub publishes_done : (d : ℕ) (name : List ℕ) (slot : Slot) (s : State) → slot_at d s.slots ≡ Some slot → nat_lt 0 (pending_in slot.draft) ≡ false → charge s + kept_bytes slot.kept ≤ quota → publishes d name s ≡ publishes_kept name slot.kept s
publishes_done d name slot s at none le =
    publish_at d name slot s at none ∙ publish_in_room name slot.kept s (is_some (published_as name s.published)) refl le

-- importing into an existing slot without a draft
import_at : (d p : ℕ) (child parent : Slot) (s : State) → slot_at d s.slots ≡ Some child → slot_at p s.slots ≡ Some parent → is_some child.draft ≡ false → imports d p s ≡ imports_unless (fault_over child.kept parent.kept) d parent.kept s
import_at d p child parent s at from plain = rw (at, from, plain) refl

pub imports_faulty : (d p : ℕ) (child parent : Slot) (s : State) (f : Fault) → slot_at d s.slots ≡ Some child → slot_at p s.slots ≡ Some parent → is_some child.draft ≡ false → fault_over child.kept parent.kept ≡ Some f → imports d p s ≡ outcome_of (Err f) s
imports_faulty d p child parent s f at from plain fault = import_at d p child parent s at from plain ∙ rw fault refl

pub imports_over : (d p : ℕ) (child parent : Slot) (s : State) → slot_at d s.slots ≡ Some child → slot_at p s.slots ≡ Some parent → is_some child.draft ≡ false → fault_over child.kept parent.kept ≡ None → quota + parent_bytes child.parent < charge s + kept_bytes parent.kept → imports d p s ≡ refuses QUOTA_FULL s
imports_over d p child parent s at from plain fault lt = import_at d p child parent s at from plain ∙ rw fault (import_over d parent.kept child s at lt)

pub imports_done : (d p : ℕ) (child parent : Slot) (s : State) → slot_at d s.slots ≡ Some child → slot_at p s.slots ≡ Some parent → is_some child.draft ≡ false → fault_over child.kept parent.kept ≡ None → charge s + kept_bytes parent.kept ≤ quota + parent_bytes child.parent → imports d p s ≡ grants [] (record s { slots = slots_with_parent d parent.kept s.slots })
imports_done d p child parent s at from plain fault le = import_at d p child parent s at from plain ∙ rw fault (import_done d parent.kept child s at le)

-- a slot that was not made
pub uncreated : (r : Result Slot Fault) (s : State) (f : Fault) → IsUncreated r (charge s) f → adds_created r s ≡ outcome_of (Err f) s
uncreated (Ok slot) s f h = create_over slot s h.1 ∙ ap (λ (g : Fault). outcome_of (Err g) s) (sym h.0)
uncreated (Err g) s f h = ap (λ (e : Fault). outcome_of (Err e) s) (sym h)

-- a refused import
pub imports_refused : (d p : ℕ) (child parent : Slot) (s : State) (f : Fault) (room : Bool) → slot_at d s.slots ≡ Some child → slot_at p s.slots ≡ Some parent → is_some child.draft ≡ false → (room ≡ false → quota + parent_bytes child.parent < charge s + kept_bytes parent.kept) → (f ≡ out_of_memory) ⊎ IsUnserved room (fault_over child.kept parent.kept) f → Makes s (imports d p s) (Err f) s
imports_refused d p child parent s f room at from plain over (inl want) = inr (ap (λ (g : Fault). unaddressed_reply (Err g)) want, refl)
imports_refused d p child parent s f room at from plain over (inr (inl fault)) = rw (imports_faulty d p child parent s f at from plain fault) (inl (refl, refl))
imports_refused d p child parent s f room at from plain over (inr (inr full)) = rw (imports_over d p child parent s at from plain full.1 (over full.2)) (inl (ap (λ (g : Fault). unaddressed_reply (Err g)) full.0, refl))

pub refused_creates : (asked : Created) (s : State) (above : Option Kept) (n others : ℕ) (f : Fault) → above ≡ option_and_then (λ d. option_map (λ (slot : Slot). slot.kept) (slot_at d s.slots)) asked.parent → is_some above ≡ is_some asked.parent → has_room s ≡ true → n ≡ s.next → others ≡ charge s → IsUncreated (created_slot n above asked) others f → creates asked s ≡ outcome_of (Err f) s
refused_creates asked s above n others f is there room next same h =
    creates_done asked s above n (created_slot n above asked) is there room next refl ∙ uncreated (created_slot n above asked) s f (subst (λ (k : ℕ). IsUncreated (created_slot n above asked) k f) same h)

abbrev reply_of : Result Answer Fault → Reply
reply_of r = record { session = 0; outcome = r }

abbrev with_stage : State → Lists → State
with_stage s stage = record s { stage = stage }

-- a part that was added
pub part_makes : (list : ListName) (piece : List ℕ) (s : State) (stage : Lists) (n : ℕ) (result : Result Counts Fault) → IsStaged list piece s.stage stage n → length (list_in list s.stage ++ piece) ≤ longest_list → charge s + length piece ≤ quota → change_answer result ≡ Ok (says (codes "length") (answers.number n) ∷ []) → Makes s (parts list piece s) result (with_stage s stage)
part_makes list piece s stage n result done le room told =
    rw (part_done list piece s le room) (inl (ap reply_of (told ∙ ap (λ (k : ℕ). Ok (says (codes "length") (answers.number k) ∷ [])) done.long), ap (with_stage s) done.lists))

-- a part that was refused
pub part_refused : (list : ListName) (piece : List ℕ) (s : State) (stage : Lists) (f : Fault) (room : Bool) (result : Result Counts Fault) → (f ≡ out_of_memory) ⊎ IsFull room (length (list_in list s.stage ++ piece)) f → (room ≡ false → quota < charge s + length piece) → stage ≡ s.stage → result ≡ Err f → Makes s (parts list piece s) result (with_stage s stage)
part_refused list piece s stage f room result (inl want) over same is =
    inr (ap (λ (r : Result Counts Fault). unaddressed_reply r) (is ∙ ap Err want), ap (with_stage s) same)
part_refused list piece s stage f room result (inr (inl full)) over same is =
    rw (part_full list piece s full.1) (inl (ap (λ (r : Result Counts Fault). unaddressed_reply r) (is ∙ ap Err full.0), ap (with_stage s) same))
part_refused list piece s stage f room result (inr (inr full)) over same is =
    rw (part_over list piece s full.1 (over full.2)) (inl (ap (λ (r : Result Counts Fault). unaddressed_reply r) (is ∙ ap Err full.0), ap (with_stage s) same))
