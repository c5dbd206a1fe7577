-- Worked rows of limits, each at its edge, of the order of refusals, and of what counts against the
-- quota. The values were worked out by hand.
use Rattle.std.specs.Prelude.{◌≡◌, ℕ, List, [], ◌∷◌, length, true, false, Option, None, Some, Err, codes}
use Rattle.ctf_model.specs.format.Rows.{ctf_alone, int_bytes}
use Rattle.ctf_model.specs.rules.Refusals.{placeless}
use Rattle.ctf_model.specs.spaces.Kept.{Kept, as_kept}
use Rattle.ctf_protocol.specs.answers.Answers.{Answer, says}
use Rattle.ctf_protocol.specs.answers.Answers as answers
use Rattle.ctf_protocol.specs.lines.Ask.{ask}
use Rattle.ctf_protocol.specs.lines.ReplyLines.{fault_line, fitting_line}
use Rattle.ctf_protocol.specs.sessions.Charges.{charge}
use Rattle.ctf_protocol.specs.sessions.Creations.{Created}
use Rattle.ctf_protocol.specs.sessions.Publications.{is_publication_name}
use Rattle.ctf_protocol.specs.sessions.State.{Slot, State, empty_state}
use Rattle.ctf_protocol.specs.sessions.Outcomes.{Outcome, grants, refuses, within_quota}
use Rattle.ctf_protocol.specs.sessions.Slots.{has_room, slot_at}
use Rattle.ctf_protocol.specs.sessions.Steps.{creates, opens, publishes, stages, takes}
use Rattle.ctf_model.specs.declared.data_model.DataModel.{DataModel}
use Rattle.ctf_model.specs.declared.faults.TheConstants.Fault.{LONG_LINE, LONG_REPLY, NAME_TAKEN, NOT_PUBLISHED, QUOTA_FULL, SLOTS_FULL, STAGE_FULL}
use Rattle.ctf_protocol.specs.declared.requests.ListName.TheVariants.{Ctf}

-- ---- limits

-- a library with these staged bytes
abbrev pub staging : List ℕ → State
staging bytes = record empty_state { stage = ctf_alone bytes }

pub record LimitsHold : Type 0 where
  -- 64 MiB for a staged list
  pub longest_list : (bytes : List ℕ) → length bytes ≡ 67108864
      → stages Ctf bytes empty_state
      ≡ grants (says (codes "length") (answers.number 67108864) ∷ []) (staging bytes)
  pub longer_list : (bytes : List ℕ) (state : State) → length bytes ≡ 67108865
      → stages Ctf bytes state ≡ refuses STAGE_FULL state
  -- 256 MiB for a library
  pub greatest_charge : (outcome : Outcome) (state : State) → charge outcome.state ≡ 268435456
      → within_quota outcome state ≡ outcome
  pub greater_charge : (outcome : Outcome) (state : State) → charge outcome.state ≡ 268435457
      → within_quota outcome state ≡ refuses QUOTA_FULL state
  -- 1023 slots, with numbers up to 2^32 - 1
  pub last_slot : (state : State) → length state.slots ≡ 1022 → state.next ≡ 4294967295
      → has_room state ≡ true
  pub no_slot_more : (state : State) → length state.slots ≡ 1023 → has_room state ≡ false
  pub no_number_more : (state : State) → length state.slots ≡ 0 → state.next ≡ 4294967296
      → has_room state ≡ false
  -- 4 MiB for a reply line, without its newline
  pub longest_reply : (s : ℕ) (line : List ℕ) → length line ≡ 4194305
      → fitting_line s line ≡ line
  pub longer_reply : (s : ℕ) (line : List ℕ) → length line ≡ 4194306
      → fitting_line s line ≡ fault_line s (placeless LONG_REPLY)
  -- 1 MiB for a request line
  pub longer_line : (line : List ℕ) → length line ≡ 1048577
      → ask line ≡ Err (0, placeless LONG_LINE)
  -- 64 bytes for a publication's name
  pub longest_name : is_publication_name
      (codes "0123456789012345678901234567890123456789012345678901234567890123") ≡ true
  pub longer_name : is_publication_name
      (codes "01234567890123456789012345678901234567890123456789012345678901234") ≡ false

-- ---- the order of refusals

-- a library with a dictionary in slot 1, already published
abbrev pub published_already : Kept → State → State
published_already kept state =
    record state {
      slots = record { number = 1; kept = kept; parent = None; draft = None } ∷ [];
      published = record { name = codes "base"; kept = kept } ∷ [];
    }

pub record RefusalsAreInOrder : Type 0 where
  -- without a free slot, nothing is checked, made or looked for
  pub open_full : (model : DataModel) (state : State) → has_room state ≡ false
      → opens model state ≡ refuses SLOTS_FULL state
  pub create_full : (asked : Created) (state : State) → asked.parent ≡ None
      → has_room state ≡ false → creates asked state ≡ refuses SLOTS_FULL state
  pub create_full_over : (asked : Created) (p : ℕ) (slot : Slot) (state : State)
      → asked.parent ≡ Some p → slot_at p state.slots ≡ Some slot → has_room state ≡ false
      → creates asked state ≡ refuses SLOTS_FULL state
  pub take_full : (found : Option Kept) (state : State) → has_room state ≡ false
      → takes found state ≡ refuses SLOTS_FULL state
  -- a missing publication is refused before any size is considered
  pub take_nothing : (state : State) → has_room state ≡ true
      → takes None state ≡ refuses NOT_PUBLISHED state
  -- a taken name is refused whatever the charge
  pub name_taken : (kept : Kept) (state : State)
      → publishes 1 (codes "base") (published_already kept state)
      ≡ refuses NAME_TAKEN (published_already kept state)

-- ---- charges

abbrev pub int : Kept
int = as_kept (ctf_alone int_bytes)

-- the integer int, with itself as its parent
abbrev pub over_int : Slot
over_int = record { number = 1; kept = int; parent = Some int; draft = None }

pub record DictionariesCount : Type 0 where
  pub nothing : charge empty_state ≡ 0
  pub slot_and_parent : charge (record empty_state { slots = over_int ∷ [] }) ≡ 106
  pub each_slot : charge (record empty_state { slots = over_int ∷ over_int ∷ [] }) ≡ 212
  pub publication :
      charge (record empty_state { published = record { name = codes "base"; kept = int } ∷ [] })
      ≡ 53
  pub staged : charge (record empty_state {
    stage = record { ctf = 1 ∷ 2 ∷ []; sym = Some (3 ∷ []); strs = Some (4 ∷ 5 ∷ 6 ∷ []) };
  }) ≡ 6
  pub all_lists : charge (record empty_state {
    slots = record {
      number = 1;
      kept = as_kept (record { ctf = 1 ∷ []; sym = Some (2 ∷ []); strs = Some (3 ∷ []) });
      parent = None;
      draft = None;
    } ∷ [];
  }) ≡ 3
