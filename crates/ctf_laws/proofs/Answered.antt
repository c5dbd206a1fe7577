-- Answers of good slots, checks, and updates.
use Rattle.std.proofs.Common.{◌≡◌, ◌⊎◌, inl, inr, ℕ, List, Bool, true, false, Option, Some, None, Result, Ok, Err, refl, ap, sym, subst, ◌∙◌, codes}
use Rattle.std.specs.Prelude.{MatchOption}
use Rattle.std.specs.Option.{ForSome, option_map}
use Rattle.ctf_model.proofs.Denoted.{denotes_said, one_dictionary}
use Rattle.ctf_model.proofs.Judge.{least_fault}
use Rattle.ctf_model.proofs.SoundDrafts.{changes_sound, new_sound}
use Rattle.ctf_model.proofs.WrittenDrafts.{draft_denoted}
use Rattle.ctf_model.specs.drafts.DraftChanges.{after}
use Rattle.ctf_model.specs.drafts.DraftLaws.{IsSound}
use Rattle.ctf_model.specs.drafts.Drafts.{Draft, content}
use Rattle.ctf_model.specs.format.Dictionary.{Denotes, Dictionary, said_by}
use Rattle.ctf_model.specs.format.Laws.{KeepsEveryRule}
use Rattle.ctf_model.specs.format.Lists.{Lists}
use Rattle.ctf_model.specs.opened.Steps.{with_count, settled_as, updated_if}
use Rattle.ctf_model.specs.rules.Faults.{first_fault}
use Rattle.ctf_model.specs.rules.Refusals.{placeless}
use Rattle.ctf_model.specs.rules.Rules.{IsFirstFault}
use Rattle.ctf_model.specs.spaces.Kept.{Kept, kept_dictionary}
use Rattle.ctf_model.specs.spaces.Space.{Space}
use Rattle.ctf_model.specs.writing.Written.{written}
use Rattle.ctf_model.specs.declared.data_model.DataModel.{DataModel}
use Rattle.ctf_model.specs.declared.faults.Fault.{Fault}
use Rattle.ctf_model.specs.declared.faults.TheConstants.Fault.{SLOTS_FULL}
use Rattle.ctf_protocol.specs.answers.Answers.{Answer}
use Rattle.ctf_protocol.specs.answers.Questions.{type_answered}
use Rattle.ctf_protocol.specs.answers.SlotAnswers.{whole_answered}
use Rattle.ctf_protocol.specs.sessions.DraftSteps.{slot_step}
use Rattle.ctf_protocol.specs.sessions.Opened.{slot_stepped, under}
use Rattle.ctf_protocol.specs.sessions.State.{Slot, State}
use Rattle.ctf_protocol.proofs.StepWords.{accepts_unless, opens_unless}
use Rattle.ctf_protocol.specs.sessions.SlotQuestions.{slot_space}
use Rattle.ctf_protocol.specs.sessions.Slots.{has_room}
use Rattle.ctf_protocol.specs.sessions.Steps.{opens}
use Rattle.ctf_laws.specs.Good.{IsFaultless}
use Rattle.ctf_laws.specs.GoodLaws.{AnswersAreOfWhatIsDenoted, AreDenoted, BytesDenoteWhatWasAdded, ChecksAcceptWhatKeepsEveryRule, ChecksRefuseByTheFirstRule, IsDenoted, OpensAcceptWhatKeepsEveryRule, OpensRefuseByTheFirstRule, SlotsDenote, UpdatesDenoteTheDraft}

-- ---- the dictionary that a slot's lists denote

parent_denoted : (o : Option Kept) → ForSome o IsFaultless → AreDenoted o (option_map kept_dictionary o)
parent_denoted None h = tt
parent_denoted (Some p) h = denotes_said p.lists (h p refl)

pub slots_denote : SlotsDenote
slots_denote slot g = record {
  own = denotes_said slot.kept.lists g.faultless;
  parent = parent_denoted slot.parent (λ p e. (g.parent p e).faultless);
  model = refl;
}

one_parent : (o : Option Kept) (d : Option Dictionary) → AreDenoted o d → option_map kept_dictionary o ≡ d
one_parent None None h = refl
one_parent (Some p) (Some d) h = ap (λ (x : Dictionary). Some x) (one_dictionary p.lists (said_by p.lists) d (denotes_said p.lists h.faultless) h)
one_parent None (Some d) h = absurd h
one_parent (Some p) None h = absurd h

space_with : Dictionary → Option Dictionary → DataModel → Space
space_with own parent model = record { own = own; parent = parent; model = model }

pub space_is : (slot : Slot) (s : Space) → IsDenoted slot s → slot_space slot ≡ s
unfolding space_with
space_is slot s h =
    let own = one_dictionary slot.kept.lists (said_by slot.kept.lists) s.own (denotes_said slot.kept.lists h.own.faultless) h.own in
    ap (λ (x : Dictionary). space_with x (option_map kept_dictionary slot.parent) slot.kept.model) own
    ∙ ap (λ (x : Option Dictionary). space_with s.own x slot.kept.model) (one_parent slot.parent s.parent h.parent)
    ∙ ap (λ (x : DataModel). space_with s.own s.parent x) (sym h.model)

pub answers_are_of_what_is_denoted : AnswersAreOfWhatIsDenoted
answers_are_of_what_is_denoted slot s h = record {
  types = λ question t. ap (λ (x : Space). type_answered question x t.0) (space_is slot s h);
  wholes = λ question. ap (λ (x : Space). whole_answered question x) (space_is slot s h);
}

-- ---- checks

pub least_at : (s : Lists) (f : Fault) → first_fault s ≡ Some f → IsFirstFault s f
least_at s f e = subst (λ (o : Option Fault). MatchOption o (KeepsEveryRule s) (IsFirstFault s)) e (least_fault s)

pub none_at : (s : Lists) → first_fault s ≡ None → KeepsEveryRule s
none_at s e = subst (λ (o : Option Fault). MatchOption o (KeepsEveryRule s) (IsFirstFault s)) e (least_fault s)

refused_by : (fault : Option Fault) (state : State) (f : Fault) → (accepts_unless fault state).reply.outcome ≡ Err f → fault ≡ Some f
refused_by None state f e = absurd cc
refused_by (Some g) state f e = let same : g ≡ f = cc in ap (λ (x : Fault). Some x) same

accepted_by : (fault : Option Fault) (state : State) (a : Answer) → (accepts_unless fault state).reply.outcome ≡ Ok a → fault ≡ None
accepted_by None state a e = refl
accepted_by (Some g) state a e = absurd cc

pub checks_refuse : ChecksRefuseByTheFirstRule
checks_refuse state f e = least_at state.stage f (refused_by (first_fault state.stage) state f e)

pub checks_accept : ChecksAcceptWhatKeepsEveryRule
checks_accept state a e = none_at state.stage (accepted_by (first_fault state.stage) state a e)

unopened_by : (fault : Option Fault) (kept : Kept) (state : State) (f : Fault) → (opens_unless fault kept state).reply.outcome ≡ Err f → fault ≡ Some f
unopened_by None kept state f e = absurd cc
unopened_by (Some g) kept state f e = let same : g ≡ f = cc in ap (λ (x : Fault). Some x) same

opened_by : (fault : Option Fault) (kept : Kept) (state : State) (a : Answer) → (opens_unless fault kept state).reply.outcome ≡ Ok a → fault ≡ None
opened_by None kept state a e = refl
opened_by (Some g) kept state a e = absurd cc

opens_refuse_by : (room : Bool) (model : DataModel) (state : State) (f : Fault) → has_room state ≡ room → (opens model state).reply.outcome ≡ Err f → (f ≡ placeless SLOTS_FULL) ⊎ IsFirstFault state.stage f
opens_refuse_by true model state f h e =
    let there : (opens_unless (first_fault state.stage) (record { lists = state.stage; model = model }) state).reply.outcome ≡ Err f = rw h at e in
    inr (least_at state.stage f (unopened_by (first_fault state.stage) _ state f there))
opens_refuse_by false model state f h e =
    let full : Err (placeless SLOTS_FULL) ≡ Err f = rw h at e in
    let same : f ≡ placeless SLOTS_FULL = cc in
    inl same

pub opens_refuse : OpensRefuseByTheFirstRule
opens_refuse model state f e = opens_refuse_by (has_room state) model state f refl e

opens_accept_by : (room : Bool) (model : DataModel) (state : State) (a : Answer) → has_room state ≡ room → (opens model state).reply.outcome ≡ Ok a → KeepsEveryRule state.stage
opens_accept_by true model state a h e =
    let there : (opens_unless (first_fault state.stage) (record { lists = state.stage; model = model }) state).reply.outcome ≡ Ok a = rw h at e in
    none_at state.stage (opened_by (first_fault state.stage) _ state a there)
opens_accept_by false model state a h e =
    let full : Err (placeless SLOTS_FULL) ≡ Ok a = rw h at e in
    absurd cc

pub opens_accept : OpensAcceptWhatKeepsEveryRule
opens_accept model state a e = opens_accept_by (has_room state) model state a refl e

-- ---- updates

writes_denote : (say : ℕ → Answer) (slot : Slot) (d : Draft) (a : Answer) (r : Result (List ℕ) Fault) → IsSound d → written (content d) ≡ r → (slot_stepped say slot (with_count (settled_as slot.parent d r))).said ≡ Ok a → Denotes (slot_stepped say slot (with_count (settled_as slot.parent d r))).slot.kept.lists (content d)
writes_denote say slot d a (Err f) sound wrote said = absurd cc
writes_denote say slot d a (Ok bytes) sound wrote said = draft_denoted d bytes sound wrote

update_denotes : (say : ℕ → Answer) (slot : Slot) (d : Draft) (a : Answer) (draft : Option Draft) → draft ≡ Some d → IsSound d → (slot_stepped say slot (updated_if slot.parent draft)).said ≡ Ok a → Denotes (slot_stepped say slot (updated_if slot.parent draft)).slot.kept.lists (content d)
update_denotes say slot d a None is sound said = absurd cc
update_denotes say slot d a (Some e) is sound said =
    let same : d ≡ e = cc in
    subst (λ (x : Draft). (slot_stepped say slot (updated_if slot.parent (Some x))).said ≡ Ok a → Denotes (slot_stepped say slot (updated_if slot.parent (Some x))).slot.kept.lists (content d)) same (writes_denote say slot d a (written (content d)) sound refl) said

pub updates_denote : UpdatesDenoteTheDraft
unfolding slot_step
updates_denote slot d a g is said = update_denotes (under (codes "types")) slot d a slot.draft is (g.draft d is).sound said

pub bytes_denote : BytesDenoteWhatWasAdded
bytes_denote parent parname parlabel model d changes bytes there made fits wrote =
    draft_denoted (after d changes) bytes (changes_sound d changes (new_sound parent parname parlabel model d there made) fits) wrote
