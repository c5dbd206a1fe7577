-- Every step is correct, by cases on the steps of StepWords.
use Rattle.std.proofs.Common.{◌≡◌, inl, inr, ℕ, List, [], ◌∷◌, length, Bool, true, false, Option, Some, None, Result, Ok, Err, eqb, refl, ap, sym, subst, ◌∙◌, codes, is_some}
use Rattle.std.proofs.lemmas.Bool.{ltb-false, ltb-true}
use Rattle.std.specs.Prelude.{nat_lt, not}
use Rattle.std.specs.Option.{ForSome, option_map}
use Rattle.ctf_model.proofs.Denoted.{denotes_said, one_dictionary}
use Rattle.ctf_model.proofs.SoundDrafts.{life_sound, new_sound}
use Rattle.ctf_model.proofs.WrittenDrafts.{draft_denoted}
use Rattle.ctf_model.specs.drafts.Adders.{Added, add_enumerator, add_label}
use Rattle.ctf_model.specs.drafts.DraftLaws.{IsSound}
use Rattle.ctf_model.specs.drafts.Drafts.{Draft, rollback, content, new_draft}
use Rattle.ctf_model.specs.format.Dictionary.{Denotes, Dictionary, said_by}
use Rattle.ctf_model.specs.format.Lists.{Lists}
use Rattle.ctf_model.specs.opened.Open.{pending_in}
use Rattle.ctf_model.specs.opened.Steps.{with_count, created, discarded_if, enlarged_as, enlarged_if, import_refusal, settled_as, silent, updated_if, updated_over}
use Rattle.ctf_model.specs.rules.Faults.{first_fault}
use Rattle.ctf_model.specs.rules.Refusals.{placeless}
use Rattle.ctf_model.specs.spaces.Kept.{Kept, modelled_by}
use Rattle.ctf_model.specs.writing.Written.{lists_of, written}
use Rattle.ctf_model.specs.declared.data_model.DataModel.{DataModel}
use Rattle.ctf_model.specs.declared.faults.Fault.{Fault}
use Rattle.ctf_model.specs.declared.faults.TheConstants.Fault.{NAME_TAKEN, NOT_PUBLISHED, NOT_UPDATED, NO_SLOT, READ_ONLY, SLOTS_FULL, STAGE_FULL}
use Rattle.ctf_protocol.specs.answers.Answers.{Answer}
use Rattle.ctf_protocol.specs.sessions.Additions.{apply_addition, addition_answered}
use Rattle.ctf_protocol.specs.sessions.Charges.{charge}
use Rattle.ctf_protocol.specs.sessions.Creations.{Created}
use Rattle.ctf_protocol.specs.sessions.DraftSteps.{created_slot, model_made, slot_step}
use Rattle.ctf_protocol.specs.sessions.Opened.{open_of, slot_made, slot_refused, slot_stepped, under}
use Rattle.ctf_protocol.specs.sessions.Outcomes.{Outcome, finding, grants, making, needs, quota, refused_by, refused_where, within_quota}
use Rattle.ctf_protocol.specs.sessions.Publications.{published_as}
use Rattle.ctf_protocol.specs.sessions.SlotQuestions.{answer_of_slot, slot_answered, slot_space}
use Rattle.ctf_protocol.specs.sessions.Slots.{has_room, slot_at, slots_with}
use Rattle.ctf_protocol.specs.sessions.State.{Slot, State}
use Rattle.ctf_protocol.specs.sessions.Steps.{adds_draft, change_step, longest_list, slot_becomes, stages, step, updates_within}
use Rattle.ctf_protocol.proofs.StepWords.{accepts_unless, creates_from, creates_over, imports_into, opens_unless, publishes_slot, takes_found, with_slot}
use Rattle.ctf_protocol.specs.declared.additions.Addition.{Addition}
use Rattle.ctf_protocol.specs.declared.additions.Addition.TheVariants as add
use Rattle.ctf_protocol.specs.declared.questions.HeldQuestion.TheVariants as about
use Rattle.ctf_protocol.specs.declared.questions.Question.{Question}
use Rattle.ctf_protocol.specs.declared.questions.Question.TheVariants.{OfHeld, OfSlot, OfType}
use Rattle.ctf_protocol.specs.declared.requests.Change.{Change}
use Rattle.ctf_protocol.specs.declared.requests.Change.TheVariants as change
use Rattle.ctf_protocol.specs.declared.requests.DraftStep.TheVariants as steps
use Rattle.ctf_protocol.specs.declared.requests.ListName.{ListName}
use Rattle.ctf_protocol.specs.declared.requests.Request.{Request}
use Rattle.ctf_protocol.specs.declared.requests.Request.TheVariants.{Asks, Changes}
use Rattle.ctf_laws.proofs.Answered.{least_at, none_at, slots_denote, space_is}
use Rattle.ctf_laws.proofs.Drafted.{enumerator_leaves, label_leaves, member_leaves, type_leaves}
use Rattle.ctf_laws.proofs.Slots.{found_good}
use Rattle.ctf_laws.specs.Endings.{Ending, Finds, Gives, GrantsWithin, Judges, Needs, Refuses, RefusesBy, RefusesWhere}
use Rattle.ctf_laws.specs.Good.{FitsChange, FitsRequest, IsDraftOf, IsFaultless, IsGood, IsGoodSlot}
use Rattle.ctf_laws.specs.Right.{Adds, Creates, CreatesOver, DenotesJust, Discards, HasJust, Imports, IsAnsweredOf, IsDrafted, IsImported, IsOpened, IsRight, Opens, PublishesIts, Stages, Takes, Updates, WritesDraft, answer_from, slot_written, types_answer, with_slot_at, with_slot_of}

-- ---- the ways to end

-- the step has this ending
abbrev pub Ends : Ending → Outcome → Type 0
Ends R outcome = R outcome.reply.outcome outcome.state

within_case : (over : Bool) (answer : Answer) (would old : State) → nat_lt quota (charge would) ≡ over → Ends (GrantsWithin old answer would) (within_quota (grants answer would) old)
within_case true answer would old e = rw e (inr (ltb-true quota (charge would) e, (refl, refl)))
within_case false answer would old e = rw e (inl (ltb-false quota (charge would) e, (refl, refl)))

within : (answer : Answer) (would old : State) → Ends (GrantsWithin old answer would) (within_quota (grants answer would) old)
within answer would old = within_case (nat_lt quota (charge would)) answer would old refl

where_ends : (t : Bool) (code : ℕ) (old : State) (R : Ending) (outcome : Outcome) → Ends R outcome → Ends (RefusesWhere t code old R) (refused_where t code old outcome)
where_ends true code old R outcome h = (refl, refl)
where_ends false code old R outcome h = h

needs_ends : (t : Bool) (code : ℕ) (old : State) (R : Ending) (outcome : Outcome) → Ends R outcome → Ends (Needs t code old R) (needs t code old outcome)
needs_ends true code old R outcome h = h
needs_ends false code old R outcome h = (refl, refl)

by_ends : (fault : Option Fault) (old : State) (R : Ending) (outcome : Outcome) → Ends R outcome → Ends (RefusesBy fault old R) (refused_by fault old outcome)
by_ends None old R outcome h = h
by_ends (Some f) old R outcome h = (refl, refl)

finds_slot : (slot : Option Slot) (old : State) (R : Slot → Ending) (does : Slot → Outcome) → ((s : Slot) → slot ≡ Some s → Ends (R s) (does s)) → Ends (Finds slot NO_SLOT old R) (finding NO_SLOT slot old does)
finds_slot None old R does h = (refl, refl)
finds_slot (Some slot) old R does h = h slot refl

finds_kept : (kept : Option Kept) (old : State) (R : Kept → Ending) (does : Kept → Outcome) → ((k : Kept) → kept ≡ Some k → Ends (R k) (does k)) → Ends (Finds kept NOT_PUBLISHED old R) (finding NOT_PUBLISHED kept old does)
finds_kept None old R does h = (refl, refl)
finds_kept (Some kept) old R does h = h kept refl

judged_ends : (fault : Option Fault) (lists : Lists) (old would : State) (Granted : Answer → State → Type 0) (answer : Answer) → first_fault lists ≡ fault → (fault ≡ None → Granted answer would) → Ends (Judges lists old Granted) (refused_by fault old (grants answer would))
judged_ends None lists old would Granted answer e h = (none_at lists e, h refl)
judged_ends (Some f) lists old would Granted answer e h = (least_at lists f e, refl)

-- ---- one dictionary

just_denoted : (lists : Lists) (d : Dictionary) → Denotes lists d → DenotesJust lists d
just_denoted lists d h = record { denoted = h; only = λ other o. one_dictionary lists other d o h }

just_said : (lists : Lists) → first_fault lists ≡ None → DenotesJust lists (said_by lists)
just_said lists e = just_denoted lists (said_by lists) (denotes_said lists e)

has_just : (slot : Slot) → IsGoodSlot slot → HasJust slot (slot_space slot)
has_just slot g = record {
  denoted = slots_denote slot g;
  only = λ other o. sym (space_is slot other o);
}

-- ---- questions

told_as : (question : Question) (slot : Slot) → slot_answered question slot ≡ answer_from question slot (slot_space slot)
told_as (OfType t question) slot = refl
told_as (OfSlot question) slot = refl
told_as (OfHeld about.Info) slot = refl
told_as (OfHeld about.Model) slot = refl
told_as (OfHeld (about.Bytes from count)) slot = refl

-- the lists of a draft's slot are those of its last update
drafted : (slot : Slot) (d : Draft) → IsGoodSlot slot → IsDraftOf slot d → said_by slot.kept.lists ≡ content (rollback d)
drafted slot d g is =
    let wrote : Denotes (lists_of is.bytes) (content (rollback d)) = draft_denoted (rollback d) is.bytes (life_sound d is.sound).0 is.wrote in
    one_dictionary slot.kept.lists (said_by slot.kept.lists) (content (rollback d)) (denotes_said slot.kept.lists g.faultless) (subst (λ (l : Lists). Denotes l (content (rollback d))) (sym is.lists) wrote)

tells : (question : Question) (o : Option Slot) (old : State) → ((slot : Slot) → o ≡ Some slot → IsGoodSlot slot) → Finds o NO_SLOT old (λ slot. IsAnsweredOf slot question old) (answer_of_slot question o) old
tells question None old good = (refl, refl)
tells question (Some slot) old good = record {
  dictionary = slot_space slot;
  denoted = has_just slot (good slot refl);
  told = told_as question slot;
  held = λ d e. drafted slot d (good slot refl) ((good slot refl).draft d e);
  stays = refl;
}

-- ---- the stage

staging : (list : ListName) (bytes : List ℕ) (state : State) → Ends (Stages list bytes state) (stages list bytes state)
staging list bytes state = where_ends (nat_lt longest_list (length bytes)) STAGE_FULL state _ _ (within _ _ state)

checked : (state : State) → Ends (Judges state.stage state (λ answer left. (answer ≡ []) × (left ≡ state))) (accepts_unless (first_fault state.stage) state)
checked state = judged_ends (first_fault state.stage) state.stage state state _ [] refl (λ e. (refl, refl))

opening : (model : DataModel) (state : State) → Ends (Opens model state) (needs (has_room state) SLOTS_FULL state (opens_unless (first_fault state.stage) (record { lists = state.stage; model = model }) state))
opening model state = needs_ends (has_room state) SLOTS_FULL state _ _ (judged_ends (first_fault state.stage) state.stage state _ (IsOpened (record { lists = state.stage; model = model }) state) _ refl (λ e. record {
  dictionary = said_by state.stage;
  denoted = just_said state.stage e;
  told = refl;
  stands = refl;
}))

-- ---- publications

taking : (found : Option Kept) (state : State) → ForSome found IsFaultless → Ends (Takes found state) (needs (has_room state) SLOTS_FULL state (takes_found found state))
taking found state h = needs_ends (has_room state) SLOTS_FULL state _ _ (finds_kept found state _ _ (λ kept e. record {
  dictionary = said_by kept.lists;
  denoted = just_said kept.lists (h kept e);
  granted = within _ _ state;
}))

publishing : (slot : Option Slot) (name : List ℕ) (state : State) → Ends (Finds slot NO_SLOT state (λ s. PublishesIts s name state)) (with_slot (λ s. publishes_slot name s state) slot state)
publishing slot name state = finds_slot slot state _ _ (λ s e. where_ends (nat_lt 0 (pending_in s.draft)) NOT_UPDATED state _ _ (where_ends (is_some (published_as name state.published)) NAME_TAKEN state _ _ (within _ _ state)))

-- ---- import

imported : (child parent : Slot) (d : ℕ) (state : State) → IsGoodSlot child → IsGoodSlot parent → Ends (IsImported child parent d state) (imports_into child d parent state)
imported child parent d state g h = record {
  own = said_by child.kept.lists;
  own_denoted = just_said child.kept.lists g.faultless;
  over = said_by parent.kept.lists;
  over_denoted = just_said parent.kept.lists h.faultless;
  judged = by_ends (import_refusal (open_of child) (open_of parent)) state _ _ (within _ _ state);
}

importing : (c p : Option Slot) (d : ℕ) (state : State) → ((slot : Slot) → c ≡ Some slot → IsGoodSlot slot) → ((slot : Slot) → p ≡ Some slot → IsGoodSlot slot) → Ends (Imports d c p state) (with_slot (λ child. with_slot (λ parent. imports_into child d parent state) p state) c state)
importing c p d state g h = finds_slot c state _ _ (λ child there. finds_slot p state _ _ (λ parent over. imported child parent d state (g child there) (h parent over)))

-- ---- create

there_as : (parent : Option Kept) → is_some (option_map modelled_by parent) ≡ is_some parent
there_as None = refl
there_as (Some p) = refl

writes_new : (parent : Option Kept) (d : Draft) (r : Result (List ℕ) Fault) (state : State) → IsSound d → written (content d) ≡ r
    → Ends (Gives r state (λ bytes. WritesDraft d bytes (under (codes "d") state.next) (with_slot_of (slot_written state.next parent d bytes) state) state)) (making (slot_made state.next (settled_as parent d r)) state (λ slot. adds_draft slot state))
writes_new parent d (Err f) state sound is = (refl, refl)
writes_new parent d (Ok bytes) state sound is = record {
  denoted = just_denoted (lists_of bytes) (content d) (draft_denoted d bytes sound is);
  granted = within _ _ state;
}

makes_new : (parent : Option Kept) (r : Result Draft Fault) (state : State) → ((d : Draft) → r ≡ Ok d → IsSound d)
    → Ends (Gives r state (λ d. Gives (written (content d)) state (λ bytes. WritesDraft d bytes (under (codes "d") state.next) (with_slot_of (slot_written state.next parent d bytes) state) state))) (making (slot_made state.next (updated_over parent r)) state (λ slot. adds_draft slot state))
makes_new parent (Err f) state sound = (refl, refl)
makes_new parent (Ok d) state sound = writes_new parent d (written (content d)) state (sound d refl) refl

creating_over : (parent : Option Kept) (asked : Created) (state : State) → is_some parent ≡ not (eqb (length asked.parname) 0) → Ends (CreatesOver parent asked state) (creates_over parent asked state)
unfolding created_slot created
creating_over parent asked state there = needs_ends (has_room state) SLOTS_FULL state _ _ (makes_new parent (new_draft (option_map modelled_by parent) asked.parname asked.parlabel (model_made parent asked)) state (λ d e. new_sound (option_map modelled_by parent) asked.parname asked.parlabel (model_made parent asked) d (there_as parent ∙ there) e))

creating : (parent : Option ℕ) (asked : Created) (state : State) → is_some parent ≡ not (eqb (length asked.parname) 0) → Ends (Creates parent asked state) (creates_from parent asked state)
creating None asked state there = creating_over None asked state there
creating (Some p) asked state there = finds_slot (slot_at p state.slots) state _ _ (λ slot e. creating_over (Some slot.kept) asked state there)

-- ---- update, add, discard

same_case : (d : ℕ) (was x : Slot) (rest : List Slot) → (slot_at d rest ≡ Some was → slots_with d was rest ≡ rest) → (t : Bool) → eqb x.number d ≡ t → slot_at d (x ∷ rest) ≡ Some was → slots_with d was (x ∷ rest) ≡ x ∷ rest
same_case d was x rest later true t at =
    let here : Some x ≡ Some was = rw t at at in
    let first : was ≡ x = cc in
    rw t (ap (λ (s : Slot). s ∷ rest) first)
same_case d was x rest later false t at =
    let there : slot_at d rest ≡ Some was = rw t at at in
    rw t (ap (λ (xs : List Slot). x ∷ xs) (later there))

-- replacing a slot by itself changes nothing
same_slots : (d : ℕ) (was : Slot) (slots : List Slot) → slot_at d slots ≡ Some was → slots_with d was slots ≡ slots
same_slots d was [] at = refl
same_slots d was (x ∷ rest) at = same_case d was x rest (same_slots d was rest) (eqb x.number d) refl at

refused_stays : (d : ℕ) (slot : Slot) (f : Fault) (state : State) → slot_at d state.slots ≡ Some slot → Ends (Refuses f state) (slot_becomes d (slot_refused f slot) state)
refused_stays d slot f state at = (refl, ap (λ (slots : List Slot). record state { slots = slots }) (same_slots d slot state.slots at))

wrote : (d : ℕ) (slot : Slot) (draft : Draft) (r : Result (List ℕ) Fault) (state : State) → IsSound draft → slot_at d state.slots ≡ Some slot → written (content draft) ≡ r
    → let o = slot_stepped (under (codes "types")) slot (with_count (settled_as slot.parent draft r)) in
    Ends (Gives r state (λ bytes. WritesDraft draft bytes (types_answer (content draft)) (with_slot_at d (slot_written slot.number slot.parent draft bytes) state) state)) (updates_within o.said (slot_becomes d o state) state)
wrote d slot draft (Err f) state sound at is = refused_stays d slot f state at
wrote d slot draft (Ok bytes) state sound at is =
    let denoted : Denotes (lists_of bytes) (content draft) = draft_denoted draft bytes sound is in
    let just = just_denoted (lists_of bytes) (content draft) denoted in
    let dictionary : said_by (lists_of bytes) ≡ content draft = just.only (said_by (lists_of bytes)) (denotes_said (lists_of bytes) denoted.faultless) in
    let would = with_slot_at d (slot_written slot.number slot.parent draft bytes) state in
    let o = within_quota (grants (types_answer (said_by (lists_of bytes))) would) state in
    record {
      denoted = just;
      granted = subst (λ (x : Dictionary). Ends (GrantsWithin state (types_answer x) would) o) dictionary (within (types_answer (said_by (lists_of bytes))) would state);
    }

updating : (d : ℕ) (slot : Slot) (draft : Option Draft) (state : State) → ((e : Draft) → draft ≡ Some e → IsSound e) → slot_at d state.slots ≡ Some slot
    → let o = slot_stepped (under (codes "types")) slot (updated_if slot.parent draft) in
    Ends (Finds draft READ_ONLY state (Updates d state slot)) (updates_within o.said (slot_becomes d o state) state)
updating d slot None state sound at = refused_stays d slot (placeless READ_ONLY) state at
updating d slot (Some draft) state sound at = wrote d slot draft (written (content draft)) state (sound draft refl) at refl

-- the lists of the slot still denote the draft's content at its last update
still : (slot : Slot) (d now : Draft) → IsGoodSlot slot → IsDraftOf slot d → rollback now ≡ rollback d → DenotesJust slot.kept.lists (content (rollback now))
still slot d now g is same = subst (λ (x : Draft). DenotesJust slot.kept.lists (content x)) (sym same) (subst (DenotesJust slot.kept.lists) (drafted slot d g is) (just_said slot.kept.lists g.faultless))

enlarges : (d : ℕ) (slot : Slot) (draft : Draft) (say : ℕ → Answer) (r : Result Added Fault) (state : State) → IsGoodSlot slot → IsDraftOf slot draft → slot_at d state.slots ≡ Some slot → ((a : Added) → r ≡ Ok a → rollback a.draft ≡ rollback draft)
    → Ends (Gives r state (λ a. IsDrafted d slot draft a.draft (say a.answer) state)) (slot_becomes d (slot_stepped say slot (enlarged_as (open_of slot) r)) state)
enlarges d slot draft say (Err f) state g is at leaves = refused_stays d slot f state at
enlarges d slot draft say (Ok a) state g is at leaves = record {
  denoted = still slot draft a.draft g is (leaves a refl);
  granted = (refl, refl);
}

enlarging : (d : ℕ) (slot : Slot) (draft : Option Draft) (say : ℕ → Answer) (adds : Draft → Result Added Fault) (state : State) → IsGoodSlot slot → ((e : Draft) → draft ≡ Some e → IsDraftOf slot e) → slot_at d state.slots ≡ Some slot → ((e : Draft) (a : Added) → adds e ≡ Ok a → rollback a.draft ≡ rollback e)
    → Ends (Finds draft READ_ONLY state (λ e. Gives (adds e) state (λ a. IsDrafted d slot e a.draft (say a.answer) state))) (slot_becomes d (slot_stepped say slot (enlarged_if (open_of slot) adds draft)) state)
enlarging d slot None say adds state g is at leaves = refused_stays d slot (placeless READ_ONLY) state at
enlarging d slot (Some draft) say adds state g is at leaves = enlarges d slot draft say (adds draft) state g (is draft refl) at (leaves draft)

silent_is : (r : Result Draft Fault) (a : Added) → silent r ≡ Ok a → r ≡ Ok a.draft
silent_is (Ok d) a e =
    let same : record { draft = d; answer = 0 } ≡ a = cc in
    ap (λ (b : Added). Ok b.draft) same
silent_is (Err f) a e = absurd cc

adding : (x : Addition) (d : ℕ) (slot : Slot) (state : State) → IsGoodSlot slot → slot_at d state.slots ≡ Some slot → Ends (Finds slot.draft READ_ONLY state (Adds d x state slot)) (slot_becomes d (slot_stepped (addition_answered x) slot (apply_addition x (open_of slot))) state)
adding (add.Type name root kind) d slot state g at = enlarging d slot slot.draft _ _ state g g.draft at (λ e a is. type_leaves e _ a is)
adding (add.Member t name tnum offset) d slot state g at = enlarging d slot slot.draft _ _ state g g.draft at (λ e a is. member_leaves e t.0 name tnum.0 offset a is)
adding (add.Enumerator t name value) d slot state g at = enlarging d slot slot.draft _ _ state g g.draft at (λ e a is. enumerator_leaves e t.0 _ a.draft (silent_is (add_enumerator e t.0 _) a is))
adding (add.Label name last) d slot state g at = enlarging d slot slot.draft _ _ state g g.draft at (λ e a is. label_leaves e _ a.draft (silent_is (add_label e _) a is))

dropping : (d : ℕ) (slot : Slot) (draft : Option Draft) (state : State) → IsGoodSlot slot → ((e : Draft) → draft ≡ Some e → IsDraftOf slot e) → slot_at d state.slots ≡ Some slot
    → Ends (Finds draft READ_ONLY state (Discards d state slot)) (slot_becomes d (slot_stepped (under (codes "types")) slot (discarded_if (open_of slot) draft)) state)
dropping d slot None state g is at = refused_stays d slot (placeless READ_ONLY) state at
dropping d slot (Some draft) state g is at = record {
  denoted = still slot draft (rollback draft) g (is draft refl) refl;
  granted = (ap (λ (x : Dictionary). Ok (types_answer x)) (drafted slot draft g (is draft refl)), refl);
}

-- ---- every request

good_at : (d : ℕ) (state : State) → IsGood state → (slot : Slot) → slot_at d state.slots ≡ Some slot → IsGoodSlot slot
good_at d state g slot at = found_good d slot state.slots g.slots at

changes_right : (state : State) (c : Change) (found : Option Kept) → IsGood state → FitsChange c → ForSome found IsFaultless → Ends (IsRight state (Changes c) found) (change_step state c found)
unfolding change_step slot_step
changes_right state (change.Part list piece) found g fits h = staging list _ state
changes_right state change.Check found g fits h = checked state
changes_right state (change.Open model) found g fits h = opening model state
changes_right state change.Clear found g fits h = (refl, refl)
changes_right state change.Reset found g fits h = (refl, refl)
changes_right state (change.Close d) found g fits h = finds_slot (slot_at d state.slots) state _ _ (λ slot e. (refl, refl))
changes_right state (change.Import d p) found g fits h = importing (slot_at d state.slots) (slot_at p state.slots) d state (good_at d state g) (good_at p state g)
changes_right state (change.Publish d name) found g fits h = publishing (slot_at d state.slots) name state
changes_right state (change.Withdraw name) found g fits h = needs_ends (is_some (published_as name state.published)) NOT_PUBLISHED state _ _ (refl, refl)
changes_right state (change.Take owner name) found g fits h = taking found state h
changes_right state (change.Create asked) found g fits h = creating asked.parent asked state fits
changes_right state (change.Draft d (steps.Add addition)) found g fits h = finds_slot (slot_at d state.slots) state _ _ (λ slot at. adding addition d slot state (good_at d state g slot at) at)
changes_right state (change.Draft d steps.Update) found g fits h = finds_slot (slot_at d state.slots) state _ _ (λ slot at. updating d slot slot.draft state (λ e is. ((good_at d state g slot at).draft e is).sound) at)
changes_right state (change.Draft d steps.Discard) found g fits h = finds_slot (slot_at d state.slots) state _ _ (λ slot at. dropping d slot slot.draft state (good_at d state g slot at) (good_at d state g slot at).draft at)

pub steps_right : (state : State) (request : Request) (found : Option Kept) → IsGood state → FitsRequest request → ForSome found IsFaultless → Ends (IsRight state request found) (step state request found)
steps_right state (Changes c) found g fits h = changes_right state c found g fits h
steps_right state (Asks d question) found g fits h = tells question (slot_at d state.slots) state (good_at d state g)
