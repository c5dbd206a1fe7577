-- Drafts in slots stay sound, keep their parents, and match their written lists.
use Rattle.std.proofs.Common.{◌≡◌, ℕ, List, [], ◌∷◌, ◌++◌, Bool, true, false, Option, Some, None, Result, Ok, Err, eqb, refl, ap, sym, subst, ◌∙◌, length, is_some}
use Rattle.std.specs.Prelude.{◌||◌, not}
use Rattle.std.specs.Option.{ForSome, option_map}
use Rattle.std.proofs.lemmas.List.{append-nil}
use Rattle.ctf_model.proofs.Denoted.{denotes_said}
use Rattle.ctf_model.proofs.SoundDrafts.{life_sound, new_sound}
use Rattle.ctf_model.proofs.WrittenDrafts.{draft_denoted, draft_imported}
use Rattle.ctf_model.specs.drafts.Adders.{Added, add_enumerator, add_label, add_member, add_type, against_enumerator, against_label, against_member, against_place, against_type, body_at, place_member, put_member, replaced_at, size_with, with_enumerator, with_label, with_member, with_type}
use Rattle.ctf_model.specs.drafts.DraftLaws.{IsSound}
use Rattle.ctf_model.specs.drafts.Drafts.{Contents, Draft, above, all_of, rollback, empty_draft, followed_by, has_zero, content, is_childs, is_of_other, new_draft, no_contents, pending_place, commit, space_of}
use Rattle.ctf_model.specs.drafts.NewTypes.{NewType, new_term}
use Rattle.ctf_model.specs.drafts.Placement.{bits_filled, member_place}
use Rattle.ctf_model.specs.format.Dictionary.{Label, said_by}
use Rattle.ctf_model.specs.format.Term.{Body, Enumerator, Member, Term}
use Rattle.ctf_model.specs.opened.Open.{Open}
use Rattle.ctf_model.specs.opened.Steps.{created, settled_as, updated_over, with_draft}
use Rattle.ctf_model.specs.rules.Judgements.{first_met, unless, ◌then◌}
use Rattle.ctf_model.specs.spaces.Imports.{Modelled, import_fault, same_model}
use Rattle.ctf_model.specs.spaces.Kept.{Kept, kept_dictionary, modelled_by}
use Rattle.ctf_model.specs.spaces.Space.{space_type}
use Rattle.ctf_model.specs.writing.Written.{lists_of, written}
use Rattle.ctf_model.specs.declared.data_model.DataModel.{DataModel}
use Rattle.ctf_model.specs.declared.data_model.DataModel.TheVariants.{Lp64, Ilp32}
use Rattle.ctf_model.specs.declared.faults.Fault.{Fault}
use Rattle.ctf_model.specs.declared.faults.TheConstants.Fault.{MODEL_DIFFERS, NAME_HAS_ZERO, PARENT_IS_CHILD}
use Rattle.ctf_protocol.specs.sessions.Opened.{open_of, slot_made, slot_with}
use Rattle.ctf_protocol.specs.sessions.State.{Slot}
use Rattle.ctf_laws.specs.Good.{IsDraftOf, IsFaultless, IsGoodSlot, Serves}

-- ---- additions change only the pending part

-- the result differs from the draft at most in the pending part
abbrev pub Leaves : Draft → Result Added Fault → Type 0
Leaves d r = (a : Added) → r ≡ Ok a → rollback a.draft ≡ rollback d

abbrev pub Leave : Draft → Result Draft Fault → Type 0
Leave d r = (e : Draft) → r ≡ Ok e → rollback e ≡ rollback d

unless_leaves : (o : Option Fault) (r : Result Added Fault) (d : Draft) → Leaves d r → Leaves d (unless o r)
unless_leaves None r d h = h
unless_leaves (Some f) r d h = λ a e. absurd cc

unless_leave : (o : Option Fault) (r : Result Draft Fault) (d : Draft) → Leave d r → Leave d (unless o r)
unless_leave None r d h = h
unless_leave (Some f) r d h = λ a e. absurd cc

then_leaves : (r : Result ℕ Fault) (next : ℕ → Result Added Fault) (d : Draft) → ((n : ℕ) → Leaves d (next n)) → Leaves d (r then next)
then_leaves (Err f) next d h = λ a e. absurd cc
then_leaves (Ok n) next d h = h n

done_leaves : (d e : Draft) (n : ℕ) → rollback e ≡ rollback d → Leaves d (Ok (record { draft = e; answer = n }))
done_leaves d e n h a i =
    let same : record { draft = e; answer = n } ≡ a = cc in
    subst (λ (b : Added). rollback b.draft ≡ rollback d) same h

done_leave : (d e : Draft) → rollback e ≡ rollback d → Leave d (Ok e)
done_leave d e h a i =
    let same : e ≡ a = cc in
    subst (λ (b : Draft). rollback b ≡ rollback d) same h

replaced_leaves : (d : Draft) (i : Option ℕ) (x : Result Term Fault) (body : Body) → rollback (replaced_at d i x body) ≡ rollback d
replaced_leaves d None x body = refl
replaced_leaves d (Some i) (Err f) body = refl
replaced_leaves d (Some i) (Ok x) body = refl

pub type_leaves : (d : Draft) (x : NewType) → Leaves d (add_type d x)
unfolding add_type
type_leaves d x = unless_leaves (first_met (against_type d (new_term x))) _ d (done_leaves d (with_type d (new_term x)) _ refl)

put_leaves : (d : Draft) (n : ℕ) (m : Member) (bits : ℕ) → Leaves d (put_member d n m bits)
put_leaves d n m bits = unless_leaves (first_met (against_place m.offset (size_with d n m.offset bits))) _ d (done_leaves d _ m.offset (replaced_leaves d (pending_place d n) (space_type (space_of d) n) (with_member m (size_with d n m.offset bits) (body_at d n))))

pub member_leaves : (d : Draft) (n : ℕ) (name : List ℕ) (tnum : ℕ) (offset : Option ℕ) → Leaves d (add_member d n name tnum offset)
unfolding add_member
member_leaves d n name tnum offset = unless_leaves (first_met (against_member d n name tnum)) (place_member d n name tnum offset) d (then_leaves (bits_filled (space_of d) tnum) _ d (λ bits. then_leaves (member_place (space_of d) (body_at d n) tnum offset) _ d (λ place. put_leaves d n (record { name = name; tnum = tnum; offset = place }) bits)))

pub enumerator_leaves : (d : Draft) (n : ℕ) (e : Enumerator) → Leave d (add_enumerator d n e)
unfolding add_enumerator
enumerator_leaves d n e = unless_leave (first_met (against_enumerator d n e.name)) _ d (done_leave d _ (replaced_leaves d (pending_place d n) (space_type (space_of d) n) (with_enumerator e (body_at d n))))

pub label_leaves : (d : Draft) (label : Label) → Leave d (add_label d label)
unfolding add_label
label_leaves d label = unless_leave (first_met (against_label d label.name)) _ d (done_leave d (with_label d label) refl)

-- ---- a slot with a changed draft

-- whose dictionary is unchanged
pub redrafted : (slot : Slot) (d e : Draft) → IsGoodSlot slot → slot.draft ≡ Some d → IsSound e → rollback e ≡ rollback d → IsGoodSlot (slot_with slot.number (with_draft (open_of slot) e))
redrafted slot d e g is sound same =
    let old = g.draft d is in
    record {
      faultless = g.faultless;
      parent = g.parent;
      draft = λ x i. let now : e ≡ x = cc in subst (IsDraftOf (slot_with slot.number (with_draft (open_of slot) e))) now (record {
        sound = sound;
        above = ap (λ (y : Draft). y.parent) same ∙ old.above;
        alike = λ p j. old.alike p j ∙ sym (ap (λ (y : Draft). y.model) same);
        model = old.model ∙ sym (ap (λ (y : Draft). y.model) same);
        bytes = old.bytes;
        wrote = ap (λ (y : Draft). written (content y)) same ∙ old.wrote;
        lists = old.lists;
      });
    }

-- ---- updates

-- nothing pending after an update
none_behind : (all : Contents) → followed_by all no_contents ≡ all
none_behind all = ap (λ (terms : List Term). record { terms = terms; labels = all.labels ++ no_contents.labels }) (append-nil all.terms) ∙ ap (λ (labels : List Label). record { terms = all.terms; labels = labels }) (append-nil all.labels)

held_stays : (d : Draft) → content (commit d) ≡ content d
held_stays d = ap (λ (all : Contents). record {
  child = is_some d.parent;
  parname = d.parname;
  parlabel = d.parlabel;
  labels = all.labels;
  terms = all.terms;
  symbols = [];
  entries = [];
}) (none_behind (all_of d))

-- the slot whose dictionary is the written draft
abbrev pub settled_slot : ℕ → Option Kept → Draft → List ℕ → Slot
settled_slot number parent d bytes = record {
  number = number;
  kept = record { lists = lists_of bytes; model = d.model };
  parent = parent;
  draft = Some (commit d);
}

serves : (d : Draft) (p : Kept) (bytes : List ℕ) → IsSound d → d.parent ≡ Some (kept_dictionary p) → p.model ≡ d.model → written (content d) ≡ Ok bytes → IsFaultless p → Serves (record { lists = lists_of bytes; model = d.model }) p
serves d p bytes sound has alike wrote faultless =
    let denotes = draft_denoted d bytes sound wrote in
    let of_one = draft_imported d (kept_dictionary p) bytes (said_by (lists_of bytes)) sound has wrote (denotes_said (lists_of bytes) denotes.faultless) in
    record {
      faultless = faultless;
      under = subst (λ (m : DataModel). import_fault (record { child = record { dictionary = said_by (lists_of bytes); model = d.model }; parent = record { dictionary = kept_dictionary p; model = m } }) ≡ None) (sym alike) of_one;
    }

pub settled_good : (number : ℕ) (parent : Option Kept) (d : Draft) (bytes : List ℕ) → IsSound d → d.parent ≡ option_map kept_dictionary parent → ForSome parent (λ p. p.model ≡ d.model) → ForSome parent IsFaultless → written (content d) ≡ Ok bytes → IsGoodSlot (settled_slot number parent d bytes)
settled_good number parent d bytes sound over alike faultless wrote =
    let denotes = draft_denoted d bytes sound wrote in
    record {
      faultless = denotes.faultless;
      parent = λ p i. serves d p bytes sound (over ∙ ap (option_map kept_dictionary) i) (alike p i) wrote (faultless p i);
      draft = λ x i. let now : commit d ≡ x = cc in subst (IsDraftOf (settled_slot number parent d bytes)) now (record {
        sound = (life_sound d sound).1;
        above = over;
        alike = alike;
        model = refl;
        bytes = bytes;
        wrote = ap written (held_stays d) ∙ wrote;
        lists = refl;
      });
    }

-- ---- new drafts

third : (a b c : Bool) (i j k : ℕ) (e d : Draft) → unless (first_met (record { code = i; met = a } ∷ record { code = j; met = b } ∷ record { code = k; met = c } ∷ [])) (Ok e) ≡ Ok d → (c ≡ false) × (e ≡ d)
third true b c i j k e d h = absurd cc
third false true c i j k e d h = absurd cc
third false false true i j k e d h = absurd cc
third false false false i j k e d h = (refl, cc)

new_is : (parent : Option Modelled) (parname parlabel : List ℕ) (model : DataModel) (d : Draft) → new_draft parent parname parlabel model ≡ Ok d → (is_of_other model parent ≡ false) × (empty_draft (above parent) parname parlabel model ≡ d)
unfolding new_draft
new_is parent parname parlabel model d h = third (has_zero parname || has_zero parlabel) (is_childs (above parent)) (is_of_other model parent) NAME_HAS_ZERO PARENT_IS_CHILD MODEL_DIFFERS (empty_draft (above parent) parname parlabel model) d h

one_model : (m n : DataModel) → not (same_model m n) ≡ false → n ≡ m
one_model Lp64 Lp64 e = refl
one_model Ilp32 Ilp32 e = refl
one_model Lp64 Ilp32 e = absurd cc
one_model Ilp32 Lp64 e = absurd cc

parent_alike : (parent : Option Kept) (model : DataModel) → is_of_other model (option_map modelled_by parent) ≡ false → ForSome parent (λ p. p.model ≡ model)
parent_alike None model h = λ p e. absurd cc
parent_alike (Some q) model h = λ p e. let same : q ≡ p = cc in subst (λ (k : Kept). k.model ≡ model) same (one_model model q.model h)

above_is : (parent : Option Kept) → above (option_map modelled_by parent) ≡ option_map kept_dictionary parent
above_is None = refl
above_is (Some p) = refl

there_as : (parent : Option Kept) → is_some (option_map modelled_by parent) ≡ is_some parent
there_as None = refl
there_as (Some p) = refl

-- a slot made from a good result is good
abbrev pub MakesGood : ℕ → Result Open Fault → Type 0
MakesGood number r = (slot : Slot) → slot_made number r ≡ Ok slot → IsGoodSlot slot

settles_good : (number : ℕ) (parent : Option Kept) (d : Draft) (r : Result (List ℕ) Fault) → (written (content d) ≡ r) → IsSound d → d.parent ≡ option_map kept_dictionary parent → ForSome parent (λ p. p.model ≡ d.model) → ForSome parent IsFaultless → MakesGood number (settled_as parent d r)
settles_good number parent d (Err f) wrote sound over alike faultless = λ slot e. absurd cc
settles_good number parent d (Ok bytes) wrote sound over alike faultless = λ slot e.
    let same : settled_slot number parent d bytes ≡ slot = cc in
    subst IsGoodSlot same (settled_good number parent d bytes sound over alike faultless wrote)

drafts_good : (number : ℕ) (parent : Option Kept) (parname parlabel : List ℕ) (model : DataModel) (r : Result Draft Fault) → new_draft (option_map modelled_by parent) parname parlabel model ≡ r → is_some parent ≡ not (eqb (length parname) 0) → ForSome parent IsFaultless → MakesGood number (updated_over parent r)
drafts_good number parent parname parlabel model (Err f) is there faultless = λ slot e. absurd cc
drafts_good number parent parname parlabel model (Ok d) is there faultless =
    let made = new_is (option_map modelled_by parent) parname parlabel model d is in
    let sound = new_sound (option_map modelled_by parent) parname parlabel model d (there_as parent ∙ there) is in
    let over : d.parent ≡ option_map kept_dictionary parent = ap (λ (e : Draft). e.parent) (sym made.1) ∙ above_is parent in
    let model_is : d.model ≡ model = ap (λ (e : Draft). e.model) (sym made.1) in
    settles_good number parent d (written (content d)) refl sound over (λ p e. parent_alike parent model made.0 p e ∙ sym model_is) faultless

pub created_good : (number : ℕ) (parent : Option Kept) (parname parlabel : List ℕ) (model : DataModel) → is_some parent ≡ not (eqb (length parname) 0) → ForSome parent IsFaultless → MakesGood number (created parent parname parlabel model)
unfolding created
created_good number parent parname parlabel model there faultless = drafts_good number parent parname parlabel model _ refl there faultless
