-- Worked rows of drafts in slots. The values were worked out by hand.
use Rattle.std.specs.Prelude.{◌≡◌, ℕ, true, List, [], ◌∷◌, Option, None, Some, codes}
use Rattle.ctf_model.specs.format.Rows.{ctf_alone, int_bytes}
use Rattle.ctf_protocol.specs.lines.ReplyLines.{reply_line}
use Rattle.ctf_protocol.specs.sessions.State.{State, empty_state}
use Rattle.ctf_protocol.specs.sessions.Steps.{step}
use Rattle.ctf_model.specs.declared.data_model.DataModel.{DataModel}
use Rattle.ctf_model.specs.declared.data_model.DataModel.TheVariants.{Ilp32, Lp64}
use Rattle.ctf_protocol.specs.declared.additions.Addition.TheVariants as add
use Rattle.ctf_protocol.specs.declared.additions.NewKind.TheVariants as kind
use Rattle.ctf_protocol.specs.declared.questions.HeldQuestion.{HeldQuestion}
use Rattle.ctf_protocol.specs.declared.questions.HeldQuestion.TheVariants as held
use Rattle.ctf_protocol.specs.declared.questions.Question.TheVariants.{OfHeld}
use Rattle.ctf_protocol.specs.declared.requests.Change.TheVariants as change
use Rattle.ctf_protocol.specs.declared.requests.DraftStep.{DraftStep}
use Rattle.ctf_protocol.specs.declared.requests.DraftStep.TheVariants.{Add, Update, Discard}
use Rattle.ctf_protocol.specs.declared.requests.Request.{Request}
use Rattle.ctf_protocol.specs.declared.requests.Request.TheVariants.{Asks, Changes}

-- ---- inputs

abbrev pub after : State → Request → State
after state request = (step state request None).state

abbrev pub reply_to : State → Request → List ℕ
reply_to state request = reply_line (step state request None).reply

-- a session with the integer int in slot 1, from a program with 4-byte pointers
abbrev pub with_int : State
with_int =
    record empty_state {
      slots = record {
        number = 1;
        kept = record { lists = ctf_alone int_bytes; model = Ilp32 };
        parent = None;
        draft = None;
      }
          ∷ [];
      next = 2;
    }

-- a new draft without a parent, with this data model if one is stated
abbrev pub alone_of : Option DataModel → Request
alone_of model =
    Changes (change.Create (record { parent = None; parname = []; parlabel = []; model = model }))

-- the same over slot 1
abbrev pub over_int : Option DataModel → Request
over_int model =
    Changes
    (change.Create
    (record { parent = Some 1; parname = codes "base"; parlabel = []; model = model }))

abbrev pub does : ℕ → DraftStep → Request
does d does_so = Changes (change.Draft d does_so)

abbrev pub adds_struct : DraftStep
adds_struct = Add (add.Type (codes "s") true (kind.Struct 0))

abbrev pub tells : ℕ → HeldQuestion → Request
tells d question = Asks d (OfHeld question)

-- a draft without a parent in slot 1, with a pending struct
abbrev pub draft_state : State
draft_state = after empty_state (alone_of None)

abbrev pub enlarged_state : State
enlarged_state = after draft_state (does 1 adds_struct)

abbrev pub updated_state : State
updated_state = after enlarged_state (does 1 Update)

abbrev pub name : List ℕ
name = codes "base"

-- ---- data models

pub record ModelsAreThoseStated : Type 0 where
  pub made : reply_to with_int (over_int None) ≡ codes "{\"ok\":{\"d\":2},\"s\":0}\n"
  pub parents : reply_to (after with_int (over_int None)) (tells 2 held.Model)
      ≡ codes "{\"ok\":{\"model\":\"ilp32\"},\"s\":0}\n"
  pub same : reply_to with_int (over_int (Some Ilp32)) ≡ codes "{\"ok\":{\"d\":2},\"s\":0}\n"
  pub other : reply_to with_int (over_int (Some Lp64))
      ≡ codes "{\"fault\":{\"code\":60,\"name\":\"ModelDiffers\",\"place\":0},\"s\":0}\n"
  pub unstated : reply_to draft_state (tells 1 held.Model)
      ≡ codes "{\"ok\":{\"model\":\"lp64\"},\"s\":0}\n"
  pub stated : reply_to (after empty_state (alone_of (Some Ilp32))) (tells 1 held.Model)
      ≡ codes "{\"ok\":{\"model\":\"ilp32\"},\"s\":0}\n"

-- ---- steps

pub record DraftsAreStepped : Type 0 where
  pub fresh : reply_to draft_state (tells 1 held.Info)
      ≡ codes "{\"ok\":{\"child\":false,\"draft\":true,\"imported\":false,\"labels\":0,\"parlabel\":\"\",\"parname\":\"\",\"pending\":0,\"types\":0},\"s\":0}\n"
  pub over : reply_to (after with_int (over_int None)) (tells 2 held.Info)
      ≡ codes "{\"ok\":{\"child\":true,\"draft\":true,\"imported\":true,\"labels\":0,\"parlabel\":\"\",\"parname\":\"base\",\"pending\":0,\"types\":0},\"s\":0}\n"
  pub first_type : reply_to draft_state (does 1 adds_struct) ≡ codes "{\"ok\":{\"t\":1},\"s\":0}\n"
  pub pending : reply_to enlarged_state (tells 1 held.Info)
      ≡ codes "{\"ok\":{\"child\":false,\"draft\":true,\"imported\":false,\"labels\":0,\"parlabel\":\"\",\"parname\":\"\",\"pending\":1,\"types\":0},\"s\":0}\n"
  pub update : reply_to enlarged_state (does 1 Update) ≡ codes "{\"ok\":{\"types\":1},\"s\":0}\n"
  pub none_pending : reply_to updated_state (tells 1 held.Info)
      ≡ codes "{\"ok\":{\"child\":false,\"draft\":true,\"imported\":false,\"labels\":0,\"parlabel\":\"\",\"parname\":\"\",\"pending\":0,\"types\":1},\"s\":0}\n"
  pub discard : reply_to enlarged_state (does 1 Discard) ≡ codes "{\"ok\":{\"types\":0},\"s\":0}\n"
  pub discarded : after enlarged_state (does 1 Discard) ≡ draft_state
  pub updated_stays : after updated_state (does 1 Discard) ≡ updated_state
  pub no_draft : reply_to with_int (does 1 adds_struct)
      ≡ codes "{\"fault\":{\"code\":52,\"name\":\"ReadOnly\",\"place\":0},\"s\":0}\n"
  pub no_update : reply_to with_int (does 1 Update)
      ≡ codes "{\"fault\":{\"code\":52,\"name\":\"ReadOnly\",\"place\":0},\"s\":0}\n"
  pub no_slot : reply_to with_int (does 2 Discard)
      ≡ codes "{\"fault\":{\"code\":49,\"name\":\"NoSlot\",\"place\":0},\"s\":0}\n"

-- ---- among other slots

pub record DraftsAreAmongSlots : Type 0 where
  pub no_import : reply_to (after with_int (over_int None)) (Changes (change.Import 2 1))
      ≡ codes "{\"fault\":{\"code\":62,\"name\":\"FixedParent\",\"place\":0},\"s\":0}\n"
  pub not_updated : reply_to enlarged_state (Changes (change.Publish 1 name))
      ≡ codes "{\"fault\":{\"code\":55,\"name\":\"NotUpdated\",\"place\":0},\"s\":0}\n"
  pub published : reply_to updated_state (Changes (change.Publish 1 name))
      ≡ codes "{\"ok\":{},\"s\":0}\n"
  pub no_parent_slot : reply_to empty_state (over_int None)
      ≡ codes "{\"fault\":{\"code\":49,\"name\":\"NoSlot\",\"place\":0},\"s\":0}\n"
  pub parent_is_child : reply_to (after with_int (over_int None))
      (Changes
      (change.Create (record { parent = Some 2; parname = name; parlabel = []; model = None })))
      ≡ codes "{\"fault\":{\"code\":21,\"name\":\"ParentIsChild\",\"place\":0},\"s\":0}\n"
