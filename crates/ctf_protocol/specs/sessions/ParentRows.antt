-- Worked rows of parents and slots. The values were worked out by hand from the format.
use Rattle.std.specs.Prelude.{◌≡◌, ℕ, List, [], ◌∷◌, ◌++◌, None, Some, codes}
use Rattle.ctf_model.specs.format.KindRows.{half, head, structs}
use Rattle.ctf_model.specs.spaces.Kept.{as_kept}
use Rattle.ctf_protocol.specs.answers.QuestionRows.{on}
use Rattle.ctf_protocol.specs.lines.ReplyLines.{reply_line}
use Rattle.ctf_model.specs.format.Rows.{ctf_alone, header, word}
use Rattle.ctf_protocol.specs.sessions.State.{State, Slot, empty_state, empty_stage}
use Rattle.ctf_protocol.specs.sessions.Steps.{step}
use Rattle.ctf_protocol.specs.declared.questions.PlainQuestion.TheVariants as simple
use Rattle.ctf_protocol.specs.declared.questions.TypeQuestion.TheVariants as about
use Rattle.ctf_protocol.specs.declared.requests.Change.TheVariants.{Clear, Close, Import}
use Rattle.ctf_protocol.specs.declared.requests.Request.{Request}
use Rattle.ctf_protocol.specs.declared.requests.Request.TheVariants.{Changes}

-- ---- inputs

-- a child of `p` with one pointer, to type 3 of its parent
abbrev pub pointing : List ℕ
pointing = header 1 0 0 0 8 3 ++ head 0 3 0 3 ++ 0 ∷ codes "p" ++ 0 ∷ []

-- a struct with a pointer to itself, and that pointer
abbrev pub linked_struct : List ℕ
linked_struct = header 0 0 0 0 24 0 ++ (head 0 6 1 8 ++ word 0 ++ half 2 ++ half 0) ++ head 0 3 0 1

abbrev pub slot : ℕ → List ℕ → Slot
slot number ctf =
    record { number = number; kept = as_kept (ctf_alone ctf); parent = None; draft = None }

-- a session with a child in slot 1, three types in slot 2, two types in slot 3, a child in slot 4,
-- and some staged bytes
abbrev pub four_slots : State
four_slots =
    record empty_state {
      slots = slot 1 pointing ∷ slot 2 structs ∷ slot 3 linked_struct ∷ slot 4 pointing ∷ [];
      next = 5;
      stage = record { ctf = 0xf1 ∷ []; sym = None; strs = Some [] };
    }

abbrev pub after : State → Request → State
after state request = (step state request None).state

abbrev pub reply_to : State → Request → List ℕ
reply_to state request = reply_line (step state request None).reply

abbrev pub imports_into : ℕ → ℕ → Request
imports_into d parent = Changes (Import d parent)

-- the same after slot 2 was imported into slot 1
abbrev pub over_structs : State
over_structs = after four_slots (imports_into 1 2)

-- ---- answers

abbrev pub done_line : List ℕ
done_line = codes "{\"ok\":{},\"s\":0}\n"

abbrev pub no_slot : List ℕ
no_slot = codes "{\"fault\":{\"code\":49,\"name\":\"NoSlot\",\"place\":0},\"s\":0}\n"

abbrev pub kind_is_struct : List ℕ
kind_is_struct = codes "{\"ok\":{\"kind\":\"struct\"},\"s\":0}\n"

pub record ParentsAreImported : Type 0 where
  pub alone_first : reply_to four_slots (on 3 (about.Plain simple.Kind))
      ≡ codes "{\"fault\":{\"code\":23,\"name\":\"NoParent\",\"place\":0},\"s\":0}\n"
  pub own : reply_to four_slots (on 32769 (about.Plain simple.Reference))
      ≡ codes "{\"ok\":{\"t\":3},\"s\":0}\n"
  pub imported : reply_to four_slots (imports_into 1 2) ≡ done_line
  pub then_found : reply_to over_structs (on 3 (about.Plain simple.Kind)) ≡ kind_is_struct
  pub past_parent : reply_to over_structs (on 4 (about.Plain simple.Kind))
      ≡ codes "{\"fault\":{\"code\":24,\"name\":\"NoType\",\"place\":0},\"s\":0}\n"
  pub no_child : reply_to four_slots (imports_into 2 1)
      ≡ codes "{\"fault\":{\"code\":20,\"name\":\"NotChild\",\"place\":0},\"s\":0}\n"
  pub child_for_parent : reply_to four_slots (imports_into 1 4)
      ≡ codes "{\"fault\":{\"code\":21,\"name\":\"ParentIsChild\",\"place\":0},\"s\":0}\n"
  pub short : reply_to four_slots (imports_into 1 3)
      ≡ codes "{\"fault\":{\"code\":22,\"name\":\"ParentShort\",\"place\":3},\"s\":0}\n"
  pub no_child_slot : reply_to four_slots (imports_into 5 2) ≡ no_slot
  pub no_parent_slot : reply_to four_slots (imports_into 1 5) ≡ no_slot
  pub refused_stays : after four_slots (imports_into 1 3) ≡ four_slots

pub record SlotsAreClosed : Type 0 where
  pub closed : reply_to over_structs (Changes (Close 2)) ≡ done_line
  pub gone : reply_to (after over_structs (Changes (Close 2))) (Changes (Close 2)) ≡ no_slot
  pub child_keeps_it :
      reply_to (after over_structs (Changes (Close 2))) (on 3 (about.Plain simple.Kind))
      ≡ kind_is_struct
  pub number_stays : (after four_slots (Changes (Close 4))).next ≡ 5
  pub cleared : reply_to four_slots (Changes Clear) ≡ done_line
  pub stage_is_empty : after four_slots (Changes Clear) ≡ record four_slots { stage = empty_stage }
