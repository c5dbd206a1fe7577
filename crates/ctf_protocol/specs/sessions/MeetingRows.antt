-- Worked rows of sessions that exchange publications. The values were worked out by hand.
use Rattle.std.specs.Prelude.{◌≡◌, ℕ, ◌==◌, List, [], ◌∷◌, None, Ok, Err, codes, if◌then◌else◌}
use Rattle.ctf_model.specs.spaces.Kept.{as_kept}
use Rattle.ctf_protocol.specs.lines.Ask.{ask}
use Rattle.ctf_protocol.specs.lines.Output.{own_reply}
use Rattle.ctf_protocol.specs.lines.ReplyLines.{reply_line}
use Rattle.ctf_model.specs.format.Rows.{ctf_alone, fault, int_bytes}
use Rattle.ctf_protocol.specs.sessions.Runs.{Call, own_inputs, own_state}
use Rattle.ctf_protocol.specs.sessions.SessionLaws.{calls_among}
use Rattle.ctf_protocol.specs.sessions.State.{State, Slot, empty_state}
use Rattle.ctf_protocol.specs.declared.requests.Change.{Change}
use Rattle.ctf_protocol.specs.declared.requests.Change.TheVariants.{Clear, Publish, Reset, Take, Withdraw}
use Rattle.ctf_protocol.specs.declared.requests.Request.TheVariants.{Changes}

-- ---- inputs

-- the integer int in a slot
abbrev pub int_in : ℕ → Slot
int_in number =
    record
    { number = number; kept = as_kept (ctf_alone int_bytes); parent = None; draft = None }

-- a session with int in slot 1
abbrev pub holder : State
holder = record empty_state { slots = int_in 1 ∷ []; next = 2 }

-- session 1 holds int, all other sessions are empty
abbrev pub world : ℕ → State
world s = if s == 1 then holder else empty_state

abbrev pub call : ℕ → Change → Call
call s change = record { session = s; request = Changes change }

abbrev pub base : List ℕ
base = codes "base"

-- ---- answers

-- newest call first: session 1 publishes, then session 2 takes
abbrev pub publish_all : List Call
publish_all = call 1 (Publish 1 base) ∷ []

abbrev pub take_calls : List Call
take_calls = call 2 (Take 1 base) ∷ publish_all

-- session 1 resets
abbrev pub then_reset : List Call
then_reset = call 1 Reset ∷ take_calls

-- session 1 withdraws its publication
abbrev pub withdrawn : List Call
withdrawn = call 1 (Withdraw base) ∷ take_calls

-- the reply to a session after these calls
abbrev pub reply_in : List Call → ℕ → Change → List ℕ
reply_in calls s change = reply_line (own_reply world calls s (Changes change))

pub record SessionsMeet : Type 0 where
  pub done : reply_in [] 1 (Publish 1 base) ≡ codes "{\"ok\":{},\"s\":1}\n"
  pub no_slot : reply_in [] 1 (Publish 2 base)
      ≡ codes "{\"fault\":{\"code\":49,\"name\":\"NoSlot\",\"place\":0},\"s\":1}\n"
  pub found : reply_in publish_all 2 (Take 1 base)
      ≡ codes "{\"ok\":{\"d\":1,\"types\":1},\"s\":2}\n"
  pub same_dictionary : own_state world take_calls 2
      ≡ record empty_state { slots = int_in 1 ∷ []; next = 2 }
  pub other_name : reply_in publish_all 2 (Take 1 (codes "none"))
      ≡ codes "{\"fault\":{\"code\":54,\"name\":\"NotPublished\",\"place\":0},\"s\":2}\n"
  pub other_owner : reply_in publish_all 2 (Take 3 base)
      ≡ codes "{\"fault\":{\"code\":54,\"name\":\"NotPublished\",\"place\":0},\"s\":2}\n"
  pub too_early : reply_in [] 2 (Take 1 base)
      ≡ codes "{\"fault\":{\"code\":54,\"name\":\"NotPublished\",\"place\":0},\"s\":2}\n"
  pub twice : reply_in publish_all 1 (Publish 1 base)
      ≡ codes "{\"fault\":{\"code\":53,\"name\":\"NameTaken\",\"place\":0},\"s\":1}\n"
  pub reset_stays : reply_in then_reset 4 (Take 1 base)
      ≡ codes "{\"ok\":{\"d\":1,\"types\":1},\"s\":4}\n"
  pub taker_keeps : own_state world then_reset 2 ≡ own_state world take_calls 2
  pub withdraws : reply_in take_calls 1 (Withdraw base) ≡ codes "{\"ok\":{},\"s\":1}\n"
  pub published_no_more : reply_in withdrawn 3 (Take 1 base)
      ≡ codes "{\"fault\":{\"code\":54,\"name\":\"NotPublished\",\"place\":0},\"s\":3}\n"
  pub once : reply_in withdrawn 1 (Withdraw base)
      ≡ codes "{\"fault\":{\"code\":54,\"name\":\"NotPublished\",\"place\":0},\"s\":1}\n"
  pub owners_alone : reply_in take_calls 2 (Withdraw base)
      ≡ codes "{\"fault\":{\"code\":54,\"name\":\"NotPublished\",\"place\":0},\"s\":2}\n"
  pub again : reply_in withdrawn 1 (Publish 1 base) ≡ codes "{\"ok\":{},\"s\":1}\n"
  pub earlier_takers_keep : own_state world withdrawn 2 ≡ own_state world take_calls 2
  pub left_out :
      own_inputs world (calls_among (1 ∷ 2 ∷ []) (call 2 (Take 1 base) ∷ call 3 Clear ∷ publish_all)) 2
      ≡ own_inputs world take_calls 2

-- ---- the requests of lines

pub record MeetingsAreAsked : Type 0 where
  pub publish : ask (codes "{\"s\":1,\"op\":\"publish\",\"d\":2,\"name\":\"Az09._-\"}")
      ≡ Ok (1, Changes (Publish 2 (codes "Az09._-")))
  pub take : ask (codes "{\"s\":2,\"op\":\"take\",\"owner\":1,\"name\":\"base\"}")
      ≡ Ok (2, Changes (Take 1 base))
  pub withdraw : ask (codes "{\"s\":1,\"op\":\"withdraw\",\"name\":\"base\"}")
      ≡ Ok (1, Changes (Withdraw base))
  pub nameless : ask (codes "{\"s\":1,\"op\":\"withdraw\"}") ≡ Err (1, fault 58 0)
  pub operators : ask (codes "{\"s\":2,\"op\":\"take\",\"owner\":0,\"name\":\"base\"}")
      ≡ Ok (2, Changes (Take 0 base))
  pub empty_name : ask (codes "{\"s\":1,\"op\":\"publish\",\"d\":2,\"name\":\"\"}")
      ≡ Err (1, fault 58 0)
  pub other_byte : ask (codes "{\"s\":1,\"op\":\"publish\",\"d\":2,\"name\":\"a/b\"}")
      ≡ Err (1, fault 58 0)
  pub no_owner : ask (codes "{\"s\":1,\"op\":\"take\",\"name\":\"base\"}") ≡ Err (1, fault 58 0)
