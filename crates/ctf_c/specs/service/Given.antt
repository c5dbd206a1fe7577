-- The results of C calls to a service. Source: ours.
use Rattle.std.specs.Prelude.{◌≡◌, ◌⊎◌, ◌++◌, ℕ, List, [], take, drop, length, Option, None, Some}
use Rattle.ctf_broker.specs.Table.{library_at}
use Rattle.ctf_protocol.specs.sessions.State.{empty_state}
use Rattle.ctf_wire.specs.Serving.{BrokerStep}
use Rattle.ctf_c.specs.service.Served.{Served}

-- some bytes written over the front of others, as far as they fit
abbrev pub written_over : List ℕ → List ℕ → List ℕ
written_over from to = take (length to) from ++ drop (length from) to

-- a text and its length
pub record TextOut : Type 0 where
  pub text : List ℕ
  pub len : ℕ

-- a text truncated to the caller's room, and its full length, as snprintf returns it
abbrev pub fit_text : List ℕ → TextOut → TextOut
fit_text text old = record { text = written_over text old.text; len = length text }

-- nothing is open: the status says so, and the output is unchanged
abbrev pub IsNotOpen : ℕ → TextOut → TextOut → Type 0
IsNotOpen status old new = (status ≡ 50) × (new ≡ old)

-- a service with no sessions was opened; or memory ran out, and what was open stays
abbrev pub Begins : ℕ → Option Served → Option Served → Type 0
Begins status old None = (status ≡ 1) × (old ≡ None)
Begins status old (Some new) =
    ((status ≡ 0) × (new.reply ≡ [])
    × ((session : ℕ) → library_at new.libraries session ≡ empty_state))
    ⊎ ((status ≡ 1) × (old ≡ Some new))

-- a line is answered; its reply is stored, and given as far as it fits
abbrev pub Serves : Option Served → List ℕ → ℕ → TextOut → TextOut → Option Served → Type 0
Serves None line status old new None = IsNotOpen status old new
Serves None line status old new (Some s) = ⊥
Serves (Some s) line status old new None = ⊥
Serves (Some s) line status old new (Some after) =
    BrokerStep s.libraries (Some line) after.reply after.libraries
    × (status ≡ 0) × (new ≡ fit_text after.reply old)

-- the last reply is given again
abbrev pub Repeats : Option Served → ℕ → TextOut → TextOut → Type 0
Repeats None status old new = IsNotOpen status old new
Repeats (Some s) status old new = (status ≡ 0) × (new ≡ fit_text s.reply old)
