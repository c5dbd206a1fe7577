-- The pages of the table of sessions. Source: ours.
use Rattle.std.specs.Prelude.{◌≡◌, ◌≢◌, ℕ, List, Option, None, unwrap_or}
use Rattle.ctf_protocol.specs.sessions.State.{State, empty_state}
use Rattle.ctf_broker.specs.Table.{entry_at}

-- the library at a place of a page; empty if none is stored
abbrev pub library_in : List (Option State) → ℕ → State
library_in page place = unwrap_or (entry_at page place) empty_state

-- no library is stored in a page
abbrev pub IsVacant : List (Option State) → Type 0
IsVacant page = (place : ℕ) → entry_at page place ≡ None

-- two pages have the same entries at all places but one
abbrev pub DiffersAt : ℕ → List (Option State) → List (Option State) → Type 0
DiffersAt place old new = (other : ℕ) → other ≢ place → entry_at new other ≡ entry_at old other
