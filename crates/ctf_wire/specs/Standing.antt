-- The state between two reads. Source: ours.
use Rattle.std.specs.Prelude.{◌≡◌, ℕ, ◌++◌, List, length, Bool, true, false, Option}
use Rattle.ctf_protocol.specs.lines.Lines.{whole_lines, all_lines, last_piece, stored_line}
use Rattle.ctf_wire.specs.Served.{Serves, BrokenOff}
use Rattle.ctf_wire.specs.Streams.{Pushed}

-- all whole lines that were read are served, no reply waits, and the piece after them is stored
pub record Stands {S : Type 0} (Step : S → Option (List ℕ) → List ℕ → S → Type 0) (start : S)
    (before : Pushed) (read : List ℕ) (machine : S) (held : Option (List ℕ))
    (after : Pushed) : Type 0 where
  pub served : Serves Step start (whole_lines read) machine before after
  pub holds : held ≡ stored_line (last_piece read)

-- one read got these bytes, and the state above holds again, or the sink failed; for any start of
-- the run
abbrev pub TakesIn : {S : Type 0} → (S → Option (List ℕ) → List ℕ → S → Type 0) → S
    → Option (List ℕ) → Pushed → List ℕ → Bool → S → Option (List ℕ) → Pushed → Type 0
TakesIn {S} Step old held sink bytes true new held_new sink_new =
    (start : S) (before : Pushed) (read : List ℕ) → Stands Step start before read old held sink
    → Stands Step start before (read ++ bytes) new held_new sink_new
TakesIn {S} Step old held sink bytes false new held_new sink_new =
    (start : S) (before : Pushed) (read : List ℕ) → Stands Step start before read old held sink
    → BrokenOff Step start (length (whole_lines read)) (whole_lines (read ++ bytes)) new
    before sink_new

-- the input has ended: a non-empty stored piece is a line too
abbrev pub Finishes : {S : Type 0} → (S → Option (List ℕ) → List ℕ → S → Type 0) → S
    → Option (List ℕ) → Pushed → Bool → S → Pushed → Type 0
Finishes {S} Step old held sink true new sink_new =
    (start : S) (before : Pushed) (read : List ℕ) → Stands Step start before read old held sink
    → Serves Step start (all_lines read) new before sink_new
Finishes {S} Step old held sink false new sink_new =
    (start : S) (before : Pushed) (read : List ℕ) → Stands Step start before read old held sink
    → BrokenOff Step start (length (whole_lines read)) (all_lines read) new before sink_new
