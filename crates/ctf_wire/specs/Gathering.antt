-- The state between two lines of one read. Source: ours.
use Rattle.std.specs.Prelude.{◌≡◌, ◌≢◌, ℕ, ◌≤◌, ◌++◌, List, [], length, Bool, true, false, Option, ◌⊎◌}
use Rattle.std.specs.List.{concat}
use Rattle.ctf_protocol.specs.lines.Lines.{whole_lines, last_piece, stored_line}
use Rattle.ctf_wire.specs.Served.{Answers, Sent, Sends, BrokenOff}
use Rattle.ctf_wire.specs.Streams.{Pushed}
use Rattle.ctf_wire.specs.declared.batch.Batch.{Batch}

-- these lines are answered: at least `sure` of the replies are sent, and the others are in the
-- batch
pub record Gathered {S : Type 0} (Step : S → Option (List ℕ) → List ℕ → S → Type 0) (start : S)
    (sure : ℕ) (lines : List (List ℕ)) (machine : S) (batch : Batch)
    (before after : Pushed) : Type 0 where
  pub replies : List (List ℕ)
  pub waiting : List (List ℕ)
  pub answers : Answers Step start lines (replies ++ waiting) machine
  pub enough : sure ≤ length replies
  pub sent : Sent before replies after
  pub gathered : batch.bytes.items ≡ concat waiting
  pub none : batch.waits ≡ false → waiting ≡ []
  pub some : batch.waits ≡ true → waiting ≢ []

-- all whole lines that were read are answered, and the piece after them is stored
pub record Gathers {S : Type 0} (Step : S → Option (List ℕ) → List ℕ → S → Type 0) (start : S)
    (before : Pushed) (sure : ℕ) (read : List ℕ) (machine : S) (held : Option (List ℕ))
    (batch : Batch) (after : Pushed) : Type 0 where
  pub lines : Gathered Step start sure (whole_lines read) machine batch before after
  pub holds : held ≡ stored_line (last_piece read)

-- more bytes were read, and the state above holds again, or the sink failed; for any start of the
-- run
abbrev pub Feeds : {S : Type 0} → (S → Option (List ℕ) → List ℕ → S → Type 0) → S → Option (List ℕ)
    → Batch → Pushed → List ℕ → Bool → S → Option (List ℕ) → Batch → Pushed → Type 0
Feeds {S} Step old held batch sink bytes true new held_new batch_new sink_new =
    (start : S) (before : Pushed) (sure : ℕ) (read : List ℕ)
    → Gathers Step start before sure read old held batch sink
    → Gathers Step start before sure (read ++ bytes) new held_new batch_new sink_new
Feeds {S} Step old held batch sink bytes false new held_new batch_new sink_new =
    (start : S) (before : Pushed) (sure : ℕ) (read : List ℕ)
    → Gathers Step start before sure read old held batch sink
    → BrokenOff Step start sure (whole_lines (read ++ bytes)) new before sink_new

-- the batch is unchanged, or was sent and is empty; or the sink failed
abbrev pub MakesRoom : Batch → Pushed → Bool → Batch → Pushed → Type 0
MakesRoom batch sink true batch_new sink_new =
    ((batch_new ≡ batch) × (sink_new ≡ sink))
    ⊎ ((batch_new.bytes.items ≡ []) × (batch_new.waits ≡ false)
    × (65536 ≤ length batch.bytes.items) × Sends sink batch.bytes.items true sink_new)
MakesRoom batch sink false batch_new sink_new = Sends sink batch.bytes.items false sink_new

-- nothing waited, or the waiting batch is sent; or the sink failed
abbrev pub FlushesBatch : Batch → Pushed → Bool → Pushed → Type 0
FlushesBatch batch sink true sink_new =
    ((batch.waits ≡ false) × (sink_new ≡ sink))
    ⊎ ((batch.waits ≡ true) × Sends sink batch.bytes.items true sink_new)
FlushesBatch batch sink false sink_new = Sends sink batch.bytes.items false sink_new
