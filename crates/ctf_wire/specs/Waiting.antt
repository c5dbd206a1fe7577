-- Bytes that are pushed and not yet flushed. Source: ours.
use Rattle.std.specs.Prelude.{◌≡◌, ℕ, List, Bool, true, false}
use Rattle.std.specs.Io.KnownBytes.{Appends}
use Rattle.ctf_wire.specs.Flushes.{and_waits}
use Rattle.ctf_wire.specs.Served.{BeginsWith}
use Rattle.ctf_wire.specs.Streams.{Pushed}

-- the bytes were pushed, and wait
pub record TakesAll (before : Pushed) (bytes : List ℕ) (after : Pushed) : Type 0 where
  pub written : Appends before.contents after.contents bytes
  pub waits : after.flushes ≡ and_waits before.flushes bytes
  pub well : after.failed ≡ before.failed

-- a prefix of the bytes was pushed, and the sink failed
pub record TakesFront (before : Pushed) (bytes : List ℕ) (after : Pushed) : Type 0 where
  pub front : List ℕ
  pub begins : BeginsWith bytes front
  pub written : Appends before.contents after.contents front
  pub waits : after.flushes ≡ and_waits before.flushes front
  pub broke : after.failed ≡ true

-- the bytes were pushed, or a prefix of them
abbrev pub Takes : Pushed → List ℕ → Bool → Pushed → Type 0
Takes before bytes true after = TakesAll before bytes after
Takes before bytes false after = TakesFront before bytes after
