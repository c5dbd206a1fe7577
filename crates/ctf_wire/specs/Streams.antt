-- The known state of a source and a sink of bytes. Source: ours.
use Rattle.std.specs.Prelude.{◌≡◌, ℕ, ◌+◌, ◌++◌, ◌==◌, ◌||◌, List, [], take, Bool, false, not, Option, None, Some, IfSome, MatchOption, is_none}
use Rattle.std.specs.Io.KnownBytes.{Appends, Consumes, IsAtEnd, Keeps}
use Rattle.ctf_wire.specs.Flushes.{Flushes, after_push, after_flush}

-- ---- sources

-- the bytes pulled so far, those still to come if known, the number of pulls, and whether one met
-- the end or failed
pub record Pulled : Type 0 where
  pub read : List ℕ
  pub remaining : Option (List ℕ)
  pub pulls : ℕ
  pub ended : Bool
  pub failed : Bool

-- a pull of 0 bytes met the end
abbrev pub meets_end : Option ℕ → Bool
meets_end None = false
meets_end (Some n) = n == 0

-- the bytes that a pull moved to the front of the buffer
abbrev pub moved_bytes : Option ℕ → List ℕ → List ℕ
moved_bytes None buffer = []
moved_bytes (Some n) buffer = take n buffer

-- one pull: it moved some bytes to the front of the buffer (none only at the end), or it failed
pub record Pulls (old : Pulled) (result : Option ℕ) (buffer : List ℕ) (new : Pulled) : Type 0 where
  pub read : new.read ≡ old.read ++ moved_bytes result buffer
  pub bytes : MatchOption result (Keeps old.remaining new.remaining)
      (λ n. Consumes old.remaining new.remaining (take n buffer))
  pub at_end : IfSome result (λ n. n ≡ 0 → IsAtEnd new.remaining)
  pub counted : new.pulls ≡ old.pulls + 1
  pub ended : new.ended ≡ (meets_end result || old.ended)
  pub failed : new.failed ≡ (is_none result || old.failed)

-- ---- sinks

-- the accepted bytes and the flushed ones, as far as known, and whether a push or flush failed
pub record Pushed : Type 0 where
  pub contents : Option (List ℕ)
  pub flushes : Option Flushes
  pub failed : Bool

-- one push: it accepted some bytes from the front, or it failed
pub record Pushes (old : Pushed) (result : Option ℕ) (bytes : List ℕ) (new : Pushed) : Type 0 where
  pub taken : MatchOption result (Keeps old.contents new.contents)
      (λ n. Appends old.contents new.contents (take n bytes))
  pub waits : new.flushes ≡ after_push result bytes old.flushes
  pub failed : new.failed ≡ (is_none result || old.failed)

-- one flush, successful or not
pub record Passes (old : Pushed) (done : Bool) (new : Pushed) : Type 0 where
  pub kept : Keeps old.contents new.contents
  pub passed : new.flushes ≡ after_flush done old.flushes
  pub failed : new.failed ≡ (not done || old.failed)
