-- The start and end of a run over a source and a sink. Source: ours.
use Rattle.std.specs.Prelude.{◌≡◌, ℕ, ◌+◌, ◌<◌, ◌≤◌, ◌^◌, ◌++◌, List, length, Bool, true, false, Result, Ok, Err, if◌then◌else◌}
use Rattle.std.specs.Io.KnownBytes.{Consumes, IsAtEnd}
use Rattle.ctf_protocol.specs.lines.Lines.{all_lines, whole_lines}
use Rattle.ctf_wire.specs.Streams.{Pulled, Pushed}
use Rattle.ctf_wire.specs.declared.run_faults.RunFault.{RunFault}
use Rattle.ctf_wire.specs.declared.run_faults.RunFault.TheVariants as fault

-- neither the end nor a failure was met, and `reads` more pulls can be counted
pub record IsReady (source : Pulled) (sink : Pushed) (reads : ℕ) : Type 0 where
  pub count : source.pulls + reads < 2 ^ 64
  pub unended : source.ended ≡ false
  pub sound : source.failed ≡ false
  pub writable : sink.failed ≡ false

-- at most `reads` pulls were made
pub record PullsAtMost (reads : ℕ) (old new : Pulled) : Type 0 where
  pub least : old.pulls ≤ new.pulls
  pub most : new.pulls ≤ old.pulls + reads

-- the lines to answer; an unfinished last piece is a line only at the end of the input
abbrev pub lines_read : Bool → List ℕ → List (List ℕ)
lines_read ended bs = if ended then all_lines bs else whole_lines bs

-- all input is read, and each line is served
pub record ReadsAll (Served : List (List ℕ) → Type 0) (old new : Pulled)
    (sink : Pushed) : Type 0 where
  pub read : List ℕ
  pub pulled : new.read ≡ old.read ++ read
  pub consumed : Consumes old.remaining new.remaining read
  pub at_end : IsAtEnd new.remaining
  pub served : Served (all_lines read)
  pub ended : new.ended ≡ true
  pub sound : new.failed ≡ false
  pub well : sink.failed ≡ false

-- the whole lines that were read are served, an unfinished last piece is not; the reader may have
-- failed
pub record ReadsSome (Served : List (List ℕ) → Type 0) (failed : Bool) (old new : Pulled)
    (sink : Pushed) : Type 0 where
  pub read : List ℕ
  pub pulled : new.read ≡ old.read ++ read
  pub consumed : Consumes old.remaining new.remaining read
  pub served : Served (whole_lines read)
  pub unended : new.ended ≡ false
  pub failing : new.failed ≡ failed
  pub well : sink.failed ≡ false

-- the replies broke off. Those to lines of earlier reads are complete; only replies to lines of the
-- last read are missing
pub record Breaks (Broken : ℕ → List (List ℕ) → Type 0) (old new : Pulled)
    (sink : Pushed) : Type 0 where
  pub earlier : List ℕ
  pub last : List ℕ
  pub one_read : length last ≤ 65536
  pub pulled : new.read ≡ old.read ++ (earlier ++ last)
  pub consumed : Consumes old.remaining new.remaining (earlier ++ last)
  pub broken : Broken (length (whole_lines earlier)) (lines_read new.ended (earlier ++ last))
  pub sound : new.failed ≡ false
  pub broke : sink.failed ≡ true

-- how a run of at most `reads` reads ends, with lines served or broken off; out of memory is
-- covered elsewhere
abbrev pub EndsBy : (List (List ℕ) → Type 0) → (ℕ → List (List ℕ) → Type 0) → ℕ → Pulled → Pulled
    → Pushed → Result (Unit {0}) RunFault → Type 0
EndsBy Served Broken reads old new sink (Ok done) = ReadsAll Served old new sink
EndsBy Served Broken reads old new sink (Err fault.Read) = ReadsSome Served true old new sink
EndsBy Served Broken reads old new sink (Err fault.ReadBound) =
    ReadsSome Served false old new sink × (new.pulls ≡ old.pulls + reads)
EndsBy Served Broken reads old new sink (Err fault.Write) = Breaks Broken old new sink
EndsBy Served Broken reads old new sink (Err fault.Memory) = Unit {0}
