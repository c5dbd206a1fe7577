-- One turn: a read, and the replies to all lines that it completed. Source: ours.
use Rattle.std.specs.Prelude.{◌≡◌, ℕ, ◌≤◌, ◌++◌, List, [], length, Bool, true, false, Option, Result, Ok, Err}
use Rattle.std.specs.Io.KnownBytes.{Consumes, IsAtEnd}
use Rattle.ctf_protocol.specs.lines.Lines.{whole_lines, all_lines}
use Rattle.ctf_wire.specs.Endings.{lines_read}
use Rattle.ctf_wire.specs.Served.{Serves, BrokenOff}
use Rattle.ctf_wire.specs.Standing.{Stands}
use Rattle.ctf_wire.specs.Streams.{Pulled, Pushed}
use Rattle.ctf_wire.specs.declared.run_faults.RunFault.{RunFault}
use Rattle.ctf_wire.specs.declared.run_faults.RunFault.TheVariants as fault

-- the pull got some bytes, and they are served
pub record TurnGoes {S : Type 0} (Step : S → Option (List ℕ) → List ℕ → S → Type 0) (old : S)
    (held : Option (List ℕ)) (source : Pulled) (sink : Pushed) (new : S)
    (held_new : Option (List ℕ)) (source_new : Pulled) (sink_new : Pushed) : Type 0 where
  pub bytes : List ℕ
  pub pulled : source_new.read ≡ source.read ++ bytes
  pub consumed : Consumes source.remaining source_new.remaining bytes
  pub ended : source_new.ended ≡ source.ended
  pub failed : source_new.failed ≡ source.failed
  pub stands : (start : S) (before : Pushed) (read : List ℕ)
      → Stands Step start before read old held sink
      → Stands Step start before (read ++ bytes) new held_new sink_new

-- the pull met the end, and all lines are served
pub record TurnEnds {S : Type 0} (Step : S → Option (List ℕ) → List ℕ → S → Type 0) (old : S)
    (held : Option (List ℕ)) (source : Pulled) (sink : Pushed) (new : S)
    (source_new : Pulled) (sink_new : Pushed) : Type 0 where
  pub pulled : source_new.read ≡ source.read ++ []
  pub consumed : Consumes source.remaining source_new.remaining []
  pub at_end : IsAtEnd source_new.remaining
  pub ended : source_new.ended ≡ true
  pub failed : source_new.failed ≡ source.failed
  pub serves : (start : S) (before : Pushed) (read : List ℕ)
      → Stands Step start before read old held sink
      → Serves Step start (all_lines read) new before sink_new

-- the pull failed, and nothing else happened
pub record TurnUnread {S : Type 0} (old : S) (source : Pulled) (sink : Pushed) (new : S)
    (source_new : Pulled) (sink_new : Pushed) : Type 0 where
  pub pulled : source_new.read ≡ source.read ++ []
  pub consumed : Consumes source.remaining source_new.remaining []
  pub ended : source_new.ended ≡ source.ended
  pub failed : source_new.failed ≡ true
  pub machine : new ≡ old
  pub sink_kept : sink_new ≡ sink

-- the pull got some bytes or met the end, and the sink failed
pub record TurnBreaks {S : Type 0} (Step : S → Option (List ℕ) → List ℕ → S → Type 0) (old : S)
    (held : Option (List ℕ)) (source : Pulled) (sink : Pushed) (new : S)
    (source_new : Pulled) (sink_new : Pushed) : Type 0 where
  pub bytes : List ℕ
  pub one_read : length bytes ≤ 65536
  pub pulled : source_new.read ≡ source.read ++ bytes
  pub consumed : Consumes source.remaining source_new.remaining bytes
  pub failed : source_new.failed ≡ source.failed
  pub broken : (start : S) (before : Pushed) (read : List ℕ) → source.ended ≡ false
      → Stands Step start before read old held sink
      → BrokenOff Step start (length (whole_lines read))
      (lines_read source_new.ended (read ++ bytes)) new before sink_new

-- one turn: the run goes on, or ends
abbrev pub Turns : {S : Type 0} → (S → Option (List ℕ) → List ℕ → S → Type 0) → S → Option (List ℕ)
    → Pulled → Pushed → Result Bool RunFault → S → Option (List ℕ) → Pulled → Pushed → Type 0
Turns {S} Step old held source sink (Ok true) new held_new source_new sink_new =
    TurnGoes Step old held source sink new held_new source_new sink_new
Turns {S} Step old held source sink (Ok false) new held_new source_new sink_new =
    TurnEnds Step old held source sink new source_new sink_new
Turns {S} Step old held source sink (Err fault.Read) new held_new source_new sink_new =
    TurnUnread old source sink new source_new sink_new
Turns {S} Step old held source sink (Err fault.Write) new held_new source_new sink_new =
    TurnBreaks Step old held source sink new source_new sink_new
Turns {S} Step old held source sink (Err fault.ReadBound) new held_new source_new sink_new = ⊥
Turns {S} Step old held source sink (Err fault.Memory) new held_new source_new sink_new = ⊥
