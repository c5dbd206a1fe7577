-- The engine's effect for a broker, in terms of each session's own run.
use Rattle.std.proofs.Common.{ℕ, List, Bool, true, false, Result, Ok, Err}
use Rattle.ctf_wire.proofs.Alone.{serves_alone}
use Rattle.ctf_wire.specs.Endings.{EndsBy, ReadsAll, ReadsSome, Breaks}
use Rattle.ctf_wire.specs.Served.{Serves, BrokenOff}
use Rattle.ctf_wire.specs.Serving.{BrokerStep, WritesOut, BreaksOff, ServesTo}
use Rattle.ctf_wire.specs.Streams.{Pulled, Pushed}
use Rattle.ctf_broker.specs.Table.{Libraries}
use Rattle.ctf_wire.specs.declared.run_faults.RunFault.{RunFault}
use Rattle.ctf_wire.specs.declared.run_faults.RunFault.TheVariants as fault

writes_out : (old new : Libraries) (before after : Pushed) (lines : List (List ℕ)) → Serves BrokerStep old lines new before after → WritesOut old lines new before after
writes_out old new before after lines s = record {
  replies = s.replies;
  runs = serves_alone old new lines s.replies s.answers;
  sent = s.sent;
}

breaks_off : (old new : Libraries) (before after : Pushed) (sure : ℕ) (lines : List (List ℕ)) → BrokenOff BrokerStep old sure lines new before after → BreaksOff old sure lines new before after
breaks_off old new before after sure lines b = record {
  answered = b.answered;
  first = b.first;
  replies = b.replies;
  waiting = b.waiting;
  runs = serves_alone old new b.answered _ b.answers;
  enough = b.enough;
  sent = b.sent;
}

-- ---- restating facts about lines

all_by : (P Q : List (List ℕ) → Type 0) → ((lines : List (List ℕ)) → P lines → Q lines) → (old new : Pulled) (sink : Pushed) → ReadsAll P old new sink → ReadsAll Q old new sink
all_by P Q f old new sink r = record { read = r.read; pulled = r.pulled; consumed = r.consumed; at_end = r.at_end; served = f _ r.served; ended = r.ended; sound = r.sound; well = r.well }

some_by : (P Q : List (List ℕ) → Type 0) → ((lines : List (List ℕ)) → P lines → Q lines) → (failed : Bool) (old new : Pulled) (sink : Pushed) → ReadsSome P failed old new sink → ReadsSome Q failed old new sink
some_by P Q f failed old new sink r = record { read = r.read; pulled = r.pulled; consumed = r.consumed; served = f _ r.served; unended = r.unended; failing = r.failing; well = r.well }

breaks_by : (P Q : ℕ → List (List ℕ) → Type 0) → ((sure : ℕ) (lines : List (List ℕ)) → P sure lines → Q sure lines) → (old new : Pulled) (sink : Pushed) → Breaks P old new sink → Breaks Q old new sink
breaks_by P Q f old new sink r = record { earlier = r.earlier; last = r.last; one_read = r.one_read; pulled = r.pulled; consumed = r.consumed; broken = f _ _ r.broken; sound = r.sound; broke = r.broke }

pub serves_to : (reads : ℕ) (old new : Libraries) (source_old source_new : Pulled) (sink_old sink_new : Pushed) (result : Result (Unit {0}) RunFault)
    → EndsBy (λ lines. Serves BrokerStep old lines new sink_old sink_new) (λ sure lines. BrokenOff BrokerStep old sure lines new sink_old sink_new) reads source_old source_new sink_new result
    → ServesTo reads old new source_old source_new sink_old sink_new result
serves_to reads old new a b c d (Ok done) r = all_by _ _ (writes_out old new c d) a b d r
serves_to reads old new a b c d (Err fault.Read) r = some_by _ _ (writes_out old new c d) true a b d r
serves_to reads old new a b c d (Err fault.ReadBound) r = (some_by _ _ (writes_out old new c d) false a b d r.0, r.1)
serves_to reads old new a b c d (Err fault.Write) r = breaks_by _ _ (breaks_off old new c d) a b d r
serves_to reads old new a b c d (Err fault.Memory) r = tt
