-- How a turn that ends a run ends it.
use Rattle.std.proofs.Common.{◌≡◌, ℕ, List, [], Bool, true, false, Option, Some, Ok, Err, ◌++◌, refl, ◌∙◌, ap, sym, subst, append_assoc, append-nil}
use Rattle.std.specs.Io.KnownBytes.{Consumes}
use Rattle.std.proofs.KnownBytes.{Appends-nil, Consumes-trans}
use Rattle.ctf_protocol.specs.lines.Lines.{whole_lines}
use Rattle.ctf_wire.specs.Endings.{EndsBy}
use Rattle.ctf_wire.specs.Served.{Serves, BrokenOff}
use Rattle.ctf_wire.specs.Standing.{Stands}
use Rattle.ctf_wire.specs.Turning.{Turns}
use Rattle.ctf_wire.specs.Streams.{Pulled, Pushed}
use Rattle.ctf_wire.specs.declared.run_faults.RunFault.{RunFault}
use Rattle.ctf_wire.specs.declared.run_faults.RunFault.TheVariants as fault
use Rattle.ctf_wire.proofs.Passing.{and_waits-nil, front_waits}

-- nothing was read
pub Stands-none : {S : Type 0} (Step : S → Option (List ℕ) → List ℕ → S → Type 0) (start : S) (a : Pushed) → Stands Step start a [] start (Some []) a
Stands-none {S} Step start a = record {
  served = record {
    replies = [];
    answers = refl;
    sent = record {
      groups = [];
      grouped = refl;
      filled = tt;
      written = Appends-nil a.contents;
      flushed = sym (and_waits-nil a.flushes) ∙ front_waits a.flushes [];
      well = refl;
    };
  };
  holds = refl;
}

module _ {S : Type 0} (Step : S → Option (List ℕ) → List ℕ → S → Type 0) (start old new : S) (held now : Option (List ℕ)) (reads : ℕ) (source_old source source_new : Pulled) (sink_old sink sink_new : Pushed) (read : List ℕ)
    (pulled : source.read ≡ source_old.read ++ read) (consumed : Consumes source_old.remaining source.remaining read) (stands : Stands Step start sink_old read old held sink)
    (unended : source.ended ≡ false) (sound : source.failed ≡ false) (well : sink_old.failed ≡ false) where
  pub turn_ends : Turns Step old held source sink (Ok false) new now source_new sink_new
      → EndsBy (λ lines. Serves Step start lines new sink_old sink_new) (λ sure lines. BrokenOff Step start sure lines new sink_old sink_new) reads source_old source_new sink_new (Ok tt)
  turn_ends t =
      let P : List ℕ → Type 0 = λ bs. Consumes source_old.remaining source_new.remaining bs in
      let served = t.serves start sink_old read stands in
      record {
        read = read;
        pulled = t.pulled ∙ append-nil source.read ∙ pulled;
        consumed = subst P (append-nil read) (Consumes-trans _ _ _ _ _ consumed t.consumed);
        at_end = t.at_end;
        served = served;
        ended = t.ended;
        sound = t.failed ∙ sound;
        well = served.sent.well ∙ well;
      }

  pub turn_fails : (why : RunFault) → Turns Step old held source sink (Err why) new now source_new sink_new
      → EndsBy (λ lines. Serves Step start lines new sink_old sink_new) (λ sure lines. BrokenOff Step start sure lines new sink_old sink_new) reads source_old source_new sink_new (Err why)
  turn_fails fault.Memory t = absurd t
  turn_fails fault.ReadBound t = absurd t
  turn_fails fault.Write t =
      let broken = t.broken start sink_old read unended stands in
      record {
        earlier = read;
        last = t.bytes;
        one_read = t.one_read;
        pulled = t.pulled ∙ ap (λ bs. bs ++ t.bytes) pulled ∙ append_assoc source_old.read read t.bytes;
        consumed = Consumes-trans _ _ _ _ _ consumed t.consumed;
        broken = broken;
        sound = t.failed ∙ sound;
        broke = broken.sent.broke;
      }
  turn_fails fault.Read t =
      let P : List ℕ → Type 0 = λ bs. Consumes source_old.remaining source_new.remaining bs in
      let M : S → Type 0 = λ x. Serves Step start (whole_lines read) x sink_old sink_new in
      let K : Pushed → Type 0 = λ x. Serves Step start (whole_lines read) old sink_old x in
      let served = subst M (sym t.machine) (subst K (sym t.sink_kept) stands.served) in
      record {
        read = read;
        pulled = t.pulled ∙ append-nil source.read ∙ pulled;
        consumed = subst P (append-nil read) (Consumes-trans _ _ _ _ _ consumed t.consumed);
        served = served;
        unended = t.ended ∙ unended;
        failing = t.failed;
        well = served.sent.well ∙ well;
      }
