use Rattle.std.proofs.Common.{arith, rules, ◌≡◌, ◌≢◌, ◌≤◌, ◌∙◌, ap, sym, subst, List, ℕ, ◌++◌, ◌||◌, [], take, length, Bool, true, false, eqb, append-nil, Option}
use Rattle.std.specs.Io.KnownBytes.{Consumes}
use Rattle.std.proofs.lemmas.Bool.Decides.{nat_tests}
use Rattle.std.proofs.lemmas.Grind.{common_steps}
use Rattle.ctf_protocol.specs.lines.Lines.{whole_lines}
use Rattle.ctf_wire.specs.Endings.{lines_read}
use Rattle.ctf_wire.specs.Served.{BrokenOff}
use Rattle.ctf_wire.specs.Standing.{Stands}
use Rattle.ctf_wire.proofs.Cutting.{take-written, length-front}
use Rattle.ctf_wire.proofs.turns.Run.turn.Goals as goal

not_zero : (n : ℕ) → n ≢ 0 → eqb n 0 ≡ false
not_zero n h = grind (arith, nat_tests)

is_zero : (n : ℕ) → n ≡ 0 → eqb n 0 ≡ true
is_zero n h = grind (arith, nat_tests)

pub returns-then-not-take_in-clause-turns : goal.returns-then-not-take_in-clause-turns
returns-then-not-take_in-clause-turns g c =
    let pulled = c.in-Some.ensures.pulled in
    let ended : (g.S.Source.pulled c.pull.new.self).ended ≡ (g.S.Source.pulled c.args.source.now).ended = pulled.ended ∙ ap (λ t. t || (g.S.Source.pulled c.args.source.now).ended) (not_zero _ c.if-count-eq0.false) in
    let bytes = take c.in-Some.count c.pull.new.buffer in
    let same : take c.in-Some.count c.deref.result.now ≡ bytes = ap (take c.in-Some.count) c.deref.ensures.value ∙ take-written c.in-Some.count _ c.pull.new.buffer _ (c.pull.auto.buffer ∙ c.deref_mut.ensures.len) in
    record {
      bytes = bytes;
      one_read = let short = length-front c.in-Some.count c.pull.new.buffer in let full : length c.pull.new.buffer ≡ 65536 = c.pull.auto.buffer ∙ c.deref_mut.ensures.len ∙ c.self.invariant.3 in omega (arith, short, full);
      pulled = pulled.read;
      consumed = pulled.bytes;
      failed = pulled.failed;
      broken = λ start before read unended stands.
          let P : Bool → Type 0 = λ t. BrokenOff g.M.Machine.Step start (length (whole_lines read)) (lines_read t (read ++ bytes)) c.take_in.new.machine before (g.K.Sink.pushed c.take_in.new.sink) in
          let Q : Option (List ℕ) → Type 0 = λ held. Stands g.M.Machine.Step start before read c.args.machine.now held (g.K.Sink.pushed c.args.sink.now) in
          let R : List ℕ → Type 0 = λ bs. BrokenOff g.M.Machine.Step start (length (whole_lines read)) (whole_lines (read ++ bs)) c.take_in.new.machine before (g.K.Sink.pushed c.take_in.new.sink) in
          subst P (sym (ended ∙ unended)) (subst R same (c.if-not-take_in.ensures.takes start before read (subst Q (sym c.self.view_is) stands)));
    }

pub returns-clause-turns : goal.returns-clause-turns
returns-clause-turns g c =
    let pulled = c.in-Some.ensures.pulled in
    let bytes = take c.in-Some.count c.pull.new.buffer in
    let same : take c.in-Some.count c.deref.result.now ≡ bytes = ap (take c.in-Some.count) c.deref.ensures.value ∙ take-written c.in-Some.count _ c.pull.new.buffer _ (c.pull.auto.buffer ∙ c.deref_mut.ensures.len) in
    record {
      bytes = bytes;
      pulled = pulled.read;
      consumed = pulled.bytes;
      ended = pulled.ended ∙ ap (λ t. t || (g.S.Source.pulled c.args.source.now).ended) (not_zero _ c.if-count-eq0.false);
      failed = pulled.failed;
      stands = λ start before read stands.
          let Q : Option (List ℕ) → Type 0 = λ held. Stands g.M.Machine.Step start before read c.args.machine.now held (g.K.Sink.pushed c.args.sink.now) in
          let R : List ℕ → Type 0 = λ bs. Stands g.M.Machine.Step start before (read ++ bs) c.take_in.new.machine c.take_in.new.self.pending (g.K.Sink.pushed c.take_in.new.sink) in
          subst R same (c.if-not-take_in.ensures.takes start before read (subst Q (sym c.self.view_is) stands));
    }
