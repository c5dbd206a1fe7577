use Rattle.std.proofs.Common.{arith, ◌∙◌, ap, sym, subst, List, [], ℕ, Option, ◌+◌, ◌++◌, append_assoc, append-nil, Bool, Result, Ok, true, false}
use Rattle.std.proofs.KnownBytes.{Consumes-nil, Consumes-trans}
use Rattle.std.proofs.lemmas.Result.{err_from_is_err_and}
use Rattle.ctf_wire.specs.Standing.{Stands}
use Rattle.ctf_wire.specs.Turning.{Turns}
use Rattle.ctf_wire.proofs.Turning.{Stands-none, turn_ends, turn_fails}
use Rattle.ctf_wire.proofs.engine.answer_bounded.Goals as goal

pub loop-turn-init : goal.loop-turn-init
loop-turn-init g c =
    let P : Option (List ℕ) → Type 0 = λ held. Stands g.M.Machine.Step c.args.machine.now (g.K.Sink.pushed c.args.sink.now) [] c.args.machine.now held (g.K.Sink.pushed c.args.sink.now) in
    record {
      read = [];
      pulled = sym (append-nil _);
      consumed = Consumes-nil _;
      stands = subst P (sym c.requires.fresh) (Stands-none g.M.Machine.Step _ _);
      counted = omega arith;
      unended = c.requires.ready.unended;
      sound = c.requires.ready.sound;
      well = c.requires.ready.writable;
    }

pub loop-turn-preserved : goal.loop-turn-preserved
loop-turn-preserved g c =
    let i = c.loop-turn.invariant in
    let T : Bool → Type 0 = λ b. Turns g.M.Machine.Step c.loop-turn.machine c.loop-turn.run (g.S.Source.pulled c.loop-turn.source) (g.K.Sink.pushed c.loop-turn.sink) (Ok b) c.turn.new.machine c.turn.new.self (g.S.Source.pulled c.turn.new.source) (g.K.Sink.pushed c.turn.new.sink) in
    let t = subst T c.if-not-branch.false c.in_ok-turn.ensures.turns in
    let counted = c.in_ok-turn.ensures.once in
    let before = i.counted in
    let stands = t.stands _ _ _ i.stands in
    record {
      read = i.read ++ t.bytes;
      pulled = t.pulled ∙ ap (λ bs. bs ++ t.bytes) i.pulled ∙ append_assoc _ i.read t.bytes;
      consumed = Consumes-trans _ _ _ _ _ i.consumed t.consumed;
      stands = stands;
      counted = omega (arith, counted, before);
      unended = t.ended ∙ i.unended;
      sound = t.failed ∙ i.sound;
      well = stands.served.sent.well ∙ c.requires.ready.writable;
    }

pub returns-then-not-branch-clause-ends : goal.returns-then-not-branch-clause-ends
returns-then-not-branch-clause-ends g c =
    let i = c.loop-turn.invariant in
    let T : Bool → Type 0 = λ b. Turns g.M.Machine.Step c.loop-turn.machine c.loop-turn.run (g.S.Source.pulled c.loop-turn.source) (g.K.Sink.pushed c.loop-turn.sink) (Ok b) c.turn.new.machine c.turn.new.self (g.S.Source.pulled c.turn.new.source) (g.K.Sink.pushed c.turn.new.sink) in
    let t = subst T c.if-not-branch.true c.in_ok-turn.ensures.turns in
    turn_ends g.M.Machine.Step _ _ _ _ c.turn.new.self c.args.reads _ _ _ _ _ _ i.read i.pulled i.consumed i.stands i.unended i.sound c.requires.ready.writable t

pub returns-in_err-turn-clause-ends : goal.returns-in_err-turn-clause-ends
returns-in_err-turn-clause-ends g c =
    let i = c.loop-turn.invariant in
    let p = err_from_is_err_and c.from_residual.result c.from_residual.ensures.1 in
    rw (p.1, p.2) (turn_fails g.M.Machine.Step _ _ _ _ c.turn.new.self c.args.reads _ _ _ _ _ _ i.read i.pulled i.consumed i.stands i.unended i.sound c.requires.ready.writable c.in_err-turn.field-0.0 c.in_err-turn.ensures.turns)
