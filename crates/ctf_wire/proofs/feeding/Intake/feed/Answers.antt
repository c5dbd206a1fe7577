use Rattle.std.proofs.Common.{arith, ◌≡◌, ◌∙◌, ap, sym, subst, List, ℕ, ◌++◌, ◌∷◌, [], true, false, append_assoc}
use Rattle.ctf_wire.specs.Gathering.{Feeds}
use Rattle.ctf_wire.proofs.Cutting.{regrouped}
use Rattle.ctf_wire.proofs.Replying.{Feeds-more, Feeds-broken, Feeds-piece}
use Rattle.ctf_wire.proofs.feeding.Intake.feed.Goals as goal

pub loop-piece-preserved : goal.loop-piece-preserved
loop-piece-preserved g c =
    let fed = c.loop-piece.invariant.fed in
    let piece = c.in-Some.piece.now in
    let line = piece ++ 10 ∷ [] in
    record {
      fed = (
        fed.0 ++ line,
        regrouped _ fed.0 _ piece _ fed.1 c.in-Some.ensures.1,
        Feeds-more g.M.Machine.Step _ _ _ _ _ _ _ _ _ _ _ _ fed.0 line true fed.2 c.if-not-end_line.ensures.feeds,
      );
      grows = let a = c.if-not-end_line.ensures.grows in let b = c.loop-piece.invariant.grows in omega (arith, a, b);
    }

pub returns-then-not-end_line-clause-feeds : goal.returns-then-not-end_line-clause-feeds
returns-then-not-end_line-clause-feeds g c =
    let fed = c.loop-piece.invariant.fed in
    let piece = c.in-Some.piece.now in
    let line = piece ++ 10 ∷ [] in
    let after = c.in-Some.after.now in
    let whole = regrouped _ fed.0 _ piece after fed.1 c.in-Some.ensures.1 in
    let cut = Feeds-more g.M.Machine.Step _ _ _ _ _ c.end_line.new.self.pending _ _ c.end_line.new.self.batch _ _ _ fed.0 line false fed.2 c.if-not-end_line.ensures.feeds in
    let P : List ℕ → Type 0 = λ bs. Feeds g.M.Machine.Step c.args.machine.now c.args.self.now.pending c.args.self.now.batch (g.K.Sink.pushed c.args.sink.now) bs false c.end_line.new.machine c.end_line.new.self.pending c.end_line.new.self.batch (g.K.Sink.pushed c.end_line.new.sink) in
    subst P (sym whole) (Feeds-broken g.M.Machine.Step _ _ _ c.end_line.new.self.pending c.end_line.new.self.pending _ c.end_line.new.self.batch c.end_line.new.self.batch _ _ (fed.0 ++ line) after cut)

pub returns-clause-feeds : goal.returns-clause-feeds
returns-clause-feeds g c =
    let fed = c.loop-piece.invariant.fed in
    let rest = c.loop-piece.rest.now in
    let last = Feeds-piece g.M.Machine.Step c.loop-piece.machine c.loop-piece.self.pending c.append.new.self c.loop-piece.self.batch (g.K.Sink.pushed c.loop-piece.sink) rest c.in_default.ensures c.append.ensures in
    let P : List ℕ → Type 0 = λ bs. Feeds g.M.Machine.Step c.args.machine.now c.args.self.now.pending c.args.self.now.batch (g.K.Sink.pushed c.args.sink.now) bs true c.loop-piece.machine c.append.new.self c.loop-piece.self.batch (g.K.Sink.pushed c.loop-piece.sink) in
    subst P (sym fed.1) (Feeds-more g.M.Machine.Step _ _ _ _ _ _ _ _ _ _ _ _ fed.0 rest true fed.2 last)
