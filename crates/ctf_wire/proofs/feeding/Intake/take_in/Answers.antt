use Rattle.ctf_wire.proofs.Replying.{TakesIn-done, TakesIn-broken}
use Rattle.ctf_wire.proofs.feeding.Intake.take_in.Goals as goal

pub returns-then-not-feed-clause-takes : goal.returns-then-not-feed-clause-takes
returns-then-not-feed-clause-takes g c =
    TakesIn-broken g.M.Machine.Step _ _ _ c.feed.new.self.pending c.args.self.now.batch c.feed.new.self.batch _ _ c.args.bytes.now c.requires.empty c.requires.none c.if-not-feed.ensures.feeds

pub returns-clause-takes : goal.returns-clause-takes
returns-clause-takes g c =
    TakesIn-done g.M.Machine.Step _ _ _ _ c.args.self.now.batch c.feed.new.self.batch _ _ _ c.args.bytes.now c.flush_batch.result c.requires.empty c.requires.none c.if-not-feed.ensures.feeds c.flush_batch.ensures.flushes
