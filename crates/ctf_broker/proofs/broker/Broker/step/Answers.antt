use Rattle.std.proofs.Common.{ap, sym, subst, Option}
use Rattle.std.specs.Prelude.{unwrap_or}
use Rattle.ctf_answers.specs.Replies.{change_reply}
use Rattle.ctf_laws.proofs.Runs.{steps_among}
use Rattle.ctf_protocol.specs.declared.requests.Request.TheVariants.{Changes}
use Rattle.ctf_protocol.specs.sessions.Runs.{Steps}
use Rattle.ctf_protocol.specs.sessions.State.{State, empty_state}
use Rattle.ctf_broker.specs.Table.{Libraries, library_at}
use Rattle.ctf_broker.proofs.Dropping.{steps_on}
use Rattle.ctf_broker.proofs.broker.Broker.step.Goals as goal

pub returns-clause-good : goal.returns-clause-good
returns-clause-good c = λ g fits.
    let made = subst (λ (l : Libraries). Steps (library_at c.args.self.now) c.args.session (Changes c.args.change.now) (change_reply c.args.session c.make-outcome.result) (library_at l)) (sym c.self.view_is) c.make-outcome.ensures.step in
    steps_among _ _ _ _ _ (steps_on _ (library_at c.self.inside.libraries.entries) (library_at c.drop_new.new.libraries.entries) _ _ _ c.drop_new.ensures.own (λ other ne. ap (λ (o : Option State). unwrap_or o empty_state) (c.drop_new.ensures.others other ne)) made) g fits
