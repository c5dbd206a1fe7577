use Rattle.std.proofs.Common.{◌≡◌, ◌≢◌, [], Some, false, true, refl}
use Rattle.ctf_wire.proofs.Replying.{Finishes-line, Finishes-none}
use Rattle.ctf_wire.proofs.feeding.Intake.finish.Goals as goal

pub returns-then-is_empty-clause-finishes : goal.returns-then-is_empty-clause-finishes
returns-then-is_empty-clause-finishes g c = Finishes-none g.M.Machine.Step _ _ _ (c.if-is_empty.ensures.0 refl)

pub returns-clause-finishes : goal.returns-clause-finishes
returns-clause-finishes g c =
    let a = c.answer.ensures.answers in
    let some : c.args.self.now.pending ≢ Some [] = λ e. let clash : false ≡ true = c.if-is_empty.ensures.1 e in cc in
    Finishes-line g.M.Machine.Step _ _ _ c.args.self.now.batch c.answer.new.batch _ _ a.0 c.flush_batch.result
    some c.requires.empty c.requires.none a.1 a.2.items c.answer.ensures.waits c.flush_batch.ensures.flushes
