use Rattle.std.proofs.Common.{◌≡◌, IfErr, Some, refl, subst}
use Rattle.ctf_model.specs.dumps.Dump.{dump}
use Rattle.ctf_model.specs.spaces.Kept.{Kept, kept_space}
use Rattle.ctf_model.specs.spaces.Space.{Space}
use Rattle.ctf_space.specs.SpaceView.{space_of}
use Rattle.ctf_dump.specs.Progress.{HasBegun}
use Rattle.ctf_dump.specs.declared.ends.DumpEnd.TheVariants.{Memory}
use Rattle.ctf_dump.proofs.lists.dump_over.Goals as goal

pub returns-in-Ok-clause-begun : goal.returns-in-Ok-clause-begun
returns-in-Ok-clause-begun g c =
    let own : Kept = c.args.own.now.kept in
    let parent : Kept = c.args.parent.now.kept in
    let same : space_of c.in-Ok.space ≡ kept_space own (Some parent) = rw (c.in-Ok.ensures.ok, c.view.ensures, c.view-2.ensures, c.model.ensures) refl in
    subst (λ (s : Space). IfErr c.dump_space.result (λ e. e ≡ Memory → HasBegun (g.W.Write.contents c.args.out.now) (g.W.Write.contents c.dump_space.new.out) (dump s))) same c.dump_space.ensures.begun
