use Rattle.std.proofs.Common.{List, subst}
use Rattle.std.specs.List.{flat_map}
use Rattle.ctf_model.specs.dumps.Dump.{value_line}
use Rattle.ctf_model.specs.format.Term.{Enumerator}
use Rattle.ctf_views.specs.ItemsView.{enumerator}
use Rattle.ctf_dump.specs.Progress.{HasWritten}
use Rattle.ctf_dump.proofs.Progress.{one_more}
use Rattle.ctf_dump.proofs.types.value_lines.Goals as goal

pub loop-enumerator-preserved : goal.loop-enumerator-preserved
loop-enumerator-preserved g c =
    let before = g.W.Write.contents c.args.out.now in
    let now = g.W.Write.contents c.loop-enumerator.out in
    let all = flat_map value_line c.into_iter-enumerator-iterator.result in
    let so_far = subst (λ (xs : List Enumerator). HasWritten before now all (flat_map value_line xs)) c.in-Some.ensures.steps c.loop-enumerator.invariant.written in
    record {
      bare = c.in_ok-value_line.ensures.empty;
      written = one_more before now (g.W.Write.contents c.value_line.new.out) all (value_line (enumerator c.in-Some.enumerator)) (flat_map value_line c.next.new.self) so_far c.in_ok-value_line.ensures.written;
    }
