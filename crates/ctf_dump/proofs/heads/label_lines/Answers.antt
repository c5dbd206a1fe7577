use Rattle.std.proofs.Common.{List, subst}
use Rattle.std.specs.List.{flat_map}
use Rattle.ctf_model.specs.dumps.Dump.{label_line}
use Rattle.ctf_model.specs.format.Dictionary.{Label}
use Rattle.ctf_views.specs.ItemsView.{label}
use Rattle.ctf_dump.specs.Progress.{HasWritten}
use Rattle.ctf_dump.proofs.Progress.{one_more}
use Rattle.ctf_dump.proofs.heads.label_lines.Goals as goal

pub loop-label-preserved : goal.loop-label-preserved
loop-label-preserved g c =
    let before = g.W.Write.contents c.args.out.now in
    let now = g.W.Write.contents c.loop-label.out in
    let all = flat_map label_line c.into_iter-label-iterator.result in
    let so_far = subst (λ (xs : List Label). HasWritten before now all (flat_map label_line xs)) c.in-Some.ensures.steps c.loop-label.invariant.written in
    record {
      bare = c.in_ok-label_line.ensures.empty;
      written = one_more before now (g.W.Write.contents c.label_line.new.out) all (label_line (label c.in-Some.label)) (flat_map label_line c.next.new.self) so_far c.in_ok-label_line.ensures.written;
    }
