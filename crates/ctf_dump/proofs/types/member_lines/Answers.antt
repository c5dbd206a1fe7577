use Rattle.std.proofs.Common.{List, subst}
use Rattle.std.specs.List.{flat_map}
use Rattle.ctf_model.specs.dumps.Dump.{member_line}
use Rattle.ctf_model.specs.format.Term.{Member}
use Rattle.ctf_views.specs.ItemsView.{member}
use Rattle.ctf_dump.specs.Progress.{HasWritten}
use Rattle.ctf_dump.proofs.Progress.{one_more}
use Rattle.ctf_dump.proofs.types.member_lines.Goals as goal

pub loop-member-preserved : goal.loop-member-preserved
loop-member-preserved g c =
    let before = g.W.Write.contents c.args.out.now in
    let now = g.W.Write.contents c.loop-member.out in
    let all = flat_map member_line c.into_iter-member-iterator.result in
    let so_far = subst (λ (xs : List Member). HasWritten before now all (flat_map member_line xs)) c.in-Some.ensures.steps c.loop-member.invariant.written in
    record {
      bare = c.in_ok-member_line.ensures.empty;
      written = one_more before now (g.W.Write.contents c.member_line.new.out) all (member_line (member c.in-Some.member)) (flat_map member_line c.next.new.self) so_far c.in_ok-member_line.ensures.written;
    }
