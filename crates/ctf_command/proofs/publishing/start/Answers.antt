use Rattle.std.proofs.Common.{List, map, Some, ap, ◌∙◌}
use Rattle.std.proofs.lemmas.Result.{err_from_is_err_and}
use Rattle.ctf_command.specs.declared.publications.Wanted.{Wanted}
use Rattle.ctf_command.specs.Argument.{argument_shown}
use Rattle.ctf_command.proofs.PublishedFiles.{none_published, published_next, unstarted_at}
use Rattle.ctf_command.proofs.publishing.start.Goals as goal

pub loop-wanted-init : goal.loop-wanted-init
loop-wanted-init g c = record {
  good = c.new-broker.ensures.good;
  published = none_published (g.F.FileReader.gave c.args.files.now) c.new-broker.result c.new-broker.ensures.empty;
}

pub loop-wanted-preserved : goal.loop-wanted-preserved
loop-wanted-preserved g c = record {
  good = c.in_ok-publish.ensures.good c.loop-wanted.invariant.good;
  published = published_next c.deref-wanted-items.result.now c.loop-wanted.wanted-index c.wanted-item.result c.loop-wanted-test.true c.wanted-item.is (g.F.FileReader.gave c.args.files.now) c.loop-wanted.broker c.publish.new.broker c.loop-wanted.invariant.published c.in_ok-publish.ensures.published;
}

pub returns-in_err-publish-clause-unstarted : goal.returns-in_err-publish-clause-unstarted
returns-in_err-publish-clause-unstarted g c =
    let p = err_from_is_err_and c.from_residual.result c.from_residual.ensures.1 in
    rw (p.1, p.2) (unstarted_at c.deref-wanted-items.result.now c.loop-wanted.wanted-index c.wanted-item.result c.loop-wanted-test.true c.wanted-item.is (g.F.FileReader.gave c.args.files.now) (map (λ w. w.now) c.args.words.now) c.loop-wanted.broker c.in_err-publish.field-0.0 (ap (λ (xs : List Wanted). Some (map argument_shown xs)) c.deref-wanted-items.ensures.value ∙ (rw c.in-Ok-Some.field-0-is at c.in-Ok-Some.ensures)) c.loop-wanted.invariant.published c.in_err-publish.ensures.refused)
