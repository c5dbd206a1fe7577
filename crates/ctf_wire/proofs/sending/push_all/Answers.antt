use Rattle.std.proofs.Common.{take, drop, length, ◌-◌, ◌∙◌, ap, sym, subst, rules, List, ℕ}
use Rattle.std.specs.Io.KnownBytes.{Appends}
use Rattle.std.proofs.KnownBytes.{Appends-trans, Appends-kept}
use Rattle.std.proofs.lemmas.List.{take-append-drop}
use Rattle.ctf_wire.specs.Flushes.{and_waits}
use Rattle.ctf_wire.proofs.Cutting.{take-next}
use Rattle.ctf_wire.proofs.Passing.{and_waits-more}
use Rattle.ctf_wire.proofs.sending.push_all.Goals as goal

pub loop-at-preserved : goal.loop-at-preserved
loop-at-preserved g c =
    let at = c.loop-at.at in
    let bs = c.args.bytes.now in
    let next = take-next at c.in-Some.n bs in
    let before = g.K.Sink.pushed c.args.sink.now in
    let after = g.K.Sink.pushed c.push.new.self in
    let so_far = c.loop-at.invariant.takes in
    let pushed = c.in-Some.ensures.pushed in
    record {
      within = let h = c.in-Some.ensures.within in search rules;
      takes = record {
        written =
            let P : List ℕ → Type 0 = λ xs. Appends before.contents after.contents xs in
            subst P (sym next) (Appends-trans _ _ _ _ _ so_far.written pushed.taken);
        waits = pushed.waits ∙ ap (λ k. and_waits k (take c.in-Some.n (take (length bs - at) (drop at bs)))) so_far.waits
            ∙ and_waits-more before.flushes (take at bs) _ ∙ ap (and_waits before.flushes) (sym next);
        well = pushed.failed ∙ so_far.well;
      };
    }

pub returns-in-None : goal.returns-in-None
returns-in-None g c =
    let bs = c.args.bytes.now in
    let so_far = c.loop-at.invariant.takes in
    let pushed = c.in-None.ensures.pushed in
    record {
      front = take c.loop-at.at bs;
      begins = (drop c.loop-at.at bs, sym (take-append-drop c.loop-at.at bs));
      written = Appends-kept _ _ _ _ so_far.written pushed.taken;
      waits = pushed.waits ∙ so_far.waits;
      broke = pushed.failed;
    }
