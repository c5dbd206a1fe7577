use Rattle.std.proofs.Common.{refl, sym, ap, ◌∙◌, arith}
use lib.Count.{count_trailing_zeros}
use Rattle.json.specs.Run.{is_stop, is_plain}
use Rattle.ctf_json.proofs.MaskedRuns.{run_bound, run_through, run_stops}
use Rattle.ctf_json.proofs.runs.plain_end.Goals as goal

pub returns-then-found-ne0-clause-value : goal.returns-then-found-ne0-clause-value
returns-then-found-ne0-clause-value c =
    let found = c.stops_16-found in
    let run = run_stops is_stop is_plain (λ x. refl) c.args.text.now c.loop-i.i 16 (omega arith) (omega arith) (omega (arith, found.ensures)) ∙ ap (count_trailing_zeros 64) (sym found.ensures) in
    omega (arith, run, c.loop-i.invariant.0)

pub returns-then-found-ne0-clause-bound : goal.returns-then-found-ne0-clause-bound
returns-then-found-ne0-clause-bound c =
    let found = c.stops_16-found in
    let run = run_stops is_stop is_plain (λ x. refl) c.args.text.now c.loop-i.i 16 (omega arith) (omega arith) (omega (arith, found.ensures)) ∙ ap (count_trailing_zeros 64) (sym found.ensures) in
    let within = run_bound is_plain c.args.text.now c.loop-i.i c.loop-i.invariant.1 in
    (omega (arith, c.loop-i.invariant.2), omega (arith, run, within))

pub loop-i-preserved : goal.loop-i-preserved
loop-i-preserved c =
    let run = run_through is_stop is_plain (λ x. refl) c.args.text.now c.loop-i.i 16 (omega arith) (omega (arith, c.stops_16-found.ensures)) in
    let same = c.next_place-i.ensures.same in
    let bound = c.next_place-i.ensures.bound in
    (omega (arith, run, same, c.loop-i.invariant.0), omega (arith, bound), omega (arith, bound, c.loop-i.invariant.2))

pub returns-clause-bound : goal.returns-clause-bound
returns-clause-bound c =
    let within = run_bound is_plain c.args.text.now c.loop-i.i c.loop-i.invariant.1 in
    (omega (arith, c.loop-i.invariant.2), omega (arith, within))
