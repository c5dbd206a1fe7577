use Rattle.std.proofs.Common.{refl, arith}
use Rattle.json.specs.Run.{is_stop, is_plain}
use Rattle.ctf_json.proofs.MaskedRuns.{run_through}
use Rattle.ctf_json.proofs.runs.passed_blocks.Goals as goal

pub loop-i-preserved : goal.loop-i-preserved
loop-i-preserved c =
    let run = run_through is_stop is_plain (λ x. refl) c.args.text.now c.loop-i.i 64 (omega arith) (omega (arith, c.stops_64-found.ensures)) in
    (omega (arith, run, c.loop-i.invariant.0), omega arith, omega (arith, c.loop-i.invariant.2))
