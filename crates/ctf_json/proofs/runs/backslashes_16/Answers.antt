use Rattle.std.proofs.Common.{arith, ◌==◌}
use Rattle.std.proofs.lemmas.Simd.{zip2_splat}
use Rattle.ctf_json.proofs.Masks.{hit, masked}
use Rattle.ctf_json.proofs.runs.backslashes_16.Goals as goal

pub returns : goal.returns
returns c =
    let v = c.args.v in
    masked _ (λ x. x == 92) v _ (omega arith) c.fits-v.1 (zip2_splat hit v 16 92 c.fits-v.0) tt
