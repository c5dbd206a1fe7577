use Rattle.std.proofs.Common.{◌+◌, ◌*◌, ◌++◌, get_or, ◌∙◌, arith}
use Rattle.std.specs.Simd.Lanes.{chunk}
use Rattle.std.proofs.lemmas.List.FromFn.{get_or-map-range_with_len}
use Rattle.ctf_lines.proofs.HexDigits.{get_or-two_chunks}
use Rattle.ctf_lines.proofs.digits.seconds.Goals as goal

pub returns : goal.returns
returns c k l =
    let digits = c.args.digits.now in
    let at = c.args.at in
    get_or-map-range_with_len (λ j. get_or (chunk at 64 digits ++ chunk (at + 64) 64 digits) (2 * j + 1) 0) 0 64 k k 0 (omega arith) (omega arith)
    ∙ get_or-two_chunks digits at (2 * k + 1) (omega arith) c.requires
