use Rattle.std.proofs.Common.{◌≡◌, ◌-◌}
use Rattle.ctf_model.specs.values.MemoryBits.{bits_at, hexadecimal, started_bytes}
use Rattle.ctf_model.specs.values.Pieces.{piece}
use Rattle.ctf_print.specs.Written.{written}
use Rattle.ctf_print.proofs.numbers.put_digits.Given as goal

abbrev pub invariant-loop-i : goal.invariant-loop-i
invariant-loop-i l =
    written l.fn.out (piece (hexadecimal (started_bytes l.width) (bits_at l.memory l.at l.width)))
    ≡ written l.out (piece (hexadecimal (l.count - l.i) (bits_at l.memory l.at l.width)))
