use Rattle.std.proofs.Common.{◌+◌, ◌-◌, ◌^◌, ◌/◌, w64, ◌≤◌, ◌<◌, refl}
use Rattle.std.proofs.Math.Facts.{of_z-to_z}
use Rattle.ctf_print.proofs.Signs.{all_ones, fits_word, high_half, low_half}
use Rattle.ctf_print.proofs.integers.twos_complement.Goals as goal

pub overflow_add-number : goal.overflow_add-number
overflow_add-number c =
    let ones = all_ones c.args.width c.requires.short in
    rw ones (record { fits = fits_word c.args.width c.args.number c.requires.short c.requires.small })

pub returns-then-number-most : goal.returns-then-number-most
returns-then-number-most c =
    let ones = all_ones c.args.width c.requires.short in
    let less : c.args.number ≤ (2 ^ c.args.width - 1) / 2 = rw ones at c.if-number-most.true in
    rw c.cast_signed.ensures (rw (of_z-to_z {w = w64} {n = c.args.number} c.ranges.number) (low_half c.args.width c.args.number c.requires.some c.requires.short less))

pub returns-else-number-most : goal.returns-else-number-most
returns-else-number-most c =
    let ones = all_ones c.args.width c.requires.short in
    let more : (2 ^ c.args.width - 1) / 2 < c.args.number = rw ones at c.if-number-most.false in
    let fits = fits_word c.args.width c.args.number c.requires.short c.requires.small in
    rw (c.cast_signed-else-number-most.ensures, ones)
    (rw (of_z-to_z {w = w64} {n = c.args.number + (18446744073709551615 - (2 ^ c.args.width - 1))} (record { fits = fits }))
    (high_half c.args.width c.args.number (c.args.number + (18446744073709551615 - (2 ^ c.args.width - 1))) c.requires.some c.requires.short more c.requires.small refl))
