use Rattle.std.proofs.Common.{◌+◌, ◌-◌, ◌/◌, ◌%◌, ◌^◌, ◌∙◌, ap}
use Rattle.std.proofs.lemmas.Result.{err_from_is_err_and}
use Rattle.ctf_model.specs.values.MemoryBits.{bits_at, hexadecimal, started_bytes}
use Rattle.ctf_model.specs.values.Pieces.{no_pieces, piece}
use Rattle.ctf_model.specs.dumps.Texts.{hex_of_byte}
use Rattle.ctf_print.specs.Written.{written}
use Rattle.ctf_print.proofs.Digits.{digits_left, none_left}
use Rattle.ctf_print.proofs.Writes.{first_refused, later_refused, next_ok}
use Rattle.ctf_print.proofs.numbers.put_digits.Goals as goal

pub returns-in_err-put_byte-clause-err : goal.returns-in_err-put_byte-clause-err
returns-in_err-put_byte-clause-err c =
    let p = err_from_is_err_and c.from_residual.result c.from_residual.ensures.1 in
    let n = bits_at c.args.memory.now c.args.at c.args.width in
    let next = digits_left (started_bytes c.args.width) c.loop-i.i n c.loop-i-test.true in
    rw (p.1, p.2) (first_refused c.args.out.now c.loop-i.out _ (piece (hex_of_byte (n / 256 ^ (started_bytes c.args.width - 1 - c.loop-i.i) % 256))) _ _ (c.loop-i.invariant ∙ ap (written c.loop-i.out) next) (rw c.byte_of.ensures at c.in_err-put_byte.ensures.err))

pub loop-i-preserved : goal.loop-i-preserved
loop-i-preserved c =
    let n = bits_at c.args.memory.now c.args.at c.args.width in
    let next = digits_left (started_bytes c.args.width) c.loop-i.i n c.loop-i-test.true in
    c.loop-i.invariant ∙ (ap (written c.loop-i.out) next
    ∙ next_ok c.loop-i.out c.put_byte.new.out (piece (hex_of_byte (n / 256 ^ (started_bytes c.args.width - 1 - c.loop-i.i) % 256))) (piece (hexadecimal (started_bytes c.args.width - (c.loop-i.i + 1)) n)) (rw c.byte_of.ensures at c.in_ok-put_byte.ensures.ok))

pub returns-clause-ok : goal.returns-clause-ok
returns-clause-ok c =
    let none = none_left (started_bytes c.args.width) c.loop-i.i (bits_at c.args.memory.now c.args.at c.args.width) c.loop-i-test.false in
    rw (c.loop-i.invariant ∙ ap (written c.loop-i.out) none) c.put_nothing.ensures.ok

pub returns-clause-err : goal.returns-clause-err
returns-clause-err c =
    let none = none_left (started_bytes c.args.width) c.loop-i.i (bits_at c.args.memory.now c.args.at c.args.width) c.loop-i-test.false in
    later_refused c.put_nothing.result c.args.out.now c.loop-i.out _ no_pieces (c.loop-i.invariant ∙ ap (written c.loop-i.out) none) c.put_nothing.ensures.err
