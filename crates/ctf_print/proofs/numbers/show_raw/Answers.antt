use Rattle.std.proofs.Common.{◌+◌, ◌*◌, length, sym, ◌∙◌, codes}
use Rattle.std.proofs.lemmas.Bool.{leb-true}
use Rattle.std.proofs.lemmas.Result.{err_from_is_err_and}
use Rattle.ctf_model.specs.values.MemoryBits.{bits_at, hexadecimal, started_bytes}
use Rattle.ctf_model.specs.values.Pieces.{piece}
use Rattle.ctf_print.proofs.Raws.{raw_is}
use Rattle.ctf_print.proofs.Writes.{next_ok, refused_first, later_refused}
use Rattle.ctf_print.proofs.numbers.show_raw.Goals as goal

pub returns-in_err-put_short-clause-err : goal.returns-in_err-put_short-clause-err
returns-in_err-put_short-clause-err c =
    let p = err_from_is_err_and c.from_residual.result c.from_residual.ensures.1 in
    let is = raw_is c.args.memory.now c.args.at c.args.width (leb-true (c.args.at + c.args.width) (8 * length c.args.memory.now) (sym c.has_bits.ensures ∙ c.if-has_bits.true)) in
    rw (p.1, p.2) (rw is (refused_first c.args.out.now _ _ _ c.in_err-put_short.ensures.err))

pub returns-in_ok-put_short-clause-ok : goal.returns-in_ok-put_short-clause-ok
returns-in_ok-put_short-clause-ok c =
    let is = raw_is c.args.memory.now c.args.at c.args.width (leb-true (c.args.at + c.args.width) (8 * length c.args.memory.now) (sym c.has_bits.ensures ∙ c.if-has_bits.true)) in
    rw (is, next_ok c.args.out.now c.put_short.new.self (piece (codes "0x")) (piece (hexadecimal (started_bytes c.args.width) (bits_at c.args.memory.now c.args.at c.args.width))) c.in_ok-put_short.ensures.ok) c.put_digits.ensures.ok

pub returns-in_ok-put_short-clause-err : goal.returns-in_ok-put_short-clause-err
returns-in_ok-put_short-clause-err c =
    let is = raw_is c.args.memory.now c.args.at c.args.width (leb-true (c.args.at + c.args.width) (8 * length c.args.memory.now) (sym c.has_bits.ensures ∙ c.if-has_bits.true)) in
    rw is (later_refused c.put_digits.result _ _ _ _ (next_ok c.args.out.now c.put_short.new.self (piece (codes "0x")) (piece (hexadecimal (started_bytes c.args.width) (bits_at c.args.memory.now c.args.at c.args.width))) c.in_ok-put_short.ensures.ok) c.put_digits.ensures.err)
