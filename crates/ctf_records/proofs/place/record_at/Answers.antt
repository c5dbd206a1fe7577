use Rattle.std.proofs.Common.{refl, sym, ◌∙◌, arith}
use Rattle.ctf_model.proofs.Walk.{front_len_range}
use Rattle.ctf_records.proofs.Whole.{none_past}
use Rattle.ctf_records.proofs.place.record_at.Goals as goal

pub returns-then-at-types : goal.returns-then-at-types
returns-then-at-types c = let none = none_past c.args.types.now c.args.at (omega (arith, c.if-at-types.true)) in rw none refl

pub take_record-requires-clause-near : goal.take_record-requires-clause-near
take_record-requires-clause-near c =
    let range = front_len_range c.split_at.result.1.now c.in_ok-len.len (sym c.front_len.ensures ∙ c.in_ok-len.was) in
    omega (arith, range.1, c.split_at.ensures.back_len, c.if-at-types.false)
