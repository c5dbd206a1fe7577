use Rattle.std.proofs.Common.{drop, arith}
use Rattle.std.proofs.lemmas.List.{length-drop}
use Rattle.ctf_model.proofs.Walk.{front_len_range}
use Rattle.ctf_records.proofs.place.record_of_len.Goals as goal

pub split_at-requires : goal.split_at-requires
split_at-requires c =
    let range = front_len_range (drop c.args.at c.args.types.now) c.args.len c.requires in
    omega (arith, range.0, range.1, length-drop c.args.at c.args.types.now)

pub take_record-requires-clause-near : goal.take_record-requires-clause-near
take_record-requires-clause-near c =
    let range = front_len_range (drop c.args.at c.args.types.now) c.args.len c.requires in
    omega (arith, range.0, range.1, length-drop c.args.at c.args.types.now)
