use Rattle.ctf_names.proofs.Lengths.{round_is}
use Rattle.ctf_names.proofs.name_lengths.round.Goals as goal

pub returns : goal.returns
returns c d e =
    round_is c.args.layer d c.args.inside c.mark_of-mark.result c.plus_front.result c.plus_sides.result c.first_beyond.result e c.mark_of-mark.ensures c.plus_front.ensures c.plus_sides.ensures c.first_beyond.ensures
