use Rattle.ctf_lines.proofs.fields.put_list.Goals as goal

pub returns : goal.returns
returns g c =
    let join = g.met.P.TextSink.joined in
    join _ _ _ _ _ c.put_one.ensures (join _ _ _ _ _ c.put_series.ensures c.put_one-2.ensures)
