use Rattle.ctf_lines.proofs.singles.put_escaped.Goals as goal

pub returns : goal.returns
returns g c =
    let join = g.met.P.TextSink.joined in
    join _ _ _ _ _ c.put_one.ensures (join _ _ _ _ _ c.put_name.ensures c.put_one-2.ensures)
