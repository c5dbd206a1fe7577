use Rattle.ctf_lines.proofs.fields.put_field.Goals as goal

pub returns : goal.returns
returns g c = g.met.P.TextSink.joined _ _ _ _ _ c.put_key.ensures c.put_value.ensures
