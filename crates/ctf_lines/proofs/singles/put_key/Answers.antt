use Rattle.std.proofs.Common.{ℕ, List, [], ◌∷◌, ◌++◌, ap}
use Rattle.ctf_lines.proofs.Walks.{as_text}
use Rattle.ctf_lines.proofs.singles.put_key.Goals as goal

pub returns : goal.returns
returns g c = as_text (g.P.TextSink.Took) (ap (λ (t : List ℕ). 34 ∷ (t ++ (34 ∷ 58 ∷ []))) c.as_bytes.ensures.value) c.put_between.ensures
