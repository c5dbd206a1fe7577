use Rattle.std.proofs.Common.{ℕ, List, [], ◌∷◌, ◌++◌, ap, sym}
use Rattle.ctf_lines.proofs.Walks.{as_text}
use Rattle.ctf_lines.proofs.singles.put_quoted.Goals as goal

pub returns-then-are_plain : goal.returns-then-are_plain
returns-then-are_plain g c =
    let plain = sym (c.are_plain.ensures c.if-are_plain.true) in
    as_text (g.P.TextSink.Took) (ap (λ (t : List ℕ). 34 ∷ (t ++ (34 ∷ []))) plain) c.put_between.ensures
